use Rattle.std.specs.List.{list_all}
use Rattle.std.proofs.Common.{List, ap, sym, ◌∙◌}
use Rattle.emu_run.specs.Worlds.{is_gone, World, Context}
use Rattle.emu_run.specs.ThreadCall.{all_gone}
use Rattle.guest_contexts.proofs.Laid.{all_gone_same}
use Rattle.guest_threads.proofs.Views.{world_is}
use Rattle.guest_threads.proofs.held.Held.is_left.Goals as goal

pub returns : goal.returns
returns c = c.are_all_gone.ensures ∙ ap (λ (x : List Context). list_all is_gone x) c.deref.ensures.value ∙ sym (all_gone_same c.self.inside.machine.parts c.self.inside.last c.self.inside.contexts.items) ∙ ap (λ (w : World). all_gone w) (world_is c.self.inside.machine c.self.inside.last c.self.inside.contexts.items c.args.self.now c.self.view_is)
