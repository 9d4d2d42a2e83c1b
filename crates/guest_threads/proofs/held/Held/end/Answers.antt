use Rattle.std.proofs.Common.{List, ap, sym, ◌∙◌}
use Rattle.std.specs.List.{list_any}
use Rattle.emu_run.specs.Worlds.{World, Context, is_ready, some_ready}
use Rattle.guest_contexts.proofs.Laid.{some_ready_same}
use Rattle.guest_threads.proofs.Picked.{spent_of, stuck_of}
use Rattle.guest_threads.proofs.Views.{world_is}
use Rattle.guest_threads.proofs.held.Held.end.Goals as goal

pub returns-in-Spent : goal.returns-in-Spent
returns-in-Spent c =
    let some = ap (λ (x : List Context). list_any is_ready x) c.deref.ensures.value ∙ sym (some_ready_same c.self.inside.machine.parts c.self.inside.last c.self.inside.contexts.items) ∙ ap (λ (w : World). some_ready w) (world_is c.self.inside.machine c.self.inside.last c.self.inside.contexts.items c.args.self.now c.self.view_is) in
    spent_of c.args.self.now.world (ap (λ (w : World). w.ended) (sym (world_is c.self.inside.machine c.self.inside.last c.self.inside.contexts.items c.args.self.now c.self.view_is)) ∙ sym c.ending.ensures ∙ c.in-None.is) (sym some ∙ c.rest_of.ensures.spent c.in-Spent.is)

pub returns-in-Stuck : goal.returns-in-Stuck
returns-in-Stuck c =
    let some = ap (λ (x : List Context). list_any is_ready x) c.deref.ensures.value ∙ sym (some_ready_same c.self.inside.machine.parts c.self.inside.last c.self.inside.contexts.items) ∙ ap (λ (w : World). some_ready w) (world_is c.self.inside.machine c.self.inside.last c.self.inside.contexts.items c.args.self.now c.self.view_is) in
    stuck_of c.args.self.now.world (ap (λ (w : World). w.ended) (sym (world_is c.self.inside.machine c.self.inside.last c.self.inside.contexts.items c.args.self.now c.self.view_is)) ∙ sym c.ending.ensures ∙ c.in-None.is) (sym some ∙ c.rest_of.ensures.stuck c.in-Stuck.is)
