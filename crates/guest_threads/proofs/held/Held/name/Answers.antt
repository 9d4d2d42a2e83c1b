use Rattle.std.proofs.Common.{ap, sym, ◌∙◌}
use Rattle.emu_run.specs.ThreadCall.{thread_call}
use Rattle.guest_threads.proofs.Views.{core_seen}
use Rattle.guest_threads.proofs.held.Held.name.Goals as goal

pub returns : goal.returns
returns c = c.thread_call.ensures ∙ ap thread_call (c.core.ensures ∙ sym (core_seen c.self.inside.machine c.self.inside.last c.self.inside.contexts.items c.args.self.now c.self.view_is c.self.invariant.last))
