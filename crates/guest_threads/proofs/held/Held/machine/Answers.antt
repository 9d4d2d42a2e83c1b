use Rattle.guest_threads.proofs.Views.{machine_seen}
use Rattle.guest_threads.proofs.held.Held.machine.Goals as goal

pub returns : goal.returns
returns c = machine_seen c.self.inside.machine c.self.inside.last c.self.inside.contexts.items c.args.self.now c.self.view_is c.self.invariant.last
