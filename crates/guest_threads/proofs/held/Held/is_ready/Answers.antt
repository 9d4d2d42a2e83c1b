use Rattle.std.proofs.Common.{◌<◌, ℕ, length, sym, subst}
use Rattle.guest_threads.proofs.Views.{within_seen}
use Rattle.guest_threads.proofs.held.Held.is_ready.Goals as goal

pub returns-clause-within : goal.returns-clause-within
returns-clause-within c = subst (λ (n : ℕ). n < length c.args.self.now.world.contexts) (sym c.requires) (within_seen c.self.inside.machine c.self.inside.last c.self.inside.contexts.items c.args.self.now c.self.view_is c.self.invariant.last)
