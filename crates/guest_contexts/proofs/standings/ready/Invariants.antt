use Rattle.guest_contexts.proofs.Found.{AreFound}
use Rattle.guest_contexts.proofs.standings.ready.Given as goal

abbrev pub invariant-loop-k : goal.invariant-loop-k
invariant-loop-k l = AreFound l.contexts l.k l.numbers.items
