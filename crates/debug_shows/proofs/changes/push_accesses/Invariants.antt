use Rattle.std.proofs.Common.{◌≤◌}
use Rattle.debug_shows.proofs.changes.push_accesses.Given as goal

-- no more are shown than there were
abbrev pub invariant-accesses : goal.invariant-accesses
invariant-accesses l = l.shown ≤ l.k
