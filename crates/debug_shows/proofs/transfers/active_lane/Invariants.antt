use Rattle.std.proofs.Common.{◌≤◌}
use Rattle.debug_shows.proofs.transfers.active_lane.Given as goal

-- no more are active than were asked
abbrev pub invariant-lanes : goal.invariant-lanes
invariant-lanes l = l.active ≤ l.i
