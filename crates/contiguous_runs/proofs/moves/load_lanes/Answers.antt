use Rattle.std.proofs.Common.{arith}
use Rattle.contiguous_runs.proofs.moves.load_lanes.Goals as goal

pub load_away-requires-clause-within : goal.load_away-requires-clause-within
load_away-requires-clause-within c = omega (arith, c.if-base-from-gt-PAGE_SIZE.false, c.from.ensures)

pub load_within-requires-clause-within : goal.load_within-requires-clause-within
load_within-requires-clause-within c = omega (arith, c.if-base-from-gt-PAGE_SIZE.false, c.from.ensures)
