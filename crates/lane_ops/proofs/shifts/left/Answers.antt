use Rattle.std.proofs.Common.{◌≤◌, ◌∙◌, arith}
use Rattle.lane_ops.proofs.Readings.{left_none}
use Rattle.lane_ops.proofs.shifts.left.Goals as goal

pub returns-else-n-from : goal.returns-else-n-from
returns-else-n-from g c =
    let e = g.T.Lane.BITS in
    let far : g.T.Lane.BITS ≤ c.args.n = omega arith in
    c.from_u64-else-n-from.ensures ∙ left_none e (g.T.Lane.number c.args.a) c.args.n far
