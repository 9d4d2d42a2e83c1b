use Rattle.std.proofs.Common.{◌<◌, ◌≤◌, ◌^◌, subst, ◌∙◌, arith}
use Rattle.lane_ops.proofs.Readings.{right_none}
use Rattle.lane_ops.proofs.shifts.right.Goals as goal

pub returns-else-n-from : goal.returns-else-n-from
returns-else-n-from g c =
    let e = g.T.Lane.BITS in
    let small : g.T.Lane.number c.args.a < 2 ^ g.T.Lane.BITS = subst (λ x. x < 2 ^ e) c.to_u64-lane.ensures.value c.to_u64-lane.ensures.below in
    let far : g.T.Lane.BITS ≤ c.args.n = omega arith in
    c.from_u64-else-n-from.ensures ∙ right_none e (g.T.Lane.number c.args.a) c.args.n small far
