use Rattle.std.proofs.Common.{◌<◌, ◌^◌, ℕ, sym, subst, ◌∙◌}
use Rattle.lane_ops.proofs.Readings.{some_bits, distance_below, distance_above}
use Rattle.lane_ops.proofs.sums.SabdLaneWise2.one.Goals as goal

pub returns-then-signed_less : goal.returns-then-signed_less
returns-then-signed_less g c =
    let e = g.T.Lane.BITS in
    let n : g.row.T.Denot → ℕ = g.T.Lane.number in
    let some = some_bits e g.met.T.Lane.width in
    let first : n c.args.a < 2 ^ e = subst (λ x. x < 2 ^ e) c.to_u64-first.ensures.value c.to_u64-first.ensures.below in
    let second : n c.args.b < 2 ^ e = subst (λ x. x < 2 ^ e) c.to_u64-second.ensures.value c.to_u64-second.ensures.below in
    c.sub_mod.ensures ∙ distance_below e (n c.args.a) (n c.args.b) some first second (sym c.signed_less.ensures ∙ c.if-signed_less.true)

pub returns-else-signed_less : goal.returns-else-signed_less
returns-else-signed_less g c =
    let e = g.T.Lane.BITS in
    let n : g.row.T.Denot → ℕ = g.T.Lane.number in
    let some = some_bits e g.met.T.Lane.width in
    let first : n c.args.a < 2 ^ e = subst (λ x. x < 2 ^ e) c.to_u64-first.ensures.value c.to_u64-first.ensures.below in
    let second : n c.args.b < 2 ^ e = subst (λ x. x < 2 ^ e) c.to_u64-second.ensures.value c.to_u64-second.ensures.below in
    c.sub_mod-else-signed_less.ensures ∙ distance_above e (n c.args.a) (n c.args.b) some first second (sym c.signed_less.ensures ∙ c.if-signed_less.false)
