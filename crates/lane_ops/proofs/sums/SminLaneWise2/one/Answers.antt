use Rattle.std.proofs.Common.{◌≡◌, ◌<◌, ◌%◌, ◌^◌, ℕ, sym, ap, ◌∙◌, subst}
use Rattle.std.proofs.Math.Nat.{mod-eq_of_lt}
use Rattle.std.specs.Int.{int_min}
use Rattle.emu_bits.specs.Numbers.{signed, unsigned_int}
use Rattle.lane_ops.proofs.Greater.{min_then, min_else, signed_back}
use Rattle.lane_ops.proofs.sums.SminLaneWise2.one.Goals as goal

pub returns-then-signed_less : goal.returns-then-signed_less
returns-then-signed_less g c =
    let e = g.T.Lane.BITS in
    let n : g.row.T.Denot → ℕ = g.T.Lane.number in
    let small : n c.args.a < 2 ^ e = subst (λ x. x < 2 ^ e) c.to_u64-first.ensures.value c.to_u64-first.ensures.below in
    let chosen = min_then (signed (n c.args.a) e) (signed (n c.args.b) e) (sym c.signed_less.ensures ∙ c.if-signed_less.true) in
    let is : unsigned_int (int_min (signed (n c.args.a) e) (signed (n c.args.b) e)) e ≡ n c.args.a = ap (λ z. unsigned_int z e) chosen ∙ signed_back e (n c.args.a) small in
    sym (ap (λ x. x % 2 ^ e) is ∙ mod-eq_of_lt small)

pub returns-else-signed_less : goal.returns-else-signed_less
returns-else-signed_less g c =
    let e = g.T.Lane.BITS in
    let n : g.row.T.Denot → ℕ = g.T.Lane.number in
    let small : n c.args.b < 2 ^ e = subst (λ x. x < 2 ^ e) c.to_u64-second.ensures.value c.to_u64-second.ensures.below in
    let chosen = min_else (signed (n c.args.a) e) (signed (n c.args.b) e) (sym c.signed_less.ensures ∙ c.if-signed_less.false) in
    let is : unsigned_int (int_min (signed (n c.args.a) e) (signed (n c.args.b) e)) e ≡ n c.args.b = ap (λ z. unsigned_int z e) chosen ∙ signed_back e (n c.args.b) small in
    sym (ap (λ x. x % 2 ^ e) is ∙ mod-eq_of_lt small)
