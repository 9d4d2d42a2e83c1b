use Rattle.std.proofs.Common.{◌≤◌, ◌<◌, ◌+◌, ◌^◌, nat_lt, nat_le, arith}
use Rattle.std.proofs.lemmas.Bool.{and_parts, leb-true, ltb-true}
use Rattle.std.proofs.Math.Pow.{pow_mono}
use Rattle.text_code.proofs.bits.ones.Goals as goal

pub overflow_sub-result : goal.overflow_sub-result
overflow_sub-result c =
    let b = c.args.b in
    let h = and_parts (nat_le b.low b.high) (nat_lt b.high 32) c.requires in
    let l : b.low ≤ b.high = leb-true _ _ h.0 in
    let m : b.high < 32 = ltb-true _ _ h.1 in
    let p : 2 ^ b.low ≤ 2 ^ (b.high + 1) = pow_mono {i = b.low} {j = b.high + 1} (omega (arith, l)) in
    let q : 2 ^ (b.high + 1) ≤ 2 ^ 32 = pow_mono {i = b.high + 1} {j = 32} (omega (arith, m)) in
    omega (arith, p, q)
