use Rattle.std.proofs.Common.{◌≡◌, ℕ, ◌+◌, ◌-◌, ◌*◌, ◌%◌, ◌^◌, ◌<◌, ◌≤◌, nat_le, nat_lt, subst, arith}
use Rattle.std.proofs.lemmas.Bool.{and_parts, leb-true, ltb-true}
use Rattle.std.proofs.lemmas.Nat.{pow_pos}
use Rattle.std.proofs.Math.Pow.{pow_mono}
use Rattle.emu_bits.proofs.Places.{put_fits}
use Rattle.text_code.proofs.bits.Built.with.Goals as goal

small : (v w : ℕ) → w ≤ 32 → v % (1 * 2 ^ w % 2 ^ 128) < 2 ^ w
small v w h =
    let p : 2 ^ w ≤ 2 ^ 32 = pow_mono h in
    let e : 2 ^ w ≡ 1 * 2 ^ w % 2 ^ 128 = omega (arith, p) in
    let q : 0 < 2 ^ w = pow_pos w in
    subst (λ (z : ℕ). v % z < 2 ^ w) e (omega (arith, q))

pub put-requires-clause-fits : goal.put-requires-clause-fits
put-requires-clause-fits c =
    let b = c.args.b in
    let w : ℕ = c.width.result in
    let h = and_parts (nat_le b.low b.high) (nat_lt b.high 32) c.requires in
    let l : b.low ≤ b.high = leb-true _ _ h.0 in
    let m : b.high < 32 = ltb-true _ _ h.1 in
    let is : w ≡ b.high - b.low + 1 = c.width.ensures.value in
    let low : c.from.result ≡ b.low = c.from.ensures in
    put_fits (c.args.value % (1 * 2 ^ w % 2 ^ 128)) w c.from.result (small c.args.value w (omega (arith, is, l, m))) (omega (arith, is, low, l, m))
