-- The low bits are read by their top bit.
use Rattle.std.proofs.Common.{◌≡◌, ℕ, ◌+◌, ◌-◌, ◌^◌, ◌<◌, ◌≤◌, pos, ◌-ℤ◌, ◌∙◌, sym, arith}
use Rattle.std.proofs.Math.Nat.{pow-le-pow_right}
use Rattle.std.proofs.lemmas.Int.{ints}
use Rattle.emu_bits.specs.Numbers.{signed}
use Rattle.emu_bits.proofs.Signs.{double, sext_low, sext_high}
use Rattle.emu_bits.proofs.numbers.sext.Goals as goal

pub returns-then-low-half : goal.returns-then-low-half
returns-then-low-half c =
    let e : signed c.args.v c.args.n ≡ pos c.low_bits-low.result =
    sext_low c.args.v c.args.n c.power-half.result c.low_bits-low.result c.requires.some c.power-half.ensures.value c.low_bits-low.ensures.value c.if-low-half.true in
    let p : 2 ^ (c.args.n - 1) ≤ 2 ^ 63 = pow-le-pow_right {n = 2} (omega arith) {i = c.args.n - 1} {j = 63} (omega arith) in
    omega (arith, ints) ∙ sym e

pub returns-else-low-half : goal.returns-else-low-half
returns-else-low-half c =
    let l : ℕ = c.low_bits-low.result in
    let e : signed c.args.v c.args.n ≡ pos l -ℤ pos (c.power-half.result + c.power-half.result) =
    sext_high c.args.v c.args.n c.power-half.result l c.requires.some c.power-half.ensures.value c.low_bits-low.ensures.value c.if-low-half.false in
    let b : l < c.power-half.result + c.power-half.result = omega (arith, double c.args.n c.requires.some) in
    let p : 2 ^ (c.args.n - 1) ≤ 2 ^ 63 = pow-le-pow_right {n = 2} (omega arith) {i = c.args.n - 1} {j = 63} (omega arith) in
    omega (arith, ints) ∙ sym e
