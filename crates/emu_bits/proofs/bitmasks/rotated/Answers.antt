-- The two parts share no bit.
use Rattle.std.proofs.Common.{◌≡◌, ℕ, ◌+◌, ◌*◌, ◌/◌, ◌%◌, ◌^◌, ◌-◌, ◌<◌, ◌≤◌, arith, subst, sym}
use Rattle.emu_bits.specs.Bitmask.{rotated}
use Rattle.emu_bits.proofs.Elements.{rotated_below, rotated_code, power_fits}
use Rattle.emu_bits.proofs.bitmasks.rotated.Goals as goal

pub overflow_add-result : goal.overflow_add-result
overflow_add-result c =
    let e : c.args.v / 2 ^ c.args.places + c.args.v % c.power.result * 2 ^ (c.args.bits - c.args.places) % 2 ^ 64 ≡ rotated c.args.bits c.args.v c.args.places =
    rotated_code c.args.bits c.args.v c.args.places c.power.result c.requires.bits (omega arith) c.requires.within c.power.ensures.value in
    let b : rotated c.args.bits c.args.v c.args.places < 2 ^ c.args.bits = rotated_below c.args.bits c.args.v c.args.places (omega arith) c.requires.within in
    let p : 2 ^ c.args.bits ≤ 2 ^ 64 = power_fits c.args.bits c.requires.bits in
    omega arith

pub returns-else-places-eq0-clause-value : goal.returns-else-places-eq0-clause-value
returns-else-places-eq0-clause-value c =
    rotated_code c.args.bits c.args.v c.args.places c.power.result c.requires.bits (omega arith) c.requires.within c.power.ensures.value

pub returns-else-places-eq0-clause-within : goal.returns-else-places-eq0-clause-within
returns-else-places-eq0-clause-within c =
    subst (λ (x : ℕ). x < 2 ^ c.args.bits)
    (sym (rotated_code c.args.bits c.args.v c.args.places c.power.result c.requires.bits (omega arith) c.requires.within c.power.ensures.value))
    (rotated_below c.args.bits c.args.v c.args.places (omega arith) c.requires.within)
