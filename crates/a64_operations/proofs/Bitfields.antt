-- A field that is moved left, until its top bit is the register's, and then right.
use Rattle.std.proofs.Common.{◌≡◌, ℕ, ◌+◌, ◌-◌, ◌*◌, ◌/◌, ◌%◌, ◌^◌, ◌<◌, ◌≤◌, Bool, true, false, nat_le, if◌then◌else◌, refl, sym, ap, ◌∙◌, arith}
use Rattle.std.proofs.lemmas.Bool.Decides.{nat_tests}
use Rattle.std.proofs.Math.Nat.{mul-div_cancel, div-div-eq-div-mul, mul-mod_left}
use Rattle.std.proofs.lemmas.Nat.{mod-pow-add, div-mul-add, mod_below, pow-add, pow_pos}
use Rattle.a64_insn.specs.declared.ops.BitfieldOp.TheVariants.{Ubfm}
use Rattle.a64_effects.specs.Scalar.{operand, after_bitfield}
use Rattle.emu_bits.specs.Fields.{field}
use Rattle.emu_bits.specs.Operations.{lsl, lsr, field_from, field_bits, field_to}
use Rattle.emu_model.specs.Access.{Memory}
use Rattle.emu_model.specs.Done.{went_well}
use Rattle.emu_model.specs.State.{Core, Vectors, with_x}

-- the bits that stay within the width
pub left : (x j k : ℕ) → x * 2 ^ k % 2 ^ (j + k) ≡ x % 2 ^ j * 2 ^ k
left x j k =
    let split = mod-pow-add (x * 2 ^ k) j k in
    let back : x * 2 ^ k / 2 ^ k ≡ x = mul-div_cancel x (pow_pos k) in
    let none : x * 2 ^ k % 2 ^ k ≡ 0 = mul-mod_left x (2 ^ k) in
    rw (split, back, none) (omega arith)

-- bits from a place on, and then the low ones of these
pub field_of_low : (x j r : ℕ) → x % 2 ^ (j + r) / 2 ^ r ≡ x / 2 ^ r % 2 ^ j
field_of_low x j r = rw (mod-pow-add x j r) (div-mul-add (x / 2 ^ r % 2 ^ j) (2 ^ r) (x % 2 ^ r) (mod_below x (2 ^ r) (pow_pos r)))

-- moved left by l and right by l + r
pub cancelled : (y l r : ℕ) → y * 2 ^ l / 2 ^ (l + r) ≡ y / 2 ^ r
cancelled y l r =
    rw (pow-add 2 l r) (sym (div-div-eq-div-mul (y * 2 ^ l) (2 ^ l) (2 ^ r)) ∙ ap (λ (n : ℕ). n / 2 ^ r) (mul-div_cancel y (pow_pos l)))

-- where r ≤ s: j bits from place r on
pub to_zero : (x j r l : ℕ) → x * 2 ^ l % 2 ^ (j + r + l) / 2 ^ (l + r) ≡ x / 2 ^ r % 2 ^ j
to_zero x j r l = rw (left x (j + r) l) (cancelled (x % 2 ^ (j + r)) l r ∙ field_of_low x j r)

-- where r > s: j bits to place t
pub to_place : (x j q t : ℕ) → x * 2 ^ (t + q) % 2 ^ (j + (t + q)) / 2 ^ q ≡ x % 2 ^ j * 2 ^ t
to_place x j q t =
    let y : ℕ = x % 2 ^ j in
    let regrouped : y * 2 ^ (t + q) ≡ y * 2 ^ t * 2 ^ q = rw (pow-add 2 t q) (omega arith) in
    rw (left x j (t + q), regrouped) (mul-div_cancel (y * 2 ^ t) (pow_pos q))

-- both, as the fields r and s of a move say it
pub unsigned_moved : (x w r s l q : ℕ) → r < w → s < w → l + s + 1 ≡ w → q ≡ (if nat_le r s then w - 1 - s + r else r - 1 - s)
    → x * 2 ^ l % 2 ^ w / 2 ^ q ≡ field x (field_from r s) (field_bits r s) * 2 ^ field_to w r s
unsigned_moved x w r s l q from to e =
    elim (nat_le r s) as (λ (b : Bool). nat_le r s ≡ b → q ≡ (if b then w - 1 - s + r else r - 1 - s)
    → x * 2 ^ l % 2 ^ w / 2 ^ q ≡ field x (if b then r else 0) (if b then s - r + 1 else s + 1) * 2 ^ (if b then 0 else w - r)) [
      | true ↦ λ le is.
          let order : r ≤ s = grind (arith, nat_tests) in
          let wide : w ≡ (s - r + 1) + r + l = omega arith in
          let far : q ≡ l + r = omega arith in
          ap (λ (n : ℕ). x * 2 ^ l % 2 ^ n / 2 ^ q) wide
          ∙ ap (λ (n : ℕ). x * 2 ^ l % 2 ^ ((s - r + 1) + r + l) / 2 ^ n) far
          ∙ to_zero x (s - r + 1) r l
          ∙ once (x / 2 ^ r % 2 ^ (s - r + 1))
      | false ↦ λ le is.
          let order : s < r = grind (arith, nat_tests) in
          let wide : w ≡ (s + 1) + ((w - r) + q) = omega arith in
          let near : l ≡ (w - r) + q = omega arith in
          ap (λ (n : ℕ). x * 2 ^ l % 2 ^ n / 2 ^ q) wide
          ∙ ap (λ (n : ℕ). x * 2 ^ n % 2 ^ ((s + 1) + ((w - r) + q)) / 2 ^ q) near
          ∙ to_place x (s + 1) q (w - r)
          ∙ ap (λ (n : ℕ). n % 2 ^ (s + 1) * 2 ^ (w - r)) (whole x)
    ] refl
  where
    once : (n : ℕ) → n ≡ n * 2 ^ 0
    once n = omega arith

    whole : (n : ℕ) → n ≡ n / 2 ^ 0
    whole n = omega arith

-- what a register is left with, and no other
pub unsigned_left : (w r s l q d n rd rn : ℕ) → r < w → s < w → l + s + 1 ≡ w → q ≡ (if nat_le r s then w - 1 - s + r else r - 1 - s)
    → d ≡ rd → n ≡ rn → (c : Core) (v : Vectors) (m : Memory)
    → went_well (with_x c d w (lsr (lsl w (operand w c n) l) q)) v m ≡ went_well (after_bitfield Ubfm w r s rn rd c) v m
unsigned_left w r s l q d n rd rn from to e is p o c v m =
    rw (p, o) (ap (λ (x : ℕ). went_well (with_x c rd w x) v m) (unsigned_moved (operand w c rn) w r s l q from to e is))
