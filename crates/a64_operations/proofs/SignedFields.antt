-- A field that is moved left, until its top bit is the register's, and then right with copies of that bit above.
use Rattle.std.proofs.Common.{◌≡◌, ℕ, ◌+◌, ◌-◌, ◌*◌, ◌/◌, ◌%◌, ◌^◌, ◌<◌, ◌≤◌, Bool, true, false, nat_le, if◌then◌else◌, refl, sym, ap, subst, ◌∙◌, inl, inr, arith, ℤ, pos, negsuc, ◌-ℤ◌}
use Rattle.std.specs.Int.{int_shr}
use Rattle.std.proofs.Math.Nat.{div-div-eq-div-mul, div-le_self, mod-eq_of_lt, mod-add-div', mul-le-mul_right, pow-le-pow_right}
use Rattle.std.proofs.lemmas.Bool.{cases_lt}
use Rattle.std.proofs.lemmas.Bool.Decides.{nat_tests}
use Rattle.std.proofs.lemmas.Int.{ints}
use Rattle.std.proofs.lemmas.Nat.{div-mul-add, div_below, le-div, mod_below, pow-add, pow_pos, shl_below}
use Rattle.a64_insn.specs.declared.ops.BitfieldOp.TheVariants.{Sbfm}
use Rattle.a64_effects.specs.Scalar.{operand, after_bitfield}
use Rattle.emu_bits.proofs.Signs.{double, sext_low, sext_high}
use Rattle.emu_bits.specs.Fields.{field}
use Rattle.emu_bits.specs.Numbers.{signed, unsigned_int, sign_extended}
use Rattle.emu_bits.specs.Operations.{asr, lsl, field_from, field_bits, field_to}
use Rattle.emu_model.specs.Access.{Memory}
use Rattle.emu_model.specs.Done.{went_well}
use Rattle.emu_model.specs.State.{Core, Vectors, with_x}
use Rattle.a64_operations.proofs.Bitfields.{left, field_of_low, cancelled}

-- ---- numbers by their top bit

right_low : (w y q : ℕ) → 1 ≤ w → y < 2 ^ (w - 1) → asr w y q ≡ y / 2 ^ q
right_low w y q some small =
    let all : 2 ^ w ≡ 2 ^ (w - 1) + 2 ^ (w - 1) = double w some in
    let fits : y < 2 ^ w = omega arith in
    let is : signed y w ≡ pos y = sext_low y w (2 ^ (w - 1)) y some refl (sym (mod-eq_of_lt fits)) small in
    let less : y / 2 ^ q ≤ y = div-le_self y (2 ^ q) in
    ap (λ (z : ℤ). unsigned_int (int_shr z q) w) is ∙ mod-eq_of_lt (omega arith)

negative : (w y : ℕ) → 1 ≤ w → 2 ^ (w - 1) ≤ y → y < 2 ^ w → signed y w ≡ negsuc (2 ^ w - 1 - y)
negative w y some high small =
    let all : 2 ^ w ≡ 2 ^ (w - 1) + 2 ^ (w - 1) = double w some in
    let is : signed y w ≡ pos y -ℤ pos (2 ^ (w - 1) + 2 ^ (w - 1)) = sext_high y w (2 ^ (w - 1)) y some refl (sym (mod-eq_of_lt small)) high in
    let below : pos y -ℤ pos (2 ^ (w - 1) + 2 ^ (w - 1)) ≡ negsuc (2 ^ w - 1 - y) = omega (arith, ints) in
    is ∙ below

right_high : (w y q : ℕ) → 1 ≤ w → 2 ^ (w - 1) ≤ y → y < 2 ^ w → asr w y q ≡ 2 ^ w - 1 - (2 ^ w - 1 - y) / 2 ^ q
right_high w y q some high small =
    let less : (2 ^ w - 1 - y) / 2 ^ q ≤ 2 ^ w - 1 - y = div-le_self (2 ^ w - 1 - y) (2 ^ q) in
    let whole : (2 ^ w - 1 - y) / 2 ^ q % 2 ^ w ≡ (2 ^ w - 1 - y) / 2 ^ q = mod-eq_of_lt (omega arith) in
    ap (λ (z : ℤ). unsigned_int (int_shr z q) w) (negative w y some high small) ∙ ap (λ (m : ℕ). 2 ^ w - 1 - m) whole

low_extended : (w n f : ℕ) → 1 ≤ n → n ≤ w → f < 2 ^ (n - 1) → sign_extended w n f ≡ f
low_extended w n f some most small =
    let all : 2 ^ n ≡ 2 ^ (n - 1) + 2 ^ (n - 1) = double n some in
    let fits : f < 2 ^ n = omega arith in
    let wider : 2 ^ n ≤ 2 ^ w = pow-le-pow_right {n = 2} (omega arith) {i = n} {j = w} most in
    let is : signed f n ≡ pos f = sext_low f n (2 ^ (n - 1)) f some refl (sym (mod-eq_of_lt fits)) small in
    ap (λ (z : ℤ). unsigned_int z w) is ∙ mod-eq_of_lt (omega arith)

high_extended : (w n f : ℕ) → 1 ≤ n → n ≤ w → 2 ^ (n - 1) ≤ f → f < 2 ^ n → sign_extended w n f ≡ 2 ^ w - 1 - (2 ^ n - 1 - f)
high_extended w n f some most high small =
    let wider : 2 ^ n ≤ 2 ^ w = pow-le-pow_right {n = 2} (omega arith) {i = n} {j = w} most in
    let whole : (2 ^ n - 1 - f) % 2 ^ w ≡ 2 ^ n - 1 - f = mod-eq_of_lt (omega arith) in
    ap (λ (z : ℤ). unsigned_int z w) (negative n f some high small) ∙ ap (λ (m : ℕ). 2 ^ w - 1 - m) whole

-- ---- the low bits t of the register, the field's and those below it

low_moved : (t n r l w : ℕ) → 1 ≤ n → w ≡ n + r + l → t < 2 ^ (n - 1 + r) → asr w (t * 2 ^ l) (l + r) ≡ sign_extended w n (t / 2 ^ r)
low_moved t n r l w some wide low =
    let top : n - 1 + r + l ≡ w - 1 = omega arith in
    let moved : t * 2 ^ l < 2 ^ (n - 1 + r + l) = shl_below t (n - 1 + r) l low in
    let within : t * 2 ^ l < 2 ^ (w - 1) = subst (λ (m : ℕ). t * 2 ^ l < 2 ^ m) top moved in
    let split : t < 2 ^ (n - 1) * 2 ^ r = subst (λ (m : ℕ). t < m) (pow-add 2 (n - 1) r) low in
    let field_low : t / 2 ^ r < 2 ^ (n - 1) = div_below t (2 ^ r) (2 ^ (n - 1)) (pow_pos r) split in
    right_low w (t * 2 ^ l) (l + r) (omega arith) within ∙ cancelled t l r ∙ sym (low_extended w n (t / 2 ^ r) some (omega arith) field_low)

high_moved : (t n r l w : ℕ) → 1 ≤ n → w ≡ n + r + l → 2 ^ (n - 1 + r) ≤ t → t < 2 ^ (n + r)
    → asr w (t * 2 ^ l) (l + r) ≡ sign_extended w n (t / 2 ^ r)
high_moved t n r l w some wide high small =
    let u : ℕ = 2 ^ (n + r) - 1 - t in
    let a : ℕ = t / 2 ^ r in
    let b : ℕ = t % 2 ^ r in
    let v : ℕ = 2 ^ n - 1 - a in
    let top : n - 1 + r + l ≡ w - 1 = omega arith in
    let sums : 2 ^ (n - 1 + r) * 2 ^ l ≡ 2 ^ (w - 1) = sym (pow-add 2 (n - 1 + r) l) ∙ ap (λ (m : ℕ). 2 ^ m) top in
    let raised : 2 ^ (n - 1 + r) * 2 ^ l ≤ t * 2 ^ l = mul-le-mul_right (2 ^ l) high in
    let from : 2 ^ (w - 1) ≤ t * 2 ^ l = omega arith in
    let moved : t * 2 ^ l < 2 ^ (n + r + l) = shl_below t (n + r) l small in
    let within : t * 2 ^ l < 2 ^ w = subst (λ (m : ℕ). t * 2 ^ l < 2 ^ m) (sym wide) moved in
    let some_l : 0 < 2 ^ l = pow_pos l in
    let some_r : 0 < 2 ^ r = pow_pos r in
    let part : 2 ^ (n + r) ≡ u + 1 + t = omega arith in
    let all : 2 ^ w ≡ (u + 1 + t) * 2 ^ l = ap (λ (m : ℕ). 2 ^ m) wide ∙ pow-add 2 (n + r) l ∙ ap (λ (m : ℕ). m * 2 ^ l) part in
    let rest : 2 ^ w - 1 - t * 2 ^ l ≡ u * 2 ^ l + (2 ^ l - 1) = omega (arith, all, some_l) in
    let divided : (2 ^ w - 1 - t * 2 ^ l) / 2 ^ (l + r) ≡ u / 2 ^ r =
    ap (λ (m : ℕ). m / 2 ^ (l + r)) rest
    ∙ ap (λ (m : ℕ). (u * 2 ^ l + (2 ^ l - 1)) / m) (pow-add 2 l r)
    ∙ sym (div-div-eq-div-mul (u * 2 ^ l + (2 ^ l - 1)) (2 ^ l) (2 ^ r))
    ∙ ap (λ (m : ℕ). m / 2 ^ r) (div-mul-add u (2 ^ l) (2 ^ l - 1) (omega arith)) in
    let two : 2 ^ (n + r) ≡ 2 ^ n * 2 ^ r = pow-add 2 n r in
    let split : t < 2 ^ n * 2 ^ r = subst (λ (m : ℕ). t < m) two small in
    let a_small : a < 2 ^ n = div_below t (2 ^ r) (2 ^ n) some_r split in
    let a_high : 2 ^ (n - 1) ≤ a = le-div (2 ^ (n - 1)) t (2 ^ r) some_r (subst (λ (m : ℕ). m ≤ t) (pow-add 2 (n - 1) r) high) in
    let b_small : b < 2 ^ r = mod_below t (2 ^ r) some_r in
    let is : b + a * 2 ^ r ≡ t = mod-add-div' t (2 ^ r) in
    let n_all : 2 ^ n ≡ v + 1 + a = omega arith in
    let grown : 2 ^ (n + r) ≡ (v + 1 + a) * 2 ^ r = two ∙ ap (λ (m : ℕ). m * 2 ^ r) n_all in
    let u_is : u ≡ v * 2 ^ r + (2 ^ r - 1 - b) = omega (arith, grown, is, b_small) in
    let u_moved : u / 2 ^ r ≡ v = ap (λ (m : ℕ). m / 2 ^ r) u_is ∙ div-mul-add v (2 ^ r) (2 ^ r - 1 - b) (omega arith) in
    right_high w (t * 2 ^ l) (l + r) (omega arith) from within
    ∙ ap (λ (m : ℕ). 2 ^ w - 1 - m) (divided ∙ u_moved)
    ∙ sym (high_extended w n a some (omega arith) a_high a_small)

moved : (t n r l w : ℕ) → 1 ≤ n → w ≡ n + r + l → t < 2 ^ (n + r) → asr w (t * 2 ^ l) (l + r) ≡ sign_extended w n (t / 2 ^ r)
moved t n r l w some wide small =
    elim (cases_lt t (2 ^ (n - 1 + r))) [
      | inl low ↦ low_moved t n r l w some wide low
      | inr high ↦ high_moved t n r l w some wide high small
    ]

-- the bits s:r of a register of w bits, to its lowest place
to_zero : (x w r s l : ℕ) → r ≤ s → l + s + 1 ≡ w → asr w (lsl w x l) (l + r) ≡ sign_extended w (s - r + 1) (field x r (s - r + 1))
to_zero x w r s l order e =
    let n : ℕ = s - r + 1 in
    let wide : w ≡ n + r + l = omega arith in
    let low : x * 2 ^ l % 2 ^ w ≡ x % 2 ^ (n + r) * 2 ^ l = ap (λ (m : ℕ). x * 2 ^ l % 2 ^ m) wide ∙ left x (n + r) l in
    ap (λ (m : ℕ). asr w m (l + r)) low
    ∙ moved (x % 2 ^ (n + r)) n r l w (omega arith) wide (mod_below x (2 ^ (n + r)) (pow_pos (n + r)))
    ∙ ap (λ (m : ℕ). sign_extended w n m) (field_of_low x n r)

-- the same, as the fields r and s of a move say it
signed_moved : (x w r s l q : ℕ) → r ≤ s → l + s + 1 ≡ w → q ≡ (if nat_le r s then w - 1 - s + r else r - 1 - s)
    → asr w (lsl w x l) q ≡ sign_extended w (field_bits r s) (field x (field_from r s) (field_bits r s)) * 2 ^ field_to w r s
signed_moved x w r s l q order e =
    elim (nat_le r s) as (λ (b : Bool). nat_le r s ≡ b → q ≡ (if b then w - 1 - s + r else r - 1 - s)
    → asr w (lsl w x l) q ≡ sign_extended w (if b then s - r + 1 else s + 1) (field x (if b then r else 0) (if b then s - r + 1 else s + 1))
    * 2 ^ (if b then 0 else w - r)) [
      | true ↦ λ le is.
          let far : q ≡ l + r = omega arith in
          ap (λ (m : ℕ). asr w (lsl w x l) m) far
          ∙ to_zero x w r s l order e
          ∙ once (sign_extended w (s - r + 1) (field x r (s - r + 1)))
      | false ↦ λ le is. let back : s < r = grind (arith, nat_tests) in absurd (omega arith)
    ] refl
  where
    once : (n : ℕ) → n ≡ n * 2 ^ 0
    once n = omega arith

-- what a register is left with, and no other
pub signed_left : (w r s l q d n rd rn : ℕ) → r ≤ s → l + s + 1 ≡ w → q ≡ (if nat_le r s then w - 1 - s + r else r - 1 - s)
    → d ≡ rd → n ≡ rn → (c : Core) (v : Vectors) (m : Memory)
    → went_well (with_x c d w (asr w (lsl w (operand w c n) l) q)) v m ≡ went_well (after_bitfield Sbfm w r s rn rd c) v m
signed_left w r s l q d n rd rn order e is p o c v m =
    rw (p, o) (ap (λ (x : ℕ). went_well (with_x c rd w x) v m) (signed_moved (operand w c rn) w r s l q order e is))
