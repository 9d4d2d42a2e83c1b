-- The low bits of a number, and these read as signed.
use Rattle.std.proofs.Common.{◌≡◌, ℕ, suc, ◌+◌, ◌-◌, ◌*◌, ◌/◌, ◌%◌, ◌^◌, ◌<◌, ◌≤◌, Bool, cond, refl, sym, ap, ap₂, subst, ◌∙◌, nat_lt, arith, ℤ, pos, negsuc, ◌-ℤ◌, bit_and, w64, FitsSigned, of_z}
use Rattle.std.proofs.Math.Nat.{pow-suc, mod-lt, mod-add-div'}
use Rattle.std.proofs.Math.Pow.{shr_mod}
use Rattle.std.proofs.lemmas.Bool.{lt-ltb, le-ltb}
use Rattle.std.proofs.lemmas.Nat.{and_mask, mod-mul-add, pow-add}
use Rattle.emu_bits.proofs.Places.{some_power}
use Rattle.emu_bits.specs.Numbers.{signed, unsigned_int}

-- a power less 1 is a mask
pub masked : (v p n : ℕ) → p ≡ 2 ^ n → bit_and v (p - 1) ≡ v % 2 ^ n
masked v p n e = ap (λ (x : ℕ). bit_and v (x - 1)) e ∙ and_mask v n

pub double : (n : ℕ) → 1 ≤ n → 2 ^ n ≡ 2 ^ (n - 1) + 2 ^ (n - 1)
double n p =
    let e : n ≡ suc (n - 1) = omega arith in
    ap (λ (x : ℕ). 2 ^ x) e ∙ pow-suc 2 (n - 1) ∙ omega arith

-- ---- the low bits l of v, below h + h, read as signed

abbrev read : ℕ → ℕ → ℤ
read h l = cond (nat_lt l h) (pos l) (pos l -ℤ pos (h + h))

low_read : (v n h l : ℕ) → 1 ≤ n → h ≡ 2 ^ (n - 1) → l ≡ v % 2 ^ n → signed v n ≡ read h l
low_read v n h l p q e =
    let d : 2 ^ n ≡ h + h = omega (arith, double n p) in
    ap (λ (x : ℕ). cond (nat_lt x (2 ^ (n - 1))) (pos x) (pos x -ℤ pos (2 ^ n))) (sym e)
    ∙ ap₂ (λ (x y : ℕ). cond (nat_lt l x) (pos l) (pos l -ℤ pos y)) (sym q) d

pub sext_low : (v n h l : ℕ) → 1 ≤ n → h ≡ 2 ^ (n - 1) → l ≡ v % 2 ^ n → l < h → signed v n ≡ pos l
sext_low v n h l p q e f = low_read v n h l p q e ∙ ap (λ (t : Bool). cond t (pos l) (pos l -ℤ pos (h + h))) (lt-ltb l h f)

pub sext_high : (v n h l : ℕ) → 1 ≤ n → h ≡ 2 ^ (n - 1) → l ≡ v % 2 ^ n → h ≤ l → signed v n ≡ pos l -ℤ pos (h + h)
sext_high v n h l p q e f = low_read v n h l p q e ∙ ap (λ (t : Bool). cond t (pos l) (pos l -ℤ pos (h + h))) (le-ltb l h f)

-- ---- fewer of the bits of a whole number

below_zero : (n j w : ℕ) → n < 2 ^ (j + w) → (2 ^ (j + w) - suc n) % 2 ^ w ≡ 2 ^ w - 1 - n % 2 ^ w
below_zero n j w h =
    let d : ℕ = n / 2 ^ w in
    let q : ℕ = 2 ^ j - 1 - d in
    let upper : d < 2 ^ j = subst (λ (x : ℕ). x < 2 ^ j) (shr_mod j w h) (mod-lt d (some_power j)) in
    let lower : n % 2 ^ w < 2 ^ w = mod-lt n (some_power w) in
    let all : 2 ^ j ≡ q + 1 + d = omega (arith, upper) in
    let whole : 2 ^ (j + w) ≡ (q + 1 + d) * 2 ^ w = pow-add 2 j w ∙ ap (λ (x : ℕ). x * 2 ^ w) all in
    let is : 2 ^ (j + w) - suc n ≡ q * 2 ^ w + (2 ^ w - 1 - n % 2 ^ w) = omega (arith, mod-add-div' n (2 ^ w), whole, lower) in
    ap (λ (x : ℕ). x % 2 ^ w) is ∙ mod-mul-add q (2 ^ w) (2 ^ w - 1 - n % 2 ^ w) (omega (arith, lower))

pub narrowed : (z : ℤ) (w : ℕ) → w ≤ 64 → FitsSigned w64 z → of_z w64 z % 2 ^ w ≡ unsigned_int z w
narrowed (pos n) w b f = refl
narrowed (negsuc n) w b f =
    let e : 64 ≡ (64 - w) + w = omega arith in
    let small : n < 2 ^ 64 = omega (arith, f.sfits) in
    ap (λ (x : ℕ). (2 ^ x - suc n) % 2 ^ w) e ∙ below_zero n (64 - w) w (subst (λ (x : ℕ). n < 2 ^ x) e small)
