-- A word whose target's bits are 0, aimed at the address that another shows, is that other.
use Rattle.std.proofs.Common.{◌≡◌, ℕ, zero, suc, ◌+◌, ◌-◌, ◌*◌, ◌/◌, ◌%◌, ◌^◌, ◌<◌, ◌≤◌, ◌==◌, if◌then◌else◌, Bool, true, Option, Some, None, List, bit_and, bit_or, nat_lt, nat_le, refl, sym, ap, ◌∙◌, arith, inl, inr}
use Rattle.std.proofs.lemmas.Bool.{cases_Bool, and_parts, eqb-true, eq-eqb, ltb-true, leb-true}
use Rattle.std.proofs.Math.Nat.{mod-eq_of_lt, mul-div_cancel, add-mul-mod_self_right, mul-add, mod-eq-sub-div-mul, mul-lt-mul_of_pos_right}
use Rattle.emu_bits.specs.Rows.{Place}
use Rattle.text_model.specs.Slots.{bits_in, joined, is_low, target_address}
use Rattle.text_model.specs.Told.{parted, Built, all_bound}
use Rattle.text_model.specs.Text.{ones_of}
use Rattle.text_model.specs.Aim.{Reach, reach_bits, aimed}
use Rattle.text_model.specs.ReadBack.{reached}
use Rattle.text_model.proofs.Building.{are_places, joined_small, parted_so, masked, with_bits, all_put, nothing}
use Rattle.text_model.proofs.Building.{whole as whole_word}
use Rattle.text_model.proofs.Own.{parts_told}
use Rattle.text_model.proofs.Tests.{is_good_scale, are_good_places, is_good_reach}

-- an offset taken from its base again
away : (base d : ℕ) → base < 2 ^ 64 → d < 2 ^ 64 → ((base + d) % 2 ^ 64 + (2 ^ 64 - base)) % 2 ^ 64 ≡ d
away base d h k = omega arith

product_some : (m n : ℕ) → 0 < n → 0 < m → 0 < n * m
product_some m n h k = let p : 0 * m < n * m = mul-lt-mul_of_pos_right h k in omega (arith, p)

-- n numbers go round in 2^64, and m of them within the q of a scale
module _ (n q m v : ℕ) (some : 0 < n) (whole : n * q ≡ 2 ^ 64) (fits : m ≤ q) (round : q % m ≡ 0) (small : v < m) where
  forth : n * v / n % m ≡ v
  forth =
      let e : n * v ≡ v * n = grind arith in
      ap (λ (x : ℕ). x / n % m) e ∙ ap (λ (x : ℕ). x % m) (mul-div_cancel v some) ∙ mod-eq_of_lt small

  times : n * (m - v) ≤ 2 ^ 64
  times = let p : n * (m - v) ≤ n * q = grind arith in omega (arith, p, whole)

  below_all : n * v < 2 ^ 64
  below_all =
      let p : n * v + n * (m - v) ≡ n * m = let e : v + (m - v) ≡ m = omega (arith, small) in sym (mul-add n v (m - v)) ∙ ap (λ (x : ℕ). n * x) e in
      let s : 0 < n * (m - v) = product_some (m - v) n some (omega (arith, small)) in
      let t : n * m ≤ n * q = grind arith in
      omega (arith, p, s, t, whole)

  split : 2 ^ 64 - n * (m - v) ≡ (q - m + v) * n
  split =
      let k : ℕ = q - m + v in
      let e : k + (m - v) ≡ q = omega (arith, fits, small) in
      let p : n * (k + (m - v)) ≡ n * k + n * (m - v) = mul-add n k (m - v) in
      let f : n * k ≡ k * n = grind arith in
      let g : n * (k + (m - v)) ≡ 2 ^ 64 = ap (λ (x : ℕ). n * x) e ∙ whole in
      omega (arith, p, f, g)

  rounds : (r : ℕ) → q ≡ r * m → 0 < m → (q - m + v) % m ≡ v
  rounds zero e l = absurd (omega (arith, e, l, fits))
  rounds (suc r) e l =
      let f : q - m + v ≡ v + r * m = grind arith in
      ap (λ (x : ℕ). x % m) f ∙ add-mul-mod_self_right v r m ∙ mod-eq_of_lt small

  back : (2 ^ 64 - n * (m - v)) / n % m ≡ v
  back =
      let l : 0 < m = omega (arith, small) in
      let e : q ≡ q / m * m = let d = mod-eq-sub-div-mul q m in let c : q / m * m ≤ q = grind arith in omega (arith, d, round, c) in
      ap (λ (x : ℕ). x / n % m) split ∙ ap (λ (x : ℕ). x % m) (mul-div_cancel (q - m + v) some) ∙ rounds (q / m) e l

-- ---- one target

record GoodScale (n b : ℕ) : Type 0 where
  pub some : 0 < n
  pub whole : n * (2 ^ 64 / n) ≡ 2 ^ 64
  pub fits : 2 ^ b ≤ 2 ^ 64 / n
  pub round : 2 ^ 64 / n % 2 ^ b ≡ 0

good_scale : (n b : ℕ) → is_good_scale n b ≡ true → GoodScale n b
good_scale n b h =
    let h1 = and_parts (nat_lt 0 n) _ h in
    let h2 = and_parts (n * (2 ^ 64 / n) == 2 ^ 64) _ h1.1 in
    let h3 = and_parts (nat_le (2 ^ b) (2 ^ 64 / n)) (2 ^ 64 / n % 2 ^ b == 0) h2.1 in
    record { some = ltb-true _ _ h1.0; whole = eqb-true _ _ h2.0; fits = leb-true _ _ h3.0; round = eqb-true _ _ h3.1 }

base_small : (pc g : ℕ) → pc < 2 ^ 64 → pc - pc % g < 2 ^ 64
base_small pc g h = omega (arith, h)

number_back : (n g b v pc : ℕ) → is_good_scale n b ≡ true → v < 2 ^ b → pc < 2 ^ 64 → (target_address n g b v pc + (2 ^ 64 - (pc - pc % g))) % 2 ^ 64 / n % 2 ^ b ≡ v
number_back n g b v pc h l p =
    let s = good_scale n b h in
    let q : ℕ = 2 ^ 64 / n in
    let base : ℕ = pc - pc % g in
    let f = λ (d : ℕ). ((base + d) % 2 ^ 64 + (2 ^ 64 - base)) % 2 ^ 64 / n % 2 ^ b in
    let m : n * (2 ^ b - v) ≤ 2 ^ 64 = times n q (2 ^ b) v s.some s.whole s.fits s.round l in
    let some_back : 0 < n * (2 ^ b - v) = product_some (2 ^ b - v) n s.some (omega (arith, l)) in
    let low : n * v < 2 ^ 64 = below_all n q (2 ^ b) v s.some s.whole s.fits s.round l in
    elim (cases_Bool (is_low b v)) [
      | inl e ↦ ap (λ (t : Bool). f (if t then n * v else 2 ^ 64 - n * (2 ^ b - v))) e
          ∙ ap (λ (x : ℕ). x / n % 2 ^ b) (away base (n * v) (base_small pc g p) low) ∙ forth n q (2 ^ b) v s.some s.whole s.fits s.round l
      | inr e ↦ ap (λ (t : Bool). f (if t then n * v else 2 ^ 64 - n * (2 ^ b - v))) e
          ∙ ap (λ (x : ℕ). x / n % 2 ^ b) (away base (2 ^ 64 - n * (2 ^ b - v)) (base_small pc g p) (omega (arith, some_back))) ∙ back n q (2 ^ b) v s.some s.whole s.fits s.round l
    ]

aimed_back : (r : Reach) (w pc : ℕ) → is_good_reach (Some r) ≡ true → w < 2 ^ 32 → pc < 2 ^ 64
    → aimed (Some r) (bit_and w (2 ^ 32 - 1 - ones_of r.parts)) pc (target_address r.by r.page (bits_in r.parts) (joined r.parts w) pc) ≡ Some w
aimed_back r w pc h l p =
    let h1 = and_parts (is_good_scale r.by (bits_in r.parts)) (are_good_places r.parts) h in
    let h2 = and_parts (are_places r.parts) _ h1.1 in
    let h3 = and_parts (masked 0 r.parts == ones_of r.parts) (bit_or (2 ^ 32 - 1 - ones_of r.parts) (ones_of r.parts) == 2 ^ 32 - 1) h2.1 in
    let b : ℕ = bits_in r.parts in
    let v : ℕ = joined r.parts w in
    let a : ℕ = target_address r.by r.page b v pc in
    let m : ℕ = ones_of r.parts in
    let w0 : ℕ = bit_and w (2 ^ 32 - 1 - m) in
    let f = λ (x : ℕ). if target_address r.by r.page b x pc == a then Some (all_bound (record { mask = 0; word = w0 }) (parted r.parts x)).word else None in
    let start : record { mask = 0; word = w0 } ≡ with_bits w0 w 0 = ap (λ (x : ℕ). record { mask = 0; word = x }) (sym (nothing w0 w)) in
    ap f (number_back r.by r.page b v pc h1.0 (joined_small r.parts w) p)
    ∙ ap (λ (t : Bool). if t then Some (all_bound (record { mask = 0; word = w0 }) (parted r.parts v)).word else None) (eq-eqb a a refl)
    ∙ ap (λ (x : ℕ). Some x)
    (ap (λ (x : Built). (all_bound x (parted r.parts v)).word) start
    ∙ ap (λ (x : Built). x.word) (all_put w0 w 0 (parted r.parts v) (parted_so r.parts w h2.0))
    ∙ ap (λ (ps : List Place). bit_or w0 (bit_and w (masked 0 ps))) (parts_told r.parts v)
    ∙ ap (λ (x : ℕ). bit_or w0 (bit_and w x)) (eqb-true _ _ h3.0)
    ∙ whole_word w w0 m l (eqb-true _ _ h3.1) refl)

-- Aimed at the address that a word's text shows, the word with the bits of its target 0 is the word.
pub aimed_again : (o : Option Reach) (w pc a : ℕ) → is_good_reach o ≡ true → w < 2 ^ 32 → pc < 2 ^ 64 → reached o w pc ≡ Some a
    → aimed o (bit_and w (2 ^ 32 - 1 - reach_bits o)) pc a ≡ Some w
aimed_again None w pc a h l p e = absurd (cc)
aimed_again (Some r) w pc a h l p e =
    let same : target_address r.by r.page (bits_in r.parts) (joined r.parts w) pc ≡ a = cc in
    ap (aimed (Some r) (bit_and w (2 ^ 32 - 1 - ones_of r.parts)) pc) (sym same) ∙ aimed_back r w pc h l p
