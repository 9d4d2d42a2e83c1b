-- The digits of a number, the last of them behind the others, in any base.
use Rattle.std.proofs.Common.{◌≡◌, ℕ, zero, suc, ◌+◌, ◌*◌, ◌/◌, ◌%◌, ◌^◌, ◌<◌, ◌≤◌, if◌then◌else◌, Bool, false, List, [], ◌∷◌, ◌++◌, length, refl, sym, ap, subst, ◌∙◌, arith, append_assoc, length-append, inl, inr, ◌⊎◌}
use Rattle.std.proofs.lemmas.Bool.{eq-eqb, ne_eqb}
use Rattle.std.proofs.Math.Nat.{pow-suc, pow-zero, pow-le-pow_left, mod-eq_of_lt, div-eq_of_lt, div-lt_iff_lt-mul, lt-div-mul-add}
use Rattle.std.specs.Fmt.{digits, digits_onto, digit_glyph}

below_or_not : (n b : ℕ) → (n < b) ⊎ (b ≤ n)
below_or_not n b = grind arith

module _ (base : ℕ) (two : 2 ≤ base) where
  abbrev onto : ℕ → ℕ → List ℕ → List ℕ
  onto k n acc = digits_onto k base false n acc

  abbrev last : ℕ → ℕ
  last n = digit_glyph false (n % base)

  onto_last : (k n : ℕ) (acc : List ℕ) → n < base → onto (suc k) n acc ≡ last n ∷ acc
  onto_last k n acc h =
      ap (λ (t : Bool). if t then last n ∷ acc else onto k (n / base) (last n ∷ acc)) (eq-eqb (n / base) 0 (div-eq_of_lt h))

  not_zero : (n : ℕ) → base ≤ n → n / base ≡ 0 → ⊥
  not_zero n h e =
      let l : n < n / base * base + base = lt-div-mul-add (omega arith) in
      let m : n < 0 * base + base = subst (λ (x : ℕ). n < x * base + base) e l in
      omega (arith, h, m)

  onto_next : (k n : ℕ) (acc : List ℕ) → base ≤ n → onto (suc k) n acc ≡ onto k (n / base) (last n ∷ acc)
  onto_next k n acc h =
      ap (λ (t : Bool). if t then last n ∷ acc else onto k (n / base) (last n ∷ acc)) (ne_eqb (n / base) 0 (not_zero n h))

  onto-append : (k n : ℕ) (acc : List ℕ) → onto k n acc ≡ onto k n [] ++ acc
  onto-append zero n acc = refl
  onto-append (suc k) n acc = elim (below_or_not n base) [
    | inl l ↦ onto_last k n acc l ∙ ap (λ (x : List ℕ). x ++ acc) (sym (onto_last k n [] l))
    | inr l ↦ onto_next k n acc l ∙ onto-append k (n / base) (last n ∷ acc) ∙ sym (append_assoc (onto k (n / base) []) (last n ∷ []) acc)
        ∙ ap (λ (x : List ℕ). x ++ acc) (sym (onto_next k n [] l ∙ onto-append k (n / base) (last n ∷ [])))
  ]

  power_one : base ^ suc zero ≡ base
  power_one = pow-suc base 0 ∙ ap (λ (x : ℕ). x * base) (pow-zero base) ∙ omega arith

  one_power : (n : ℕ) → n < base ^ suc zero → n < base
  one_power n h = subst (λ (x : ℕ). n < x) power_one h

  fewer : (k n : ℕ) → n < base ^ suc k → n / base < base ^ k
  fewer k n h = (div-lt_iff_lt-mul {k = base} {x = n} {y = base ^ k} (omega (arith, two))).1 (subst (λ (x : ℕ). n < x) (pow-suc base k) h)

  -- how many digits may be written doesn't matter where there are enough
  onto_enough : (j k n : ℕ) (acc : List ℕ) → n < base ^ suc j → n < base ^ suc k → onto (suc j) n acc ≡ onto (suc k) n acc
  onto_enough zero k n acc p q = onto_last zero n acc (one_power n p) ∙ sym (onto_last k n acc (one_power n p))
  onto_enough (suc j) zero n acc p q = onto_last (suc j) n acc (one_power n q) ∙ sym (onto_last zero n acc (one_power n q))
  onto_enough (suc j) (suc k) n acc p q = elim (below_or_not n base) [
    | inl l ↦ onto_last (suc j) n acc l ∙ sym (onto_last (suc k) n acc l)
    | inr l ↦ onto_next (suc j) n acc l ∙ onto_enough j k (n / base) (last n ∷ acc) (fewer (suc j) n p) (fewer (suc k) n q) ∙ sym (onto_next (suc k) n acc l)
  ]

  small : (n : ℕ) → n < 2 ^ 64 → n < base ^ 64
  small n h = let l : 2 ^ 64 ≤ base ^ 64 = pow-le-pow_left two 64 in omega (arith, h, l)

  pub digits_last : (n : ℕ) → n < base → digits base false n ≡ digit_glyph false n ∷ []
  unfolding digits
  digits_last n h = onto_last 63 n [] h ∙ ap (λ (x : ℕ). digit_glyph false x ∷ []) (mod-eq_of_lt h)

  pub digits_next : (n : ℕ) → base ≤ n → n < 2 ^ 64 → digits base false n ≡ digits base false (n / base) ++ (digit_glyph false (n % base) ∷ [])
  unfolding digits
  digits_next n h l =
      let f : n / base < base ^ 63 = fewer 63 n (small n l) in
      let p : base ^ 64 ≡ base ^ 63 * base = pow-suc base 63 in
      let m : base ^ 63 ≤ base ^ 63 * base = grind arith in
      onto_next 63 n [] h ∙ onto_enough 62 63 (n / base) (last n ∷ []) f (omega (arith, f, p, m)) ∙ onto-append 64 (n / base) (last n ∷ [])

  pub length_last : (n : ℕ) → n < base → length (digits base false n) ≡ 1
  length_last n h = ap length (digits_last n h)

  pub length_next : (n : ℕ) → base ≤ n → n < 2 ^ 64 → length (digits base false n) ≡ length (digits base false (n / base)) + 1
  length_next n h l = ap length (digits_next n h l) ∙ length-append (digits base false (n / base)) (digit_glyph false (n % base) ∷ [])

  onto_length : (j k n : ℕ) (acc : List ℕ) → n < base ^ suc k → length (onto j n acc) ≤ suc k + length acc
  onto_length zero k n acc h = omega arith
  onto_length (suc j) zero n acc h = let e : length (onto (suc j) n acc) ≡ suc (length acc) = ap length (onto_last j n acc (one_power n h)) in omega (arith, e)
  onto_length (suc j) (suc k) n acc h =
      let m : length (onto j (n / base) (last n ∷ acc)) ≤ suc k + suc (length acc) = onto_length j k (n / base) (last n ∷ acc) (fewer (suc k) n h) in
      elim (below_or_not n base) [
        | inl l ↦ (let e : length (onto (suc j) n acc) ≡ suc (length acc) = ap length (onto_last j n acc l) in omega (arith, e))
        | inr l ↦ (let e : length (onto (suc j) n acc) ≡ length (onto j (n / base) (last n ∷ acc)) = ap length (onto_next j n acc l) in omega (arith, e, m))
      ]

  pub length_digits : (k n : ℕ) → n < base ^ suc k → length (digits base false n) ≤ suc k
  unfolding digits
  length_digits k n h = let l : length (onto 64 n []) ≤ suc k + 0 = onto_length 64 k n [] h in omega (arith, l)

-- a number of 64 bits has at most 20 digits in decimal, and 16 in hexadecimal
pub decimal_length : (n : ℕ) → n < 2 ^ 64 → length (digits 10 false n) ≤ 20
decimal_length n h = length_digits 10 (omega arith) 19 n (omega (arith, h))

pub hexadecimal_length : (n : ℕ) → n < 2 ^ 64 → length (digits 16 false n) ≤ 16
hexadecimal_length n h = length_digits 16 (omega arith) 15 n (omega (arith, h))
