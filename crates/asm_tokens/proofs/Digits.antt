-- Digits read one behind the other, with a value that stays at a limit.
use Rattle.std.proofs.Common.{◌≡◌, ℕ, ◌+◌, ◌-◌, ◌*◌, ◌^◌, ◌<◌, ◌≤◌, ◌∙◌, ◌&&◌, Bool, true, List, [], ◌∷◌, drop, drop-cons, get_or, length, min, sym, ap, subst, arith, add-one, inl, inr}
use Rattle.std.proofs.Math.Nat.{mul-le-mul_left}
use Rattle.std.proofs.lemmas.Bool.{cases_lt, lt-ltb}
use Rattle.std.specs.Str.Parse.{digits_value, digits_value_after}
use Rattle.std.specs.Char.{is_digit, digit_value}
use Rattle.std.specs.List.{list_all}

-- the digits that are left give the same number behind the value so far
pub record Read (base : ℕ) (digits rest : List ℕ) (value : ℕ) : Type 0 where
  pub within : value ≤ 2 ^ 127 - 1
  pub number : min (digits_value base digits) (2 ^ 127 - 1) ≡ min (digits_value_after base value rest) (2 ^ 127 - 1)
  pub plain : list_all (λ d. is_digit d base) digits ≡ list_all (λ d. is_digit d base) rest

-- digits make a number no smaller
grows : (base : ℕ) (ds : List ℕ) (n : ℕ) → 0 < base → n ≤ digits_value_after base n ds
grows base [] n h = omega arith
grows base (d ∷ ds) n h =
    let one : 1 ≤ base = omega arith in
    omega (arith, grows base ds (n * base + digit_value d) h, mul-le-mul_left n one)

-- nor do they tell two numbers apart that are both at the limit
at_limit : (base : ℕ) (ds : List ℕ) (n most : ℕ) → 0 < base → min (digits_value_after base n ds) most ≡ min (digits_value_after base (min n most) ds) most
at_limit base ds n most h = elim (cases_lt n most) [
  | inl l ↦ (let e : min n most ≡ n = omega arith in ap (λ (k : ℕ). min (digits_value_after base k ds) most) (sym e))
  | inr l ↦ omega (arith, grows base ds n h, grows base ds (min n most) h)
]

capped : (x d w : ℕ) → w ≡ min (min (min x (2 ^ 128 - 1) + d) (2 ^ 128 - 1)) (2 ^ 127 - 1) → min (x + d) (2 ^ 127 - 1) ≡ w
capped x d w h = omega arith

at_byte : (xs : List ℕ) (i : ℕ) → i < length xs → drop i xs ≡ get_or xs i 0 ∷ drop (i + 1) xs
at_byte xs i h = rw (add-one, drop-cons xs i 0)

pub read_digit : (base : ℕ) (bs : List ℕ) (i v w d : ℕ) → i < length bs → 0 < base → Read base bs (drop i bs) v → d ≡ digit_value (get_or bs i 0) → d < base
    → w ≡ min (min (min (v * base) (2 ^ 128 - 1) + d) (2 ^ 128 - 1)) (2 ^ 127 - 1) → Read base bs (drop (i + 1) bs) w
read_digit base bs i v w d l h r e b q =
    let most : ℕ = 2 ^ 127 - 1 in
    let rest : List ℕ = drop (i + 1) bs in
    let plain : is_digit (get_or bs i 0) base ≡ true = lt-ltb _ base (subst (λ (n : ℕ). n < base) e b) in
    record {
      within = omega arith;
      number = r.number ∙ ap (λ (cs : List ℕ). min (digits_value_after base v cs) most) (at_byte bs i l)
          ∙ ap (λ (n : ℕ). min (digits_value_after base (v * base + n) rest) most) (sym e)
          ∙ at_limit base rest (v * base + d) most h
          ∙ ap (λ (n : ℕ). min (digits_value_after base n rest) most) (capped (v * base) d w q);
      plain = r.plain ∙ ap (λ (cs : List ℕ). list_all (λ d. is_digit d base) cs) (at_byte bs i l)
          ∙ ap (λ (t : Bool). t && list_all (λ d. is_digit d base) rest) plain;
    }
