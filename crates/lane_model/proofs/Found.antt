-- First and last places meet their tests.
use Rattle.std.proofs.Common.{◌≡◌, ◌<◌, ℕ, zero, suc, Bool, true, false, Option, Some, None, IfSome, if◌then◌else◌, inl, inr, refl, ap, subst, ◌∙◌, arith}
use Rattle.std.proofs.lemmas.Bool.{both_ways, cases_lt, cases_order, and_from, and_parts}
use Rattle.std.specs.Option.{option_or}
use Rattle.lane_model.specs.FirstLast.{if_meets, first_where, last_where, all_below}
use Rattle.lane_model.specs.FirstLastLaws.{IsFirstWhere, IsLastWhere, answer_at}

-- what holds below n and at n holds below n + 1
below_suc : (P : ℕ → Type 0) (n : ℕ) → ((j : ℕ) → j < n → P j) → P n → (j : ℕ) → j < suc n → P j
below_suc P n below here j h = elim (cases_lt j n) [ inl q ↦ below j q | inr q ↦ let e : n ≡ j = omega arith in subst P e here ]

first_more : (n : ℕ) (test : ℕ → Bool) (found : Option ℕ) (b : Bool) → IsFirstWhere n test found → test n ≡ b → IsFirstWhere (suc n) test (option_or found (if b then Some n else None))
first_more n test (Some k) b h e = record { within = let w : k < n = h.within in omega arith; meets = h.meets; before = h.before }
first_more n test None true h e = record { within = omega arith; meets = e; before = h }
first_more n test None false h e = below_suc (λ j. test j ≡ false) n h e

pub first_found : (n : ℕ) (test : ℕ → Bool) → IsFirstWhere n test (first_where n test)
first_found zero test = λ j h. absurd (omega arith)
first_found (suc n) test = first_more n test (first_where n test) (test n) (first_found n test) refl

last_more : (n : ℕ) (test : ℕ → Bool) (found : Option ℕ) (b : Bool) → IsLastWhere n test found → test n ≡ b → IsLastWhere (suc n) test (option_or (if b then Some n else None) found)
last_more n test found true h e = record { within = omega arith; meets = e; behind = λ j p q. absurd (omega arith) }
last_more n test (Some k) false h e = record {
  within = let w : k < n = h.within in omega arith;
  meets = h.meets;
  behind = λ j p q. elim (cases_lt j n) [ inl r ↦ h.behind j p r | inr r ↦ let s : n ≡ j = omega arith in subst (λ i. test i ≡ false) s e ];
}
last_more n test None false h e = below_suc (λ j. test j ≡ false) n h e

pub last_found : (n : ℕ) (test : ℕ → Bool) → IsLastWhere n test (last_where n test)
last_found zero test = λ j h. absurd (omega arith)
last_found (suc n) test = last_more n test (last_where n test) (test n) (last_found n test) refl

-- ---- no other place does

met : (b : Bool) → b ≡ true → b ≡ false → ⊥
met b p q = both_ways b q p

same_first : (n : ℕ) (test : ℕ → Bool) (x y : Option ℕ) → IsFirstWhere n test x → IsFirstWhere n test y → x ≡ y
same_first n test None None h g = refl
same_first n test None (Some j) h g = absurd (met (test j) g.meets (h j g.within))
same_first n test (Some k) None h g = absurd (met (test k) h.meets (g k h.within))
same_first n test (Some k) (Some j) h g = elim (cases_order k j) [
  | inl e ↦ ap Some e
  | inr (inl q) ↦ absurd (met (test k) h.meets (g.before k q))
  | inr (inr q) ↦ absurd (met (test j) g.meets (h.before j q))
]

pub first_is : (n : ℕ) (test : ℕ → Bool) (found : Option ℕ) → IsFirstWhere n test found → first_where n test ≡ found
first_is n test found h = same_first n test (first_where n test) found (first_found n test) h

same_last : (n : ℕ) (test : ℕ → Bool) (x y : Option ℕ) → IsLastWhere n test x → IsLastWhere n test y → x ≡ y
same_last n test None None h g = refl
same_last n test None (Some j) h g = absurd (met (test j) g.meets (h j g.within))
same_last n test (Some k) None h g = absurd (met (test k) h.meets (g k h.within))
same_last n test (Some k) (Some j) h g = elim (cases_order k j) [
  | inl e ↦ ap Some e
  | inr (inl q) ↦ absurd (met (test j) g.meets (h.behind j q g.within))
  | inr (inr q) ↦ absurd (met (test k) h.meets (g.behind k q h.within))
]

pub last_is : (n : ℕ) (test : ℕ → Bool) (found : Option ℕ) → IsLastWhere n test found → last_where n test ≡ found
last_is n test found h = same_last n test (last_where n test) found (last_found n test) h

-- ---- tests with the same answers

pub first_same : (n : ℕ) (s t : ℕ → Bool) → ((k : ℕ) → k < n → s k ≡ t k) → first_where n s ≡ first_where n t
first_same zero s t h = refl
first_same (suc n) s t h =
    ap (λ (o : Option ℕ). option_or o (if_meets s n)) (first_same n s t (λ k q. h k (omega arith)))
    ∙ ap (λ b. option_or (first_where n t) (if b then Some n else None)) (h n (omega arith))

pub last_same : (n : ℕ) (s t : ℕ → Bool) → ((k : ℕ) → k < n → s k ≡ t k) → last_where n s ≡ last_where n t
last_same zero s t h = refl
last_same (suc n) s t h =
    ap (λ (o : Option ℕ). option_or (if_meets s n) o) (last_same n s t (λ k q. h k (omega arith)))
    ∙ ap (λ b. option_or (if b then Some n else None) (last_where n t)) (h n (omega arith))

-- ---- what comes of a place

pub answer_same : (n : ℕ) (found : Option ℕ) (s t : ℕ → Bool) → IfSome found (λ k. k < n) → ((k : ℕ) → k < n → s k ≡ t k) → answer_at found s ≡ answer_at found t
answer_same n None s t within h = refl
answer_same n (Some k) s t within h = h k within

pub last_within : (n : ℕ) (test : ℕ → Bool) → IfSome (last_where n test) (λ k. k < n)
last_within n test = of_found (last_where n test) (last_found n test) where
  of_found : (found : Option ℕ) → IsLastWhere n test found → IfSome found (λ k. k < n)
  of_found None h = tt
  of_found (Some k) h = h.within

-- ---- all places

pub all_true : (n : ℕ) (test : ℕ → Bool) → ((k : ℕ) → k < n → test k ≡ true) → all_below n test ≡ true
all_true zero test h = refl
all_true (suc n) test h = and_from (all_below n test) (test n) (all_true n test (λ k q. h k (omega arith))) (h n (omega arith))

pub all_tells : (n : ℕ) (test : ℕ → Bool) → all_below n test ≡ true → (k : ℕ) → k < n → test k ≡ true
all_tells zero test h k q = absurd (omega arith)
all_tells (suc n) test h k q =
    let both : (all_below n test ≡ true) × (test n ≡ true) = and_parts (all_below n test) (test n) h in
    below_suc (λ j. test j ≡ true) n (all_tells n test both.0) both.1 k q
