-- The conditions of loops.
use Rattle.std.proofs.Common.{◌≡◌, ◌<◌, ◌≤◌, ◌+◌, ◌-◌, ◌%◌, ◌^◌, ◌⊎◌, ◌≢◌, ◌&&◌, ℕ, zero, suc, Bool, true, false, cond, min, nat_lt, nat_le, int_lt, int_le, ℤ, pos, ◌-ℤ◌, inl, inr, refl, sym, ap, ap₂, subst, ◌∙◌, arith}
use Rattle.std.proofs.Math.Nat.{mod-lt, mod-eq_of_lt, mod-add-mod}
use Rattle.std.proofs.lemmas.Bool.{true≢false, false≢true, both_ways, cases_lt, lt-ltb, le-ltb, le-leb, false_from_ne_true}
use Rattle.std.proofs.lemmas.Bool.Decides.{nat_tests}
use Rattle.std.proofs.lemmas.Int.{ints}
use Rattle.std.proofs.lemmas.Nat.{pow_pos}
use Rattle.emu_bits.specs.Numbers.{unsigned, signed}
use Rattle.lane_model.proofs.Found.{all_true, all_tells}
use Rattle.lane_model.specs.declared.predicates.WhileTest.{WhileTest}
use Rattle.lane_model.specs.declared.predicates.WhileTest.TheVariants.{Lt, Le, Lo, Ls}
use Rattle.lane_model.specs.FirstLast.{all_below}
use Rattle.lane_model.specs.Predicate.{while_holds}
use Rattle.pred_bits.specs.LaneBits.{is_inclusive, offset, rank}

-- ---- the order of signed numbers is that of unsigned ones, half of all further on

-- a number below h + h, read as signed, and moved on by h
abbrev read : ℕ → ℕ → ℤ
read h u = cond (nat_lt u h) (pos u) (pos u -ℤ pos (h + h))

abbrev moved : ℕ → ℕ → ℕ
moved h u = cond (nat_lt u h) (u + h) (u - h)

low_read : (h u : ℕ) → u < h → read h u ≡ pos u
low_read h u p = ap (λ t. cond t (pos u) (pos u -ℤ pos (h + h))) (lt-ltb u h p)

high_read : (h u : ℕ) → h ≤ u → read h u ≡ pos u -ℤ pos (h + h)
high_read h u p = ap (λ t. cond t (pos u) (pos u -ℤ pos (h + h))) (le-ltb u h p)

low_moved : (h u : ℕ) → u < h → moved h u ≡ u + h
low_moved h u p = ap (λ t. cond t (u + h) (u - h)) (lt-ltb u h p)

high_moved : (h u : ℕ) → h ≤ u → moved h u ≡ u - h
high_moved h u p = ap (λ t. cond t (u + h) (u - h)) (le-ltb u h p)

less_moved : (h u v : ℕ) → u < h + h → v < h + h → int_lt (read h u) (read h v) ≡ nat_lt (moved h u) (moved h v)
less_moved h u v p q = elim (cases_lt u h) [
  | inl lu ↦ elim (cases_lt v h) [
    | inl lv ↦ rw (low_read h u lu, low_read h v lv, low_moved h u lu, low_moved h v lv) (grind (arith, nat_tests))
    | inr hv ↦ rw (low_read h u lu, high_read h v hv, low_moved h u lu, high_moved h v hv) (grind (arith, ints, nat_tests))
  ]
  | inr hu ↦ elim (cases_lt v h) [
    | inl lv ↦ rw (high_read h u hu, low_read h v lv, high_moved h u hu, low_moved h v lv) (grind (arith, ints, nat_tests))
    | inr hv ↦ rw (high_read h u hu, high_read h v hv, high_moved h u hu, high_moved h v hv) (grind (arith, ints, nat_tests))
  ]
]

most_moved : (h u v : ℕ) → u < h + h → v < h + h → int_le (read h u) (read h v) ≡ nat_le (moved h u) (moved h v)
most_moved h u v p q = elim (cases_lt u h) [
  | inl lu ↦ elim (cases_lt v h) [
    | inl lv ↦ rw (low_read h u lu, low_read h v lv, low_moved h u lu, low_moved h v lv) (grind (arith, nat_tests))
    | inr hv ↦ rw (low_read h u lu, high_read h v hv, low_moved h u lu, high_moved h v hv) (grind (arith, ints, nat_tests))
  ]
  | inr hu ↦ elim (cases_lt v h) [
    | inl lv ↦ rw (high_read h u hu, low_read h v lv, high_moved h u hu, low_moved h v lv) (grind (arith, ints, nat_tests))
    | inr hv ↦ rw (high_read h u hu, high_read h v hv, high_moved h u hu, high_moved h v hv) (grind (arith, ints, nat_tests))
  ]
]

-- at both widths
on_32 : (x : ℕ) → (x + 2147483648) % 4294967296 ≡ moved 2147483648 (x % 4294967296)
on_32 x = elim (cases_lt (x % 4294967296) 2147483648) [
  | inl h ↦ rw (low_moved 2147483648 (x % 4294967296) h) (omega arith)
  | inr h ↦ rw (high_moved 2147483648 (x % 4294967296) h) (omega arith)
]

on_64 : (x : ℕ) → (x + 9223372036854775808) % 18446744073709551616 ≡ moved 9223372036854775808 (x % 18446744073709551616)
on_64 x = elim (cases_lt (x % 18446744073709551616) 9223372036854775808) [
  | inl h ↦ rw (low_moved 9223372036854775808 (x % 18446744073709551616) h) (omega arith)
  | inr h ↦ rw (high_moved 9223372036854775808 (x % 18446744073709551616) h) (omega arith)
]

less_32 : (x y : ℕ) → int_lt (signed x 32) (signed y 32) ≡ nat_lt ((x + 2147483648) % 4294967296) ((y + 2147483648) % 4294967296)
less_32 x y = less_moved 2147483648 (x % 4294967296) (y % 4294967296) (omega arith) (omega arith) ∙ sym (ap₂ nat_lt (on_32 x) (on_32 y))

less_64 : (x y : ℕ) → int_lt (signed x 64) (signed y 64) ≡ nat_lt ((x + 9223372036854775808) % 18446744073709551616) ((y + 9223372036854775808) % 18446744073709551616)
less_64 x y = less_moved 9223372036854775808 (x % 18446744073709551616) (y % 18446744073709551616) (omega arith) (omega arith) ∙ sym (ap₂ nat_lt (on_64 x) (on_64 y))

most_32 : (x y : ℕ) → int_le (signed x 32) (signed y 32) ≡ nat_le ((x + 2147483648) % 4294967296) ((y + 2147483648) % 4294967296)
most_32 x y = most_moved 2147483648 (x % 4294967296) (y % 4294967296) (omega arith) (omega arith) ∙ sym (ap₂ nat_le (on_32 x) (on_32 y))

most_64 : (x y : ℕ) → int_le (signed x 64) (signed y 64) ≡ nat_le ((x + 9223372036854775808) % 18446744073709551616) ((y + 9223372036854775808) % 18446744073709551616)
most_64 x y = most_moved 9223372036854775808 (x % 18446744073709551616) (y % 18446744073709551616) (omega arith) (omega arith) ∙ sym (ap₂ nat_le (on_64 x) (on_64 y))

-- ---- the condition of a loop, by the ranks of its numbers

abbrev ordered : WhileTest → ℕ → ℕ → Bool
ordered Lt a b = nat_lt a b
ordered Le a b = nat_le a b
ordered Lo a b = nat_lt a b
ordered Ls a b = nat_le a b

by_rank : (test : WhileTest) (w x y : ℕ) → (w ≡ 32) ⊎ (w ≡ 64) → while_holds test w x y ≡ ordered test (rank test w x) (rank test w y)
by_rank Lt w x y (inl s) = rw s (less_32 x y)
by_rank Lt w x y (inr s) = rw s (less_64 x y)
by_rank Le w x y (inl s) = rw s (most_32 x y)
by_rank Le w x y (inr s) = rw s (most_64 x y)
by_rank Lo w x y s = let z : (n : ℕ) → n + 0 ≡ n = λ n. omega arith in sym (ap₂ (λ a b. nat_lt (unsigned a w) (unsigned b w)) (z x) (z y))
by_rank Ls w x y s = let z : (n : ℕ) → n + 0 ≡ n = λ n. omega arith in sym (ap₂ (λ a b. nat_le (unsigned a w) (unsigned b w)) (z x) (z y))

-- the rank goes up with the number, modulo 2^w
rank_more : (test : WhileTest) (w x j : ℕ) → rank test w (x + j) ≡ (rank test w x + j) % 2 ^ w
rank_more test w x j =
    let e : x + j + offset test w ≡ x + offset test w + j = omega arith in
    ap (λ n. n % 2 ^ w) e ∙ sym (mod-add-mod (x + offset test w) (2 ^ w) j)

-- a number counts modulo 2^64
pub rank_wrapped : (w x : ℕ) → (w ≡ 32) ⊎ (w ≡ 64) → unsigned (x % 2 ^ 64) w ≡ unsigned x w
rank_wrapped w x (inl s) = rw s (omega arith)
rank_wrapped w x (inr s) = rw s (omega arith)

-- ---- how many of the first lanes it holds of

-- of a, a + 1 and so on, modulo m, those below b come first
module _ (m a b : ℕ) (within : a < m) (end : b < m) where
  no_wrap : (j : ℕ) → a + j < m → (a + j) % m ≡ a + j
  no_wrap j h = mod-eq_of_lt h

  is_below : (j : ℕ) → j < b - a → nat_lt ((a + j) % m) b ≡ true
  is_below j h = ap (λ x. nat_lt x b) (no_wrap j (omega arith)) ∙ lt-ltb (a + j) b (omega arith)

  is_end : nat_lt ((a + (b - a)) % m) b ≡ false
  is_end = elim (cases_lt a b) [
    | inl h ↦ ap (λ x. nat_lt x b) (no_wrap (b - a) (omega arith)) ∙ le-ltb (a + (b - a)) b (omega arith)
    | inr h ↦ ap (λ x. nat_lt x b) (no_wrap (b - a) (omega arith)) ∙ le-ltb (a + (b - a)) b (omega arith)
  ]

  pub run_below : (lanes k : ℕ) → k < lanes → nat_lt k (min (b - a) lanes) ≡ all_below (suc k) (λ j. nat_lt ((a + j) % m) b)
  run_below lanes k inside = elim (cases_lt k (b - a)) [
    | inl h ↦ lt-ltb k (min (b - a) lanes) (omega arith) ∙ sym (all_true (suc k) (λ j. nat_lt ((a + j) % m) b) (λ j q. is_below j (omega arith)))
    | inr h ↦
        le-ltb k (min (b - a) lanes) (omega arith)
        ∙ sym (false_from_ne_true (all_below (suc k) (λ j. nat_lt ((a + j) % m) b)) (λ e. both_ways (nat_lt ((a + (b - a)) % m) b) is_end (all_tells (suc k) (λ j. nat_lt ((a + j) % m) b) e (b - a) (omega arith))))
  ]

all_same : (n : ℕ) (s t : ℕ → Bool) → ((j : ℕ) → s j ≡ t j) → all_below n s ≡ all_below n t
all_same zero s t h = refl
all_same (suc n) s t h = ap₂ (λ x y. x && y) (all_same n s t h) (h n)

exclusive : (test : WhileTest) → is_inclusive test ≡ false → (a b : ℕ) → ordered test a b ≡ nat_lt a b
exclusive Lt e a b = refl
exclusive Le e a b = absurd (true≢false e)
exclusive Lo e a b = refl
exclusive Ls e a b = absurd (true≢false e)

inclusive : (test : WhileTest) → is_inclusive test ≡ true → (a b : ℕ) → ordered test a b ≡ nat_le a b
inclusive Lt e a b = absurd (false≢true e)
inclusive Le e a b = refl
inclusive Lo e a b = absurd (false≢true e)
inclusive Ls e a b = refl

up_to : (x b : ℕ) → nat_le x b ≡ nat_lt x (b + 1)
up_to x b = grind (arith, nat_tests)

greatest : (w : ℕ) → (w ≡ 32) ⊎ (w ≡ 64) → unsigned 18446744073709551615 w ≡ 2 ^ w - 1
greatest w (inl s) = rw s refl
greatest w (inr s) = rw s refl

module _ (test : WhileTest) (w from to a b lanes : ℕ) (width : (w ≡ 32) ⊎ (w ≡ 64)) (first : a ≡ rank test w from) (last : b ≡ rank test w to) where
  -- the condition of lane j
  lane_holds : (j : ℕ) → while_holds test w (from + j) to ≡ ordered test ((a + j) % 2 ^ w) b
  lane_holds j = by_rank test w (from + j) to width ∙ ap₂ (ordered test) (rank_more test w from j ∙ sym (ap (λ x. (x + j) % 2 ^ w) first)) (sym last)

  first_small : a < 2 ^ w
  first_small = subst (λ x. x < 2 ^ w) (sym first) (mod-lt (from + offset test w) (pow_pos w))

  last_small : b < 2 ^ w
  last_small = subst (λ x. x < 2 ^ w) (sym last) (mod-lt (to + offset test w) (pow_pos w))

  pub exclusive_run : (n : ℕ) → is_inclusive test ≡ false → n ≡ min (b - a) lanes → (k : ℕ) → k < lanes → nat_lt k n ≡ all_below (suc k) (λ j. while_holds test w (from + j) to)
  exclusive_run n kind is k h =
      ap (nat_lt k) is ∙ run_below (2 ^ w) a b first_small last_small lanes k h
      ∙ sym (all_same (suc k) (λ j. while_holds test w (from + j) to) (λ j. nat_lt ((a + j) % 2 ^ w) b) (λ j. lane_holds j ∙ exclusive test kind ((a + j) % 2 ^ w) b))

  pub inclusive_run : (n : ℕ) → is_inclusive test ≡ true → (b ≡ unsigned 18446744073709551615 w → ⊥) → n ≡ min (b + 1 - a) lanes → (k : ℕ) → k < lanes → nat_lt k n ≡ all_below (suc k) (λ j. while_holds test w (from + j) to)
  inclusive_run n kind apart is k h =
      let other : b ≢ 2 ^ w - 1 = λ e. apart (e ∙ sym (greatest w width)) in
      let small : b < 2 ^ w = last_small in
      let next : b + 1 < 2 ^ w = omega arith in
      ap (nat_lt k) is ∙ run_below (2 ^ w) a (b + 1) first_small next lanes k h
      ∙ sym (all_same (suc k) (λ j. while_holds test w (from + j) to) (λ j. nat_lt ((a + j) % 2 ^ w) (b + 1)) (λ j. lane_holds j ∙ inclusive test kind ((a + j) % 2 ^ w) b ∙ up_to ((a + j) % 2 ^ w) b))

  pub whole_run : is_inclusive test ≡ true → b ≡ unsigned 18446744073709551615 w → (k : ℕ) → k < lanes → nat_lt k lanes ≡ all_below (suc k) (λ j. while_holds test w (from + j) to)
  whole_run kind last_of_all k h =
      lt-ltb k lanes h
      ∙ sym (all_true (suc k) (λ j. while_holds test w (from + j) to) (λ j q.
      let small : (a + j) % 2 ^ w < 2 ^ w = mod-lt (a + j) (pow_pos w) in
      let top : b ≡ 2 ^ w - 1 = last_of_all ∙ greatest w width in
      lane_holds j ∙ inclusive test kind ((a + j) % 2 ^ w) b ∙ le-leb ((a + j) % 2 ^ w) b (omega arith)))
