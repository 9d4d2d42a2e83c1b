-- The first word that is too long, or that has a byte 0, and words that are a program's arguments because none is.
use Rattle.std.proofs.Common.{◌≡◌, inl, inr, ◌<◌, ◌≤◌, ℕ, zero, suc, ◌+◌, Bool, true, false, not, ◌&&◌, ◌↔◌, cond, List, [], ◌∷◌, map, length, get_or, take, sum_by, Option, Some, None, is_none, is_some, IsTrue, refl, sym, ap, ap₂, subst, ◌∙◌, arith, nat_le, nat_lt}
use Rattle.std.specs.List.{AllPass, find, position, prefix_len, range_with_len}
use Rattle.std.proofs.lemmas.Bool.{cases_lt}
use Rattle.std.proofs.lemmas.Bool.Decides.{nat_tests}
use Rattle.std.proofs.lemmas.List.{get_or-map, length-map, take-take, take_all}
use Rattle.std.proofs.lemmas.List.Quantifiers.{position-Some}
use Rattle.std.proofs.lemmas.List.Sums.{AllPass-from_list_all, list_all-from_AllPass, prefix_len_passes, sum_by-take-le, sum_by_more}
use Rattle.emu_system.specs.Arguments.{first_too_long, first_with_zero, is_free_of_zeros, most_argument_bytes, most_arguments}
use Rattle.emu_system.specs.ArgumentLimits.{AreArguments}

-- ---- the first place that passes a test

prefix_len-map : {X Y : Type 0} (p : Y → Bool) (h : X → Y) (xs : List X) → prefix_len p (map h xs) ≡ prefix_len (λ x. p (h x)) xs
prefix_len-map p h [] = refl
prefix_len-map p h (x ∷ xs) = ap (λ (n : ℕ). cond (p (h x)) (1 + n) 0) (prefix_len-map p h xs)

pub position-map : {X Y : Type 0} (p : Y → Bool) (h : X → Y) (xs : List X) → position p (map h xs) ≡ position (λ x. p (h x)) xs
position-map p h xs = ap₂ (λ (n k : ℕ). cond (nat_lt n k) (Some n) None) (prefix_len-map (λ y. not (p y)) h xs) (length-map xs h)

-- the first of n numbers from a on
find_first : (p : ℕ → Bool) (a n k : ℕ) → a ≤ k → k < a + n → ((j : ℕ) → a ≤ j → j < k → p j ≡ false) → p k ≡ true → find p (range_with_len a n) ≡ Some k
find_first p a zero k low high before at = absurd (omega arith)
find_first p a (suc n) k low high before at = elim (cases_lt a k) [
  | inr upto ↦ let same : a ≡ k = omega arith in ap (λ (b : Bool). cond b (Some a) (find p (range_with_len (a + 1) n))) (ap p same ∙ at) ∙ ap (λ (i : ℕ). Some i) same
  | inl later ↦ ap (λ (b : Bool). cond b (Some a) (find p (range_with_len (a + 1) n))) (before a (omega arith) (omega arith))
      ∙ find_first p (a + 1) n k (omega arith) (omega arith) (λ j from below. before j (omega arith) below) at
]

find_none : (p : ℕ → Bool) (a n : ℕ) → ((j : ℕ) → a ≤ j → j < a + n → p j ≡ false) → find p (range_with_len a n) ≡ None
find_none p a zero none = refl
find_none p a (suc n) none =
    ap (λ (b : Bool). cond b (Some a) (find p (range_with_len (a + 1) n))) (none a (omega arith) (omega arith))
    ∙ find_none p (a + 1) n (λ j from below. none j (omega arith) (omega arith))

-- ---- words that are too long

-- how many bytes the first words have
abbrev pub bytes_of : List (List ℕ) → ℕ → ℕ
bytes_of ws k = sum_by length (take k ws)

grows : (ws : List (List ℕ)) (j k : ℕ) → j ≤ k → bytes_of ws j ≤ bytes_of ws k
grows ws j k h = let e = take-take j k ws h in let l = sum_by-take-le length (take k ws) j in omega (arith, l, ap (sum_by length) e)

fits : (most n : ℕ) → n ≤ most → nat_lt most n ≡ false
fits most n h = grind (arith, nat_tests)

passes : (most n : ℕ) → most < n → nat_lt most n ≡ true
passes most n h = grind (arith, nat_tests)

-- a word of so many bytes behind the first ones
pub bytes_more : {X : Type 0} (text : X → List ℕ) (words : List X) (k : ℕ) (word : X) (count : ℕ) → k < length words → word ≡ get_or words k word → count ≡ length (text word)
    → bytes_of (map text words) (k + 1) ≡ bytes_of (map text words) k + count
bytes_more text words k word count h is bytes =
    let lt : k < length (map text words) = omega (arith, length-map words text) in
    let e : get_or (map text words) k [] ≡ text word = get_or-map text words k word [] h ∙ ap text (sym is) in
    omega (arith, sum_by_more length (map text words) k [] lt, ap length e)

-- the word by which they have too many
pub long_at : (ws : List (List ℕ)) (k : ℕ) → k < length ws → bytes_of ws k ≤ most_argument_bytes → most_argument_bytes < bytes_of ws (k + 1) → Some k ≡ first_too_long ws
long_at ws k h before at =
    sym (find_first (λ place. nat_lt most_argument_bytes (bytes_of ws (place + 1))) 0 (length ws) k (omega arith) (omega arith)
    (λ j from lt. fits most_argument_bytes (bytes_of ws (j + 1)) (let g = grows ws (j + 1) k (omega arith) in omega arith))
    (passes most_argument_bytes (bytes_of ws (k + 1)) at))

pub long_nowhere : (ws : List (List ℕ)) → sum_by length ws ≤ most_argument_bytes → None ≡ first_too_long ws
long_nowhere ws h =
    sym (find_none (λ place. nat_lt most_argument_bytes (bytes_of ws (place + 1))) 0 (length ws)
    (λ j from lt. fits most_argument_bytes (bytes_of ws (j + 1)) (let g = sum_by-take-le length ws (j + 1) in omega arith)))

no_first : (p : ℕ → Bool) (a j : ℕ) (b : Bool) (rest : Option ℕ) → p a ≡ b → cond b (Some a) rest ≡ None → a ≤ j → (rest ≡ None → a < j → p j ≡ false) → p j ≡ false
no_first p a j true rest e none low later = absurd (cc)
no_first p a j false rest e none low later = elim (cases_lt a j) [ inl lt ↦ later none lt | inr upto ↦ ap p (omega arith) ∙ e ]

find_no : (p : ℕ → Bool) (a n j : ℕ) → find p (range_with_len a n) ≡ None → a ≤ j → j < a + n → p j ≡ false
find_no p a zero j none low high = absurd (omega arith)
find_no p a (suc n) j none low high = no_first p a j (p a) (find p (range_with_len (a + 1) n)) refl none low (λ more lt. find_no p (a + 1) n j more (omega arith) (omega arith))

at_least : (n count : ℕ) → nat_lt n count ≡ false → count ≤ n
at_least n count h = grind (arith, nat_tests)

small_enough : (n most : ℕ) → nat_le n most ≡ true → n ≤ most
small_enough n most h = grind (arith, nat_tests)

-- no word by which they have too many
none_too_long : (ws : List (List ℕ)) → first_too_long ws ≡ None → sum_by length ws ≤ most_argument_bytes
none_too_long [] none = omega arith
none_too_long (word ∷ ws) none =
    let last = find_no (λ place. nat_lt most_argument_bytes (bytes_of (word ∷ ws) (place + 1))) 0 (length (word ∷ ws)) (length ws) none (omega arith) (omega arith) in
    omega (arith, at_least most_argument_bytes (bytes_of (word ∷ ws) (length ws + 1)) last, ap (sum_by length) (take_all (length ws + 1) (word ∷ ws) (omega arith)))

-- ---- words with a byte 0

not_not : (b : Bool) → not (not b) ≡ b
not_not true = refl
not_not false = refl

nowhere : (b : Bool) (i : ℕ) → cond b (Some i) None ≡ None → b ≡ false
nowhere true i e = absurd (cc)
nowhere false i e = refl

none_with_zero : (ws : List (List ℕ)) → first_with_zero ws ≡ None → AllPass is_free_of_zeros ws
none_with_zero ws none = λ k d h.
    let free : List ℕ → Bool = λ w. not (not (is_free_of_zeros w)) in
    let all : length ws ≤ prefix_len free ws = at_least (prefix_len free ws) (length ws) (nowhere _ (prefix_len free ws) none) in
    sym (not_not (is_free_of_zeros (get_or ws k d))) ∙ prefix_len_passes free ws k d (omega arith)

-- ---- words within all limits

pub within_limits : (ws : List (List ℕ)) → length ws ≤ most_arguments → None ≡ first_too_long ws → None ≡ first_with_zero ws → AreArguments ws
within_limits ws few short free = record {
  few = few;
  short = none_too_long ws (sym short);
  plain = list_all-from_AllPass is_free_of_zeros ws (none_with_zero ws (sym free));
}

long_refuted : (ws : List (List ℕ)) (k : ℕ) → Some k ≡ first_too_long ws → AreArguments ws → ⊥
long_refuted ws k at are = let e : Some k ≡ None = at ∙ sym (long_nowhere ws are.short) in cc

zero_refuted : (ws : List (List ℕ)) (k : ℕ) → Some k ≡ first_with_zero ws → AreArguments ws → ⊥
zero_refuted ws k at are =
    let found = position-Some (λ word. not (is_free_of_zeros word)) ws k [] (sym at) in
    let e : false ≡ true = ap not (sym (AllPass-from_list_all is_free_of_zeros ws are.plain k [] found.0)) ∙ found.1 in
    cc

many_refuted : (ws : List (List ℕ)) → most_arguments < length ws → AreArguments ws → ⊥
many_refuted ws many are = let few = are.few in omega arith

-- a number that is too great isn't small enough
pub not_both : (n : ℕ) → most_arguments < n → nat_le n most_arguments ≡ true → ⊥
not_both n many few = let le = small_enough n most_arguments few in omega arith

refuted : {P : Type 0} → (P → ⊥) → IsTrue false ↔ P
refuted h = (λ no. cc, λ p. absurd (h p))

-- what the first words say of so few of them
told_by_first : (ws : List (List ℕ)) (long with_zero : Option ℕ) → length ws ≤ most_arguments → long ≡ first_too_long ws → with_zero ≡ first_with_zero ws → IsTrue (is_none long && is_none with_zero) ↔ AreArguments ws
told_by_first ws None None few short free = (λ _. within_limits ws few short free, λ _. refl)
told_by_first ws None (Some k) few short at = refuted (zero_refuted ws k at)
told_by_first ws (Some k) with_zero few at free = refuted (long_refuted ws k at)

none_is : (o : Option ℕ) (b : Bool) → is_some o ≡ not b → is_none o ≡ b
none_is o b e = ap not e ∙ not_not b

-- the answer of the third test, where the other two have passed, that of the second where it fails, and that of the first
pub told_last : (ws : List (List ℕ)) (long with_zero : Option ℕ) (short free : Bool) → length ws ≤ most_arguments → long ≡ first_too_long ws → with_zero ≡ first_with_zero ws
    → is_some long ≡ not short → is_some with_zero ≡ not free → short ≡ true → IsTrue free ↔ AreArguments ws
told_last ws long with_zero short free few is_long is_zero s f passed =
    subst (λ (b : Bool). IsTrue b ↔ AreArguments ws) (ap (λ (b : Bool). b && is_none with_zero) (none_is long short s ∙ passed) ∙ none_is with_zero free f)
    (told_by_first ws long with_zero few is_long is_zero)

pub told_long : (ws : List (List ℕ)) (long : Option ℕ) (short answer : Bool) → length ws ≤ most_arguments → long ≡ first_too_long ws
    → is_some long ≡ not short → answer ≡ short → answer ≡ false → IsTrue answer ↔ AreArguments ws
told_long ws long short answer few is_long s same failed =
    subst (λ (b : Bool). IsTrue b ↔ AreArguments ws) (ap (λ (b : Bool). b && is_none (first_with_zero ws)) (none_is long short s ∙ sym same ∙ failed) ∙ sym failed)
    (told_by_first ws long (first_with_zero ws) few is_long refl)

pub told_many : (ws : List (List ℕ)) (answer : Bool) → most_arguments < length ws → answer ≡ false → IsTrue answer ↔ AreArguments ws
told_many ws answer many failed = subst (λ (b : Bool). IsTrue b ↔ AreArguments ws) (sym failed) (refuted (many_refuted ws many))
