-- The words of a class by the places that the program has of them.
use Rattle.std.proofs.Common.{◌≡◌, ℕ, zero, suc, ◌+◌, ◌<◌, ◌≤◌, ◌==◌, ◌&&◌, if◌then◌else◌, Bool, true, Option, Some, None, List, [], ◌∷◌, length, get_or, nat_le, refl, sym, ap, ap₂, ◌∙◌, arith, inl, inr}
use Rattle.std.proofs.lemmas.Bool.{cases_Bool, and_parts, eqb-true}
use Rattle.std.proofs.lemmas.Option.{slice_get_past, slice_get_read}
use Rattle.std.specs.Prelude.{slice_get, option_map, MatchOption}
use Rattle.std.specs.List.{HoldsAt}
use denote.Ref.{Bor}
use Rattle.text_code.specs.declared.dictionary.Family as code
use Rattle.text_code.specs.declared.dictionary.Word as code_word
use Rattle.text_code.specs.Tables.{families_of, words_of}
use Rattle.text_model.specs.declared.classes.Class.{Class}
use Rattle.text_model.specs.declared.classes.Class.TheVariants.{Unknown}
use Rattle.text_model.specs.Classes.{same_class}
use Rattle.text_model.specs.Words.{Word, dictionary, families, spelled_word, spelled}
use Rattle.text_print.specs.declared.by_class.TheConstants.{NONE, ROWS, PLACES}
use Rattle.text_print.specs.ByClass.{family_place, word_place, as_family, spelled_by, is_short_register, as_word, is_word_of, spelled_at, is_short_word}
use Rattle.text_print.specs.Room.{are_short_words}

-- ---- elements of lists

pub found : {X : Type 0} (xs : List X) (k : ℕ) (r : Option (Bor X)) → MatchOption r (length xs ≤ k) (λ x. (k < length xs) × HoldsAt (λ y. x.now ≡ y) xs k)
    → option_map (λ x. x.now) r ≡ slice_get xs k
found xs k None h = sym (slice_get_past xs k h)
found xs k (Some x) h = sym (slice_get_read xs (length xs) k x.now refl h.0 (h.1 x.now))

pub families_at : (fs : List code.Family) (k : ℕ) → option_map as_family (slice_get fs k) ≡ slice_get (families_of fs) k
families_at [] k = refl
families_at (f ∷ fs) zero = refl
families_at (f ∷ fs) (suc k) = families_at fs k

pub words_at : (ws : List code_word.Word) (k : ℕ) → option_map as_word (slice_get ws k) ≡ slice_get (words_of ws) k
words_at [] k = refl
words_at (w ∷ ws) zero = refl
words_at (w ∷ ws) (suc k) = words_at ws k

-- ---- registers

-- A class's registers are those of the family at its place.
pub by_family : (c : Class) (v : ℕ) → spelled c v ≡ spelled_by (slice_get families (family_place c)) c v
by_family Unknown v = refl
by_family c v = refl

pub short_register : (c : Class) → is_short_register (slice_get families (family_place c)) ≡ true
short_register Unknown = refl
short_register c = refl

-- ---- other words

-- each word stands at its place
are_placed : List Word → ℕ → Bool
are_placed [] k = true
are_placed (w ∷ ws) k = word_place w.class w.value == k && are_placed ws (suc k)

all_placed : are_placed dictionary 0 ≡ true
unfolding dictionary are_placed
all_placed = refl

same_place : (w : Word) (c : Class) (v k : ℕ) → (word_place w.class w.value == k) ≡ true → is_word_of w c v ≡ true → word_place c v ≡ k
same_place w c v k p e =
    let e2 = and_parts (same_class c w.class) (v == w.value) e in
    ap₂ (λ (n x : ℕ). get_or PLACES (get_or ROWS n NONE + x) NONE) (eqb-true _ _ e2.0) (eqb-true _ _ e2.1) ∙ eqb-true _ _ p

none_behind : (ws : List Word) (c : Class) (v k : ℕ) → are_placed ws k ≡ true → word_place c v < k → spelled_word ws c v ≡ []
unfolding are_placed
none_behind [] c v k h l = refl
none_behind (w ∷ ws) c v k h l =
    let h2 = and_parts (word_place w.class w.value == k) (are_placed ws (suc k)) h in
    elim (cases_Bool (is_word_of w c v)) [
      | inl e ↦ (let p : word_place c v ≡ k = same_place w c v k h2.0 e in absurd (omega (arith, p, l)))
      | inr e ↦ ap (λ (b : Bool). if b then w.text else spelled_word ws c v) e ∙ none_behind ws c v (suc k) h2.1 (omega (arith, l))
    ]

word_at_place : (ws : List Word) (c : Class) (v k j : ℕ) → are_placed ws k ≡ true → word_place c v ≡ k + j → spelled_word ws c v ≡ spelled_at (slice_get ws j) c v
unfolding are_placed
word_at_place [] c v k j h p = refl
word_at_place (w ∷ ws) c v k zero h p =
    let h2 = and_parts (word_place w.class w.value == k) (are_placed ws (suc k)) h in
    elim (cases_Bool (is_word_of w c v)) [
      | inl e ↦ ap (λ (b : Bool). if b then w.text else spelled_word ws c v) e ∙ sym (ap (λ (b : Bool). if b then w.text else []) e)
      | inr e ↦ ap (λ (b : Bool). if b then w.text else spelled_word ws c v) e
          ∙ none_behind ws c v (suc k) h2.1 (omega (arith, p))
          ∙ sym (ap (λ (b : Bool). if b then w.text else []) e)
    ]
word_at_place (w ∷ ws) c v k (suc j) h p =
    let h2 = and_parts (word_place w.class w.value == k) (are_placed ws (suc k)) h in
    elim (cases_Bool (is_word_of w c v)) [
      | inl e ↦ (let q : word_place c v ≡ k = same_place w c v k h2.0 e in absurd (omega (arith, p, q)))
      | inr e ↦ ap (λ (b : Bool). if b then w.text else spelled_word ws c v) e ∙ word_at_place ws c v (suc k) j h2.1 (omega (arith, p))
    ]

-- A word of the dictionary stands at the place of its class and value.
pub by_place : (c : Class) (v : ℕ) → spelled_word dictionary c v ≡ spelled_at (slice_get dictionary (word_place c v)) c v
by_place c v = word_at_place dictionary c v 0 (word_place c v) all_placed (omega arith)

pub short_word : (ws : List Word) (k : ℕ) → are_short_words ws ≡ true → is_short_word (slice_get ws k) ≡ true
short_word [] k h = refl
short_word (w ∷ ws) zero h = (and_parts (nat_le (length w.text) 20) (are_short_words ws) h).0
short_word (w ∷ ws) (suc k) h = short_word ws k (and_parts (nat_le (length w.text) 20) (are_short_words ws) h).1
