-- What an index of names says of each name, and that a binary search finds it.
use Rattle.std.proofs.Common.{◌≡◌, ℕ, ◌<◌, ◌≤◌, ◌&&◌, if◌then◌else◌, Bool, true, false, Option, Some, None, Result, Ok, Err, MatchResult, List, [], ◌∷◌, length, get_or, refl, sym, ap, ◌∙◌, arith, inl, inr}
use Rattle.std.proofs.lemmas.Bool.{cases_Bool, and_parts, leb-true, false≢true}
use Rattle.std.proofs.lemmas.Slice.Eq.{bytes_eq-Decides}
use Rattle.std.specs.Cmp.Lexicographic.{slice_cmp}
use Rattle.std.specs.List.Sorted.{IsBinarySearchResult, IsSearchInRange}
use Rattle.std.specs.Ordering.{nat_cmp, is_lt}
use Rattle.std.specs.Str.{bytes_eq}
use Rattle.text_code.specs.declared.patterns.Spot.{Spot}
use Rattle.text_code.specs.declared.patterns.Name.{Name}
use Rattle.text_model.specs.Reading.{Pattern}
use Rattle.text_model.specs.Writing.{flat}
use Rattle.text_code.specs.Reads.{with_name, at_spots, are_spots}
use Rattle.text_code.specs.Names.{Named, names_of, spots_named, are_ascending, are_short, is_searchable, given_patterns, own_patterns, is_known, all_known, all_spots, IsIndex}
use Rattle.text_code.proofs.Search.{find_by, order, are_ascending as ascending_by, searched}

-- ---- a name of the index

same : (s t : List ℕ) → bytes_eq s t ≡ true → s ≡ t
same s t h = (bytes_eq-Decides s t).0 h

first_of : (x y : List Pattern) (xs ys : List (List Pattern)) → x ∷ xs ≡ y ∷ ys → x ≡ y
first_of x y xs ys h = cc

rest_of : (x y : List Pattern) (xs ys : List (List Pattern)) → x ∷ xs ≡ y ∷ ys → xs ≡ ys
rest_of x y xs ys h = cc

known : (pss : List (List Pattern)) (ps : List Pattern) (ns : List Named) (s : List ℕ) → given_patterns pss ns ≡ own_patterns ps ns → is_known ns s ≡ true
    → at_spots pss (spots_named ns s) ≡ with_name s ps
known pss ps [] s g k = absurd (false≢true k)
known pss ps (n ∷ ns) s g k =
    let f = λ (b : Bool). at_spots pss (if b then n.spots else spots_named ns s) in
    elim (cases_Bool (bytes_eq s n.name)) [
      | inl e ↦ ap f e ∙ first_of _ _ _ _ g ∙ ap (λ (t : List ℕ). with_name t ps) (sym (same s n.name e))
      | inr e ↦ ap f e ∙ known pss ps ns s (rest_of _ _ _ _ g) (sym (ap (λ (b : Bool). if b then true else is_known ns s) e) ∙ k)
    ]

-- ---- another name

no_spots : (ns : List Named) (s : List ℕ) → is_known ns s ≡ false → spots_named ns s ≡ []
no_spots [] s k = refl
no_spots (n ∷ ns) s k = elim (cases_Bool (bytes_eq s n.name)) [
  | inl e ↦ absurd (false≢true (sym k ∙ ap (λ (b : Bool). if b then true else is_known ns s) e))
  | inr e ↦ ap (λ (b : Bool). if b then n.spots else spots_named ns s) e ∙ no_spots ns s (sym (ap (λ (b : Bool). if b then true else is_known ns s) e) ∙ k)
]

no_patterns : (ns : List Named) (ps : List Pattern) (s : List ℕ) → all_known ns ps ≡ true → is_known ns s ≡ false → with_name s ps ≡ []
no_patterns ns [] s a k = refl
no_patterns ns (p ∷ ps) s a k =
    let a2 = and_parts (is_known ns p.name) (all_known ns ps) a in
    elim (cases_Bool (bytes_eq s p.name)) [
      | inl e ↦ absurd (false≢true (sym k ∙ ap (is_known ns) (same s p.name e) ∙ a2.0))
      | inr e ↦ ap (λ (b : Bool). if b then p ∷ with_name s ps else with_name s ps) e ∙ no_patterns ns ps s a2.1 k
    ]

-- Where the index says that a name's patterns stand, they stand.
pub indexed : (ns : List Named) (pss : List (List Pattern)) (s : List ℕ) → IsIndex ns pss → at_spots pss (spots_named ns s) ≡ with_name s (flat pss)
indexed ns pss s i = elim (cases_Bool (is_known ns s)) [
  | inl e ↦ known pss (flat pss) ns s i.patterns e
  | inr e ↦ ap (at_spots pss) (no_spots ns s e) ∙ sym (no_patterns ns (flat pss) s i.known e)
]

spots_there : (ns : List Named) (pss : List (List Pattern)) (s : List ℕ) → all_spots pss ns ≡ true → are_spots pss (spots_named ns s) ≡ true
spots_there [] pss s h = refl
spots_there (n ∷ ns) pss s h =
    let h2 = and_parts (are_spots pss n.spots) (all_spots pss ns) h in
    elim (cases_Bool (bytes_eq s n.name)) [
      | inl e ↦ ap (λ (b : Bool). are_spots pss (if b then n.spots else spots_named ns s)) e ∙ h2.0
      | inr e ↦ ap (λ (b : Bool). are_spots pss (if b then n.spots else spots_named ns s)) e ∙ spots_there ns pss s h2.1
    ]

pub within : (ns : List Named) (pss : List (List Pattern)) (s : List ℕ) → IsIndex ns pss → are_spots pss (spots_named ns s) ≡ true
within ns pss s i = spots_there ns pss s i.within

-- ---- a search for a name

abbrev name_text : Name → List ℕ
name_text n = n.name.now

abbrev pub spots_or_none : Option Name → List Spot
spots_or_none None = []
spots_or_none (Some n) = n.spots.now

same_spots : (ns : List Name) (s : List ℕ) → spots_named (names_of ns) s ≡ spots_or_none (find_by name_text ns s)
same_spots [] s = refl
same_spots (n ∷ ns) s = elim (cases_Bool (bytes_eq s n.name.now)) [
  | inl e ↦ ap (λ (b : Bool). if b then n.spots.now else spots_named (names_of ns) s) e ∙ sym (ap (λ (b : Bool). spots_or_none (if b then Some n else find_by name_text ns s)) e)
  | inr e ↦ ap (λ (b : Bool). if b then n.spots.now else spots_named (names_of ns) s) e ∙ same_spots ns s
      ∙ sym (ap (λ (b : Bool). spots_or_none (if b then Some n else find_by name_text ns s)) e)
]

same_ascending : (ns : List Name) → ascending_by name_text ns ≡ are_ascending (names_of ns)
same_ascending [] = refl
same_ascending (n ∷ []) = refl
same_ascending (n ∷ m ∷ ms) = ap (λ (b : Bool). is_lt (order (name_text n) (name_text m)) && b) (same_ascending (m ∷ ms))

-- What a binary search for a name answers.
pub looked_up_name : (ns : List Name) (s : List ℕ) (r : Result ℕ ℕ) → is_searchable (names_of ns) ≡ true → IsSearchInRange r (length ns)
    → IsBinarySearchResult (λ (n : Name). slice_cmp nat_cmp n.name.now s) ns r
    → MatchResult r (λ i. (d : Name) → spots_named (names_of ns) s ≡ (get_or ns i d).spots.now) (λ i. spots_named (names_of ns) s ≡ [])
looked_up_name ns s (Ok i) h l b =
    let f = searched name_text ns s (Ok i) (same_ascending ns ∙ (and_parts _ (are_short (names_of ns)) h).0) l b in
    λ (d : Name). same_spots ns s ∙ ap spots_or_none (f d)
looked_up_name ns s (Err i) h l b =
    let f = searched name_text ns s (Err i) (same_ascending ns ∙ (and_parts _ (are_short (names_of ns)) h).0) l b in
    same_spots ns s ∙ ap spots_or_none f

too_long : (s t : List ℕ) → length t < length s → bytes_eq s t ≡ false
too_long s t h = elim (cases_Bool (bytes_eq s t)) [
  | inl e ↦ (let l : length s ≡ length t = ap length (same s t e) in absurd (omega (arith, h, l)))
  | inr e ↦ e
]

no_long_name : (ns : List Named) (s : List ℕ) → are_short ns ≡ true → 12 < length s → spots_named ns s ≡ []
no_long_name [] s h l = refl
no_long_name (n ∷ ns) s h l =
    let h2 = and_parts _ (are_short ns) h in
    let k : length n.name ≤ 12 = leb-true _ _ h2.0 in
    ap (λ (b : Bool). if b then n.spots else spots_named ns s) (too_long s n.name (omega (arith, k, l))) ∙ no_long_name ns s h2.1 l

-- no name has more than 12 bytes
pub long_name : (ns : List Named) (s : List ℕ) → is_searchable ns ≡ true → 12 < length s → spots_named ns s ≡ []
long_name ns s h l = no_long_name ns s (and_parts (are_ascending ns) (are_short ns) h).1 l
