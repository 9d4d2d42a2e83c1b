-- Texts that are appended one behind the other, one for each number of a range.
use Rattle.std.proofs.Common.{◌≡◌, ℕ, ◌+◌, List, [], ◌∷◌, ◌++◌, flat_map, map, refl, sym, ap, ◌∙◌, append-nil, append_assoc}
use Rattle.std.specs.List.{range_with_len}
use Rattle.std.proofs.lemmas.List.FromFn.{map-range_with_len_more}
use Rattle.std.proofs.lemmas.Grind.{flat_map-append}

same_map : (xs : List ℕ) → map (λ k. k) xs ≡ xs
same_map [] = refl
same_map (x ∷ xs) = ap (λ (ys : List ℕ). x ∷ ys) (same_map xs)

range_more : (a n j : ℕ) → a + n ≡ j → range_with_len a (n + 1) ≡ range_with_len a n ++ j ∷ []
range_more a n j at =
    sym (same_map (range_with_len a (n + 1))) ∙ map-range_with_len_more (λ (k : ℕ). k) a n j at ∙ ap (λ (xs : List ℕ). xs ++ j ∷ []) (same_map (range_with_len a n))

flat_more : (f : ℕ → List ℕ) (a n j : ℕ) → a + n ≡ j → flat_map f (range_with_len a (n + 1)) ≡ flat_map f (range_with_len a n) ++ f j
flat_more f a n j at =
    ap (λ (xs : List ℕ). flat_map f xs) (range_more a n j at)
    ∙ flat_map-append f (range_with_len a n) (j ∷ [])
    ∙ ap (λ (xs : List ℕ). flat_map f (range_with_len a n) ++ xs) (append-nil (f j))

-- one more
pub appended_more : (f : ℕ → List ℕ) (a n j : ℕ) (old was new : List ℕ) → a + n ≡ j → was ≡ old ++ flat_map f (range_with_len a n) → new ≡ was ++ f j → new ≡ old ++ flat_map f (range_with_len a (n + 1))
appended_more f a n j old was new at so_far one =
    one ∙ ap (λ (xs : List ℕ). xs ++ f j) so_far ∙ append_assoc old (flat_map f (range_with_len a n)) (f j) ∙ ap (λ (xs : List ℕ). old ++ xs) (sym (flat_more f a n j at))

-- none yet
pub appended_none : (old : List ℕ) → old ≡ old ++ []
appended_none old = sym (append-nil old)
