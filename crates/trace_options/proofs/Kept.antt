-- Words that are copied one after the other, but for options and their values.
use Rattle.std.proofs.Common.{◌≡◌, ◌<◌, ◌≤◌, ℕ, ◌+◌, Bool, true, false, not, ◌&&◌, ◌||◌, is_some, if◌then◌else◌, List, [], ◌∷◌, ◌++◌, get_or, drop, drop-cons, length, refl, sym, ap, ◌∙◌, append_assoc, append-nil, add-one}
use Rattle.std.proofs.lemmas.List.{drop_all}
use Rattle.trace_options.specs.Options.{option_of}
use Rattle.trace_options.specs.RunWords.{ends_options, gives_option, without_options}

-- what is left of words: all behind `--`
abbrev pub left_of : Bool → Bool → List (List ℕ) → List (List ℕ)
left_of plain value words = if plain then words else without_options value words

-- a word that is kept
abbrev kept : Bool → List ℕ → List (List ℕ)
kept keep word = if keep then word ∷ [] else []

by_tests : (ends some : Bool) (word : List ℕ) (words : List (List ℕ))
    → (if ends then word ∷ words else (if (not ends && some) then without_options true words else word ∷ without_options false words))
    ≡ kept (not (not ends && some)) word ++ left_of ends (not ends && some) words
by_tests true some word words = refl
by_tests false true word words = refl
by_tests false false word words = refl

one_word : (plain value : Bool) (word : List ℕ) (words : List (List ℕ)) → left_of plain value (word ∷ words)
    ≡ kept (plain || not (value || ((not plain && not value) && gives_option word))) word ++ left_of (plain || (not value && ends_options word)) ((not plain && not value) && gives_option word) words
one_word true value word words = refl
one_word false true word words = refl
one_word false false word words = by_tests (ends_options word) (is_some (option_of word)) word words

-- one more is copied, or left out
pub kept_more : (copied after ws : List (List ℕ)) (place : ℕ) (plain value option later keep : Bool) (word : List ℕ) → place < length ws → word ≡ get_or ws place []
    → option ≡ ((not plain && not value) && gives_option word) → later ≡ (plain || (not value && ends_options word)) → keep ≡ (plain || not (value || option))
    → after ≡ copied ++ kept keep word → after ++ left_of later option (drop (place + 1) ws) ≡ copied ++ left_of plain value (drop place ws)
kept_more copied after ws place plain value option later keep word h is o l k a =
    let rest = drop (place + 1) ws in
    let here : drop place ws ≡ word ∷ rest = drop-cons ws place [] h ∙ ap (λ (n : ℕ). get_or ws place [] ∷ drop n ws) (sym (add-one place)) ∙ ap (λ (x : List ℕ). x ∷ rest) (sym is) in
    ap (λ (xs : List (List ℕ)). xs ++ left_of later option rest) a
    ∙ append_assoc copied (kept keep word) (left_of later option rest)
    ∙ ap (λ (xs : List (List ℕ)). copied ++ xs)
    (ap (λ (b : Bool). kept b word ++ left_of later option rest) k
    ∙ ap (λ (b : Bool). kept (plain || not (value || option)) word ++ left_of b option rest) l
    ∙ ap (λ (b : Bool). kept (plain || not (value || b)) word ++ left_of (plain || (not value && ends_options word)) b rest) o
    ∙ sym (one_word plain value word rest)
    ∙ ap (λ (xs : List (List ℕ)). left_of plain value xs) (sym here))

none_left : (plain value : Bool) → left_of plain value [] ≡ []
none_left true value = refl
none_left false value = refl

pub kept_all : (copied ws : List (List ℕ)) (place : ℕ) (plain value : Bool) → length ws ≤ place → copied ≡ copied ++ left_of plain value (drop place ws)
kept_all copied ws place plain value h =
    sym (ap (λ (xs : List (List ℕ)). copied ++ left_of plain value xs) (drop_all place ws h) ∙ ap (λ (xs : List (List ℕ)). copied ++ xs) (none_left plain value) ∙ append-nil copied)
