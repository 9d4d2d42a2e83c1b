-- Words that `count` hands on.
use Rattle.std.proofs.Common.{◌≡◌, ◌<◌, ◌≤◌, ℕ, ◌+◌, Bool, true, false, List, [], ◌∷◌, ◌++◌, codes, get_or, drop, drop-cons, take, length, Option, None, Some, sym, refl, ap, ◌∙◌, append_assoc, append-nil, length-drop, suc, add-one, arith, if◌then◌else◌}
use Rattle.std.proofs.lemmas.List.{drop_all, length-take, drop-append-le}
use Rattle.std.proofs.Math.Seq.{take-suc}
use Rattle.std.specs.Str.{bytes_eq}
use Rattle.tool_lines.specs.CountedWords.{all_from, is_all}

-- the words from a place on, of which two are left
two_left : (words : List (List ℕ)) (place : ℕ) → place + 1 < length words → drop place words ≡ get_or words place [] ∷ get_or words (place + 1) [] ∷ drop (place + 2) words
two_left words place h =
    drop-cons words place [] (omega arith)
    ∙ ap (λ (k : ℕ). get_or words place [] ∷ drop k words) (sym (add-one place))
    ∙ ap (λ (ws : List (List ℕ)). get_or words place [] ∷ ws) (drop-cons words (place + 1) [] h)
    ∙ ap (λ (k : ℕ). get_or words place [] ∷ get_or words (place + 1) [] ∷ drop k words) (let e : suc (place + 1) ≡ place + 2 = omega arith in e)

one_left : (words : List (List ℕ)) (place : ℕ) → place + 1 < length words → drop (place + 1) words ≡ get_or words (place + 1) [] ∷ drop (place + 2) words
one_left words place h =
    drop-cons words (place + 1) [] h ∙ ap (λ (k : ℕ). get_or words (place + 1) [] ∷ drop k words) (let e : suc (place + 1) ≡ place + 2 = omega arith in e)

pub all_here : (words : List (List ℕ)) (place : ℕ) → place + 1 < length words → all_from place (drop place words)
    ≡ (if bytes_eq (get_or words place []) (codes "--") then None else (if is_all (get_or words place []) (get_or words (place + 1) []) then Some place else all_from (place + 1) (drop (place + 1) words)))
all_here words place h =
    ap (λ (ws : List (List ℕ)). all_from place ws) (two_left words place h)
    ∙ ap (λ (ws : List (List ℕ)). if bytes_eq (get_or words place []) (codes "--") then None else (if is_all (get_or words place []) (get_or words (place + 1) []) then Some place else all_from (place + 1) ws)) (sym (one_left words place h))

abbrev chosen : Bool → Bool → ℕ → Option ℕ → Option ℕ
chosen ends all place more = if ends then None else (if all then Some place else more)

module _ (words : List (List ℕ)) (place : ℕ) (h : place + 1 < length words) where
  by_tests : (ends all : Bool) → bytes_eq (get_or words place []) (codes "--") ≡ ends → is_all (get_or words place []) (get_or words (place + 1) []) ≡ all
      → all_from place (drop place words) ≡ chosen ends all place (all_from (place + 1) (drop (place + 1) words))
  by_tests ends all e a =
      all_here words place h
      ∙ ap (λ (b : Bool). chosen b (is_all (get_or words place []) (get_or words (place + 1) [])) place (all_from (place + 1) (drop (place + 1) words))) e
      ∙ ap (λ (b : Bool). chosen ends b place (all_from (place + 1) (drop (place + 1) words))) a

  -- `--` stands here
  pub ends_here : bytes_eq (get_or words place []) (codes "--") ≡ true → all_from place (drop place words) ≡ None
  ends_here e = by_tests true (is_all (get_or words place []) (get_or words (place + 1) [])) e refl

  -- `--vl` and `all` stand here
  pub found_here : bytes_eq (get_or words place []) (codes "--") ≡ false → is_all (get_or words place []) (get_or words (place + 1) []) ≡ true → all_from place (drop place words) ≡ Some place
  found_here e a = by_tests false true e a

  -- another word
  pub not_here : bytes_eq (get_or words place []) (codes "--") ≡ false → is_all (get_or words place []) (get_or words (place + 1) []) ≡ false
      → all_from place (drop place words) ≡ all_from (place + 1) (drop (place + 1) words)
  not_here e a = by_tests false false e a

-- one word is left, or none
last_only : (place : ℕ) (words : List (List ℕ)) → length words ≤ 1 → all_from place words ≡ None
last_only place [] h = refl
last_only place (word ∷ []) h = refl
last_only place (word ∷ next ∷ words) h = absurd (omega arith)

pub none_here : (words : List (List ℕ)) (place : ℕ) → length words ≤ place + 1 → all_from place (drop place words) ≡ None
none_here words place h = last_only place (drop place words) (omega (arith, length-drop place words))

-- ---- words that are copied one after the other

-- one more, of those up to a place
pub handed_more : (copied words : List (List ℕ)) (from place : ℕ) (word : List ℕ) → from ≤ place → place < length words → word ≡ get_or words place []
    → (copied ++ drop from (take place words)) ++ word ∷ [] ≡ copied ++ drop from (take (place + 1) words)
handed_more copied words from place word low h is =
    append_assoc copied (drop from (take place words)) (word ∷ [])
    ∙ ap (λ (ws : List (List ℕ)). copied ++ ws)
    (ap (λ (x : List ℕ). drop from (take place words) ++ x ∷ []) is
    ∙ sym (drop-append-le from (take place words) (get_or words place [] ∷ []) (omega (arith, length-take place words)))
    ∙ ap (λ (ws : List (List ℕ)). drop from ws) (sym (take-suc words place [] h) ∙ ap (λ (k : ℕ). take k words) (sym (add-one place))))

-- none yet
pub none_handed : (copied words : List (List ℕ)) (from : ℕ) → copied ≡ copied ++ drop from (take from words)
none_handed copied words from =
    sym (ap (λ (ws : List (List ℕ)). copied ++ ws) (drop_all from (take from words) (omega (arith, length-take from words))) ∙ append-nil copied)
