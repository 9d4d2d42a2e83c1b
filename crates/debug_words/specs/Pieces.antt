-- The words of a condition, where they stand without a space around its comparison. `x0==3` is `x0`, `==` and `3`.
use Rattle.std.specs.Prelude.{ℕ, Bool, true, false, ◌||◌, List, [], ◌∷◌, ◌++◌, length, drop, codes, Option, Some, None}
use Rattle.std.specs.Prelude.{nat_eq, if◌then◌else◌}
use Rattle.std.specs.List.{starts_with}
use Rattle.std.specs.Str.{bytes_eq}
use Rattle.debug_names.specs.Registers.{cut}

-- a part of a word, unless nothing stands there
abbrev pub piece : List ℕ → List (List ℕ)
piece part = if nat_eq (length part) 0 then [] else part ∷ []

-- a sign, or the sign and the `=` behind it, and what stands behind that
abbrev pub behind_sign : List ℕ → List ℕ → List ℕ → List (List ℕ)
behind_sign sign both rest =
    if starts_with nat_eq rest (codes "=") then both ∷ piece (drop 1 rest) else sign ∷ piece rest

abbrev pub pieces_by : List ℕ → List ℕ → List (List ℕ) → Option (List ℕ × List ℕ) → List (List ℕ)
pieces_by sign both other None = other
pieces_by sign both other (Some parts) = piece parts.0 ++ behind_sign sign both parts.1

-- a word is cut before and behind the first `<` that it has, or else `>`, `!` or `=`, with a `=` behind it
abbrev pub pieces : List ℕ → List (List ℕ)
pieces word =
    pieces_by (codes "<") (codes "<=") (pieces_by (codes ">") (codes ">=") (pieces_by (codes "!") (codes "!=")
    (pieces_by (codes "=") (codes "==") (word ∷ []) (cut 61 word)) (cut 33 word)) (cut 62 word)) (cut 60 word)

abbrev pub is_if : List ℕ → Bool
is_if word = bytes_eq word (codes "if")

abbrev pub cut_word : Bool → List ℕ → List (List ℕ)
cut_word false word = word ∷ []
cut_word true word = pieces word

-- behind the first `if` each word is cut
unfoldable pub cut_words : Bool → List (List ℕ) → List (List ℕ)
cut_words behind [] = []
cut_words behind (word ∷ words) = cut_word behind word ++ cut_words (behind || is_if word) words
