-- Tokens laid out as a text, as instructions are printed. Where spaces stand is this project's own choice.
use Rattle.std.specs.Prelude.{ℕ, ◌==◌, ◌&&◌, ◌||◌, Bool, true, false, if◌then◌else◌, List, [], ◌∷◌, ◌++◌}
use Rattle.asm_tokens.specs.Tokens.{is_word_byte, slash, space}

abbrev pub comma : ℕ
comma = 44

abbrev pub hash : ℕ
hash = 35

abbrev pub open_brace : ℕ
open_brace = 123

abbrev pub is_empty : List ℕ → Bool
is_empty [] = true
is_empty (c ∷ cs) = false

-- a token of this one character
abbrev pub is_sign : ℕ → List ℕ → Bool
is_sign c [] = false
is_sign c (d ∷ ds) = d == c && is_empty ds

abbrev pub begins_word : List ℕ → Bool
begins_word [] = false
begins_word (c ∷ cs) = is_word_byte c

-- A space stands behind a comma, between a word and a word, `#` or `{`, and between two slashes, which would begin a
-- comment.
abbrev pub has_gap : List ℕ → List ℕ → Bool
has_gap s t =
    is_sign comma s || ((begins_word s && (begins_word t || (is_sign hash t || is_sign open_brace t)))
    || (is_sign slash s && is_sign slash t))

abbrev pub spaced : Bool → List ℕ → List ℕ
spaced gap t = if gap then space ∷ t else t

-- the text of tokens that stand behind a token s
abbrev pub laid : List ℕ → List (List ℕ) → List ℕ
laid s [] = []
laid s (t ∷ ts) = spaced (has_gap s t) (t ++ laid t ts)
