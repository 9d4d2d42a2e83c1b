-- Tokens of a line of a listing. A token is a string, a longest run of ASCII letters, digits, `_` and `.`, or one other
-- character. Spaces and tabs may stand between any two tokens, and `//` outside a string begins a comment. Comments are
-- those of GNU as's manual for AArch64, 'Special Characters'; all else is this project's own choice, as docs/MANUAL.md
-- has it under "Listings".
use Rattle.std.specs.Prelude.{ℕ, zero, suc, ◌+◌, ◌-◌, ◌==◌, ◌&&◌, ◌||◌, Bool, true, false, if◌then◌else◌, List, [], ◌∷◌}
use Rattle.std.specs.Prelude.{take, nat_le, nat_lt}
use Rattle.std.specs.Char.{is_ascii_alphanumeric}
use Rattle.std.specs.List.{prefix_len}

-- ---- characters

abbrev pub underscore : ℕ
underscore = 95

abbrev pub dot : ℕ
dot = 46

abbrev pub quote : ℕ
quote = 34

abbrev pub backslash : ℕ
backslash = 92

abbrev pub slash : ℕ
slash = 47

abbrev pub space : ℕ
space = 32

abbrev pub tab : ℕ
tab = 9

abbrev pub is_word_byte : ℕ → Bool
is_word_byte c = is_ascii_alphanumeric c || (c == underscore || c == dot)

abbrev pub is_blank : ℕ → Bool
is_blank c = c == space || c == tab

-- the further bytes of a character that UTF-8 writes in more than one
abbrev pub is_continuation : ℕ → Bool
is_continuation c = nat_le 128 c && nat_lt c 192

-- ---- the first token

-- Bytes of a string behind its opening quote, the closing one included. A character behind a backslash closes nothing;
-- a string that isn't closed goes on to the end.
abbrev pub string_length : Bool → List ℕ → ℕ
string_length escaped [] = 0
string_length true (c ∷ cs) = 1 + string_length false cs
string_length false (c ∷ cs) = if c == quote then 1 else 1 + string_length (c == backslash) cs

-- bytes of the token that a text begins with, or of the blank
abbrev pub piece_length : List ℕ → ℕ
piece_length [] = 0
piece_length (c ∷ cs) =
    if is_word_byte c then 1 + prefix_len is_word_byte cs
    else (if c == quote then 1 + string_length false cs
    else (if is_blank c then 1 else 1 + prefix_len is_continuation cs))

abbrev pub begins_with : ℕ → List ℕ → Bool
begins_with c [] = false
begins_with c (d ∷ ds) = d == c

abbrev pub begins_comment : List ℕ → Bool
begins_comment [] = false
begins_comment (c ∷ cs) = c == slash && begins_with slash cs

-- ---- all of them

-- the tokens of a text behind its first n bytes
abbrev pub tokens_behind : ℕ → List ℕ → List (List ℕ)
tokens_behind n [] = []
tokens_behind (suc n) (c ∷ cs) = tokens_behind n cs
tokens_behind zero (c ∷ cs) =
    if begins_comment (c ∷ cs) then []
    else (if is_blank c then tokens_behind 0 cs
    else take (piece_length (c ∷ cs)) (c ∷ cs) ∷ tokens_behind (piece_length (c ∷ cs) - 1) cs)

abbrev pub tokens : List ℕ → List (List ℕ)
tokens text = tokens_behind 0 text
