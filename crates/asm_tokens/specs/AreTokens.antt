-- Which lists of bytes are tokens, and where a token ends, for laws.
use Rattle.std.specs.Prelude.{ℕ, ◌==◌, ◌&&◌, ◌||◌, not, Bool, false, if◌then◌else◌, List, [], ◌∷◌, nat_lt}
use Rattle.std.specs.List.{list_all}
use Rattle.asm_tokens.specs.Tokens.{is_word_byte, is_blank, is_continuation, quote, slash, begins_with}
use Rattle.asm_tokens.specs.Layout.{is_empty, is_sign, begins_word}

-- an ASCII character that is a token of its own
abbrev pub is_mark : ℕ → Bool
is_mark c = nat_lt c 128 && not (is_blank c || c == quote)

-- a word, or a mark
abbrev pub is_token : List ℕ → Bool
is_token [] = false
is_token (c ∷ cs) = if is_word_byte c then list_all is_word_byte cs else is_mark c && is_empty cs

abbrev pub are_tokens : List (List ℕ) → Bool
are_tokens ts = list_all is_token ts

abbrev pub continues_character : List ℕ → Bool
continues_character [] = false
continues_character (c ∷ cs) = is_continuation c

-- the token t ends where x begins: x adds nothing to a word or a character, and makes no comment of a slash
abbrev pub ends : List ℕ → List ℕ → Bool
ends t x = not (begins_word t && begins_word x) && (not (is_sign slash t && begins_with slash x) && not (continues_character x))
