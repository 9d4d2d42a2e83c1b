-- Where tokens and numbers stand in a text.
use Rattle.std.specs.Prelude.{◌≡◌, ℕ, ℤ, zero, suc, ◌<◌, ◌≤◌, true, List, ◌∷◌, Option, Some, length, drop, slice_range}
use Rattle.std.specs.List.{list_all}
use Rattle.asm_tokens.specs.Numbers.{Number, value}
use Rattle.asm_tokens.specs.Tokens.{is_blank, tokens}

-- The first token of a text from a place on stands from `first` to before `past`.
pub record IsToken (text : List ℕ) (start first past : ℕ) : Type 0 where
  pub after : start ≤ first
  pub blanks : list_all is_blank (slice_range text start first) ≡ true
  pub some : first < past
  pub within : past ≤ length text
  pub is : tokens (drop start text) ≡ slice_range text first past ∷ tokens (drop past text)

-- The first n tokens of a text from a place on end before `past`.
abbrev pub AreTokens : ℕ → List ℕ → ℕ → ℕ → Type 0
AreTokens zero text start past = past ≡ start
AreTokens (suc n) text start past = (first : ℕ) × (next : ℕ) × IsToken text start first next × AreTokens n text next past

-- A number that tokens from a place on write has the value x, and `past` is the place behind it.
pub record IsNumber (found : Option Number) (text : List ℕ) (start : ℕ) (x : ℤ) (past : ℕ) : Type 0 where
  pub number : Number
  pub is : found ≡ Some number
  pub value_is : x ≡ value number
  pub behind : AreTokens number.count text start past
