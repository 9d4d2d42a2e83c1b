-- A colon behind a line's first token.
use Rattle.std.specs.Prelude.{◌≡◌, ℕ, Bool, true, false, List, [], ◌∷◌, Option, Some, None, drop}
use Rattle.listing_model.specs.LineOf.{colon}
use Rattle.asm_tokens.specs.Layout.{is_sign}
use Rattle.asm_tokens.specs.Tokens.{tokens}

abbrev pub begins_colon : List (List ℕ) → Bool
begins_colon [] = false
begins_colon (t ∷ ts) = is_sign colon t

-- the next token from a place on is a colon, and `next` stands behind it; or it is none
abbrev pub IsColon : List ℕ → ℕ → Option ℕ → Type 0
IsColon text start None = begins_colon (tokens (drop start text)) ≡ false
IsColon text start (Some next) = (t : List ℕ) × (tokens (drop start text) ≡ t ∷ tokens (drop next text)) × (is_sign colon t ≡ true)
