-- Tokens laid out one after the other, by what stands between each and the next.
use Rattle.std.specs.Prelude.{◌&&◌, ◌||◌, Bool, if◌then◌else◌, ℕ, List, [], ◌∷◌, ◌++◌}
use Rattle.asm_tokens.specs.Layout.{comma, hash, open_brace, is_sign, begins_word, spaced}
use Rattle.asm_tokens.specs.Numbers.{minus}
use Rattle.asm_tokens.specs.Tokens.{slash}
use Rattle.std.specs.Fmt.{decimal}
use Rattle.text_print.specs.declared.edges.Edge.{Edge}

-- what a token is, as far as the spaces beside it go
abbrev pub edge_of : List ℕ → Edge
edge_of t =
    record {
      comma = is_sign comma t;
      slash = is_sign slash t;
      word = begins_word t;
      opens = is_sign hash t || is_sign open_brace t;
    }

-- a space stands between two tokens
abbrev pub has_gap : Edge → Edge → Bool
has_gap s t = s.comma || ((s.word && (t.word || t.opens)) || (s.slash && t.slash))

-- the text of tokens behind a token of this edge
abbrev pub laid_behind : Edge → List (List ℕ) → List ℕ
laid_behind e [] = []
laid_behind e (t ∷ ts) = spaced (has_gap e (edge_of t)) (t ++ laid_behind (edge_of t) ts)

-- the edge of the last of some tokens, or of the one before them
abbrev pub last_edge : Edge → List (List ℕ) → Edge
last_edge e [] = e
last_edge e (t ∷ ts) = last_edge (edge_of t) ts

-- the tokens of a number with its sign
abbrev pub counted_tokens : Bool → ℕ → List (List ℕ)
counted_tokens negative m =
    (hash ∷ []) ∷ (if negative then (minus ∷ []) ∷ decimal m ∷ [] else decimal m ∷ [])
