-- Arguments read one by one, and what is stored of them.
use Rattle.std.specs.Prelude.{◌≡◌, ℕ, ◌*◌, ◌<◌, ◌≤◌, Bool, false, List, [], ◌∷◌, ◌++◌, Option, Some, None, drop, length, map, slice_range}
use Rattle.std.specs.Bool.{MatchBool}
use Rattle.std.specs.List.{slice_split}
use Rattle.std.specs.Str.{IsCharBoundary}
use Rattle.asm_text.specs.declared.numbers.Argument.{Argument}
use Rattle.asm_text.specs.declared.numbers.Argument.TheVariants as code
use Rattle.asm_text.specs.declared.numbers.Numbers.{Numbers}
use Rattle.asm_text.specs.Leading.{leading, leading_label, is_comma, part_of}
use Rattle.asm_tokens.specs.declared.target.Target.{Target}
use Rattle.listing_model.specs.Directives as directives
use Rattle.asm_tokens.specs.Places.{AreTokens}
use Rattle.asm_tokens.specs.Tokens.{tokens}

-- the argument that stands in a text
abbrev pub argument_of : List ℕ → Argument → directives.Argument
argument_of text (code.Number x) = directives.number x
argument_of text (code.Label t) = directives.label (slice_range text t.from t.to)

-- a label's token may be cut out of its text
abbrev pub MayBeCut : List ℕ → Argument → Type 0
MayBeCut text (code.Number x) = Unit {0}
MayBeCut text (code.Label t) = (t.from ≤ t.to) × IsCharBoundary text t.from × IsCharBoundary text t.to

-- the tokens from a place on begin with a label, behind which `past` stands
pub record IsLabel (text : List ℕ) (start : ℕ) (a : directives.Argument) (past : ℕ) : Type 0 where
  pub is : leading_label (tokens (drop start text)) ≡ Some (a, 1)
  pub behind : AreTokens 1 text start past

-- the tokens from a place on begin with an argument, behind which `past` stands
pub record IsLeading (labels : Bool) (text : List ℕ) (start : ℕ) (a : directives.Argument) (past : ℕ) : Type 0 where
  pub count : ℕ
  pub is : leading labels (tokens (drop start text)) ≡ Some (a, count)
  pub behind : AreTokens count text start past

-- the parts between commas from a place on: the first, and those from `next` on
abbrev pub GoOn : List ℕ → ℕ → Option ℕ → Type 0
GoOn text start None = slice_split is_comma (tokens (drop start text)) ≡ part_of (tokens (drop start text)) ∷ []
GoOn text start (Some next) =
    (start < next) × (next ≤ length text) × IsCharBoundary text next
    × (slice_split is_comma (tokens (drop start text)) ≡ part_of (tokens (drop start text)) ∷ slice_split is_comma (tokens (drop next text)))

-- what stands before the first comma is an argument
pub record IsPart (labels : Bool) (text : List ℕ) (start : ℕ) (a : directives.Argument) (next : Option ℕ) : Type 0 where
  pub is : directives.argument labels (part_of (tokens (drop start text))) ≡ Some a
  pub rest : GoOn text start next

-- these are what is stored of some arguments, unless one of them doesn't fit
abbrev pub AreStored : ℕ → List directives.Argument → Numbers → Type 0
AreStored size xs n =
    MatchBool n.fit (directives.all_some (map (directives.target_in (8 * size)) xs) ≡ Some n.items.items)
    (directives.all_some (map (directives.target_in (8 * size)) xs) ≡ None)

-- an argument is read and stored behind those before
pub record Adds (labels : Bool) (size : ℕ) (text : List ℕ) (start : ℕ) (old new : Numbers) (next : Option ℕ) : Type 0 where
  pub argument : directives.Argument
  pub part : IsPart labels text start argument next
  pub stored : (xs : List directives.Argument) → AreStored size xs old → AreStored size (xs ++ argument ∷ []) new

-- what is stored of an argument is added, or it is noted that it doesn't fit
abbrev pub Keeps : Option Target → Numbers → Numbers → Type 0
Keeps None old new = new.fit ≡ false
Keeps (Some t) old new = (new.items.items ≡ old.items.items ++ t ∷ []) × (new.fit ≡ old.fit)
