-- What reading a source to its end gives.
use Rattle.std.specs.Prelude.{◌≡◌, ◌≤◌, ℕ, ◌+◌, List, [], length, Option, Some, Result, IfSome, MatchResult}
use Rattle.std.specs.Global.{Vec}
use Rattle.std.specs.Io.KnownBytes.{Consumes}
use Rattle.io_gate.specs.declared.whole_source.ReadEnd.{ReadEnd}
use Rattle.io_gate.specs.declared.whole_source.ReadEnd.TheVariants.{Failed, TooLong, OutOfMemory}

-- some of the first bytes were taken, and the rest is still to come
abbrev pub LosesAtMost : ℕ → List ℕ → Option (List ℕ) → Type 0
LosesAtMost most left new = (bytes : List ℕ) × (Consumes (Some left) new bytes) × (length bytes ≤ most)

-- too long is exactly where one byte more than the limit came
abbrev pub Stops : ReadEnd → ℕ → List ℕ → Option (List ℕ) → Type 0
Stops Failed limit left new = LosesAtMost limit left new
Stops TooLong limit left new = (bytes : List ℕ) × (Consumes (Some left) new bytes) × (length bytes ≡ limit + 1)
Stops OutOfMemory limit left new = LosesAtMost limit left new

-- where the source tells what is left, Ok has all of it
abbrev pub ReadsAll : Option (List ℕ) → Option (List ℕ) → ℕ → Result (Vec ℕ) ReadEnd → Type 0
ReadsAll old new limit result = IfSome old (λ left. MatchResult result (λ bytes. (bytes.items ≡ left) × (new ≡ Some [])) (λ end. Stops end limit left new))
