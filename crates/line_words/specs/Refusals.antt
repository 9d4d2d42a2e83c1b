-- What follows where nothing is refused, and lines that are read one behind the other. It is this project's own.
use Rattle.std.specs.Prelude.{ℕ, ◌+◌, List, [], ◌∷◌, Result, Ok, Err}

abbrev pub and_then : {T U E : Type 0} → Result T E → (T → Result U E) → Result U E
and_then (Ok value) next = next value
and_then (Err why) next = Err why

-- a refusal in line `number`, as a fault
abbrev pub at_line : {T W F : Type 0} → (W → ℕ → F) → ℕ → Result T W → Result T F
at_line fault number (Ok value) = Ok value
at_line fault number (Err why) = Err (fault why number)

-- lines from line `number` on, each read behind what those before it left
abbrev pub read_lines : {S W F : Type 0} →
    (W → ℕ → F) → (S → List ℕ → Result S W) → S → ℕ → List (List ℕ) → Result S F
read_lines fault read left number [] = Ok left
read_lines fault read left number (line ∷ lines) =
    and_then (at_line fault number (read left line)) (λ more. read_lines fault read more (number + 1) lines)
