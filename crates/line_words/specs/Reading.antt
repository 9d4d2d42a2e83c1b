-- What is left behind a call that reads a part of a text: of a schedule or of a script. It is this project's own.
--
-- The call's error holds a fault where the text is refused, and none where memory was wanting.
use Rattle.std.specs.Prelude.{◌≡◌, Option, Some, None, Result, Ok, Err}

-- an error that holds this fault is that of the definition, or want of memory
abbrev pub IsErrorOf : {T F : Type 0} → Result T F → Option F → Type 0
IsErrorOf expected (Some fault) = expected ≡ Err fault
IsErrorOf expected None = Unit {0}

-- where the answer is Ok, `left` is what was to come of it, and else the refusal is
abbrev pub Leaves : {T U F E : Type 0} → (E → Option F) → Result T F → T → Result U E → Type 0
Leaves fault_in expected left (Ok done) = expected ≡ Ok left
Leaves fault_in expected left (Err error) = IsErrorOf expected (fault_in error)
