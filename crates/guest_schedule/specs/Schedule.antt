-- What the text of a schedule says: its turns, or its first refusal. `schedule`, at the end, is the whole of it. The
-- form is this project's own choice, as docs/MANUAL.md has it under "Schedules" and "Refused schedules".
--
-- A line without a byte and a comment are skipped. Each other line is a turn, `T N`: the place of a context among those
-- that are ready, and a number of steps, at least 1.
use Rattle.std.specs.Prelude.{ℕ, ◌+◌, Bool, ◌||◌, List, [], ◌∷◌, ◌++◌, length, get_or, nat_eq, nat_lt, Result, Ok, Err, if◌then◌else◌}
use Rattle.std.specs.Option.{option_map_or}
use Rattle.std.specs.Str.{is_utf8}
use Rattle.line_words.specs.Lines.{lines, words, is_empty, is_comment, number_of_word, line_of_bad_byte}
use Rattle.line_words.specs.Refusals.{and_then, read_lines}
use Rattle.guest_schedule.specs.declared.schedule.ScheduleFault.{ScheduleFault}
use Rattle.guest_schedule.specs.declared.schedule.ScheduleWhy.{ScheduleWhy}
use Rattle.guest_schedule.specs.declared.schedule.ScheduleWhy.TheVariants.{NotUtf8, TooManyLines, MissingWord, BadNumber, OutOfRange, ExtraWord, NoTurn}

-- ---- a turn

abbrev pub schedule_number : List ℕ → Result ℕ ScheduleWhy
schedule_number word = option_map_or Ok (number_of_word word) (Err BadNumber)

-- the turn of a line of so many words
abbrev pub turn : ℕ → ℕ → ℕ → Result (ℕ × ℕ) ScheduleWhy
turn count place steps =
    if nat_eq steps 0 then Err OutOfRange else (if nat_lt 2 count then Err ExtraWord else Ok (place, steps))

abbrev pub turn_of : List (List ℕ) → Result (ℕ × ℕ) ScheduleWhy
turn_of words =
    if nat_lt (length words) 2 then Err MissingWord
    else and_then (schedule_number (get_or words 0 [])) (λ place.
    and_then (schedule_number (get_or words 1 [])) (λ steps. turn (length words) place steps))

-- ---- the lines one after the other

abbrev pub has_no_turn : List ℕ → Bool
has_no_turn line = is_empty line || is_comment line

-- a line behind the turns of those before it
abbrev pub followed : List (ℕ × ℕ) → ℕ × ℕ → Result (List (ℕ × ℕ)) ScheduleWhy
followed turns turn = Ok (turns ++ turn ∷ [])

abbrev pub read_line : List (ℕ × ℕ) → List ℕ → Result (List (ℕ × ℕ)) ScheduleWhy
read_line turns line = if has_no_turn line then Ok turns else and_then (turn_of (words line)) (followed turns)

abbrev pub fault_at : ScheduleWhy → ℕ → ScheduleFault
fault_at why number = record { line = number; why = why }

-- there is a turn
abbrev pub some_turns : List (ℕ × ℕ) → Result (List (ℕ × ℕ)) ScheduleFault
some_turns turns = if nat_eq (length turns) 0 then Err (fault_at NoTurn 0) else Ok turns

abbrev pub most_lines : ℕ
most_lines = 100000

-- the schedule of a text
abbrev pub schedule : List ℕ → Result (List (ℕ × ℕ)) ScheduleFault
schedule text =
    if nat_lt most_lines (length (lines text)) then Err (fault_at TooManyLines (most_lines + 1))
    else and_then (read_lines fault_at read_line [] 1 (lines text)) some_turns

-- the schedule of a file, which is refused at the line of its first bad byte where it is no text
abbrev pub schedule_of_file : List ℕ → Result (List (ℕ × ℕ)) ScheduleFault
schedule_of_file bytes = if is_utf8 bytes then schedule bytes else Err (fault_at NotUtf8 (line_of_bad_byte bytes))
