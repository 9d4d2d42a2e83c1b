-- What the text of a debugger script says: its commands, or its first refusal. `script`, at the end, is the whole of
-- it. The commands and their refusals are this project's own choice, as docs/MANUAL.md has them under "Debugging" and
-- "Refused scripts".
--
-- A line without a word and a comment are skipped. Each other line is a command.
use Rattle.std.specs.Prelude.{ℕ, ◌+◌, ◌-◌, ◌^◌, Bool, false, ◌&&◌, ◌||◌, List, [], ◌∷◌, ◌++◌, length, get_or, count_by, codes, Result, Ok, Err, nat_eq, nat_lt, nat_le, if◌then◌else◌, slice_get}
use Rattle.std.specs.List.{find}
use Rattle.std.specs.Option.{option_map_or}
use Rattle.std.specs.Str.{bytes_eq, is_utf8}
use Rattle.emu_bits.specs.declared.flags.Esize.{Esize}
use Rattle.emu_bits.specs.declared.flags.Esize.TheVariants.{B, H, S, D}
use Rattle.line_words.specs.Lines.{lines, words, is_comment, number_of_word, line_of_bad_byte}
use Rattle.line_words.specs.Refusals.{and_then, read_lines}
use Rattle.dbg_model.specs.declared.script.Command.{Command}
use Rattle.dbg_model.specs.declared.script.Command.TheVariants.{Step, Go, Break, Watch, Regs, Vl, Zreg, Preg, Ffr, Lanes, Mem, Back}
use Rattle.dbg_model.specs.declared.script.ScriptFault.{ScriptFault}
use Rattle.dbg_model.specs.declared.script.ScriptWhy.{ScriptWhy}
use Rattle.dbg_model.specs.declared.script.ScriptWhy.TheVariants.{NotUtf8, TooManyLines, UnknownCommand, MissingWord, BadNumber, OutOfRange, ExtraWord, TooMany}
use Rattle.dbg_model.specs.Commands.{is_break, is_watch, most_points}

-- ---- arguments

abbrev pub in_range : ℕ → ℕ → ℕ → Result ℕ ScriptWhy
in_range least most n = if nat_le least n && nat_le n most then Ok n else Err OutOfRange

abbrev pub number_within : ℕ → ℕ → List ℕ → Result ℕ ScriptWhy
number_within least most word = option_map_or (in_range least most) (number_of_word word) (Err BadNumber)

-- the word at a place as a number
abbrev pub number_argument : List (List ℕ) → ℕ → ℕ → ℕ → Result ℕ ScriptWhy
number_argument words place least most =
    option_map_or (number_within least most) (slice_get words place) (Err MissingWord)

-- the letter of a lane's size
abbrev pub size_of_word : List ℕ → Result Esize ScriptWhy
size_of_word word =
    if bytes_eq word (codes "b") then Ok B
    else (if bytes_eq word (codes "h") then Ok H
    else (if bytes_eq word (codes "s") then Ok S
    else (if bytes_eq word (codes "d") then Ok D else Err OutOfRange)))

abbrev pub size_argument : List (List ℕ) → ℕ → Result Esize ScriptWhy
size_argument words place = option_map_or size_of_word (slice_get words place) (Err MissingWord)

-- ---- the command of a line's words

abbrev pub most_number : ℕ
most_number = 2 ^ 64 - 1

-- a command that has so many words
abbrev pub complete : List (List ℕ) → ℕ → Command → Result Command ScriptWhy
complete words count command = if nat_lt count (length words) then Err ExtraWord else Ok command

-- a command with a number in a range
abbrev pub with_number : ℕ → ℕ → (ℕ → Command) → List (List ℕ) → Result Command ScriptWhy
with_number least most command words = and_then (number_argument words 1 least most) (λ n. complete words 2 (command n))

-- with an address up to a limit, and a number of bytes
abbrev pub with_range : ℕ → (ℕ → ℕ → Command) → List (List ℕ) → Result Command ScriptWhy
with_range most command words =
    and_then (number_argument words 1 0 most) (λ address.
    and_then (number_argument words 2 1 4096) (λ count. complete words 3 (command address count)))

-- with a register, and the size of a lane
abbrev pub with_size : (ℕ → Esize → Command) → List (List ℕ) → Result Command ScriptWhy
with_size command words =
    and_then (number_argument words 1 0 31) (λ k.
    and_then (size_argument words 2) (λ size. complete words 3 (command k size)))

abbrev pub by_itself : Command → List (List ℕ) → Result Command ScriptWhy
by_itself command words = complete words 1 command

-- what reads the words of a command, by its name
abbrev pub readers : List (List ℕ × (List (List ℕ) → Result Command ScriptWhy))
readers =
    (codes "step", with_number 1 most_number Step)
    ∷ (codes "go", by_itself Go)
    ∷ (codes "break", with_number 0 most_number Break)
    ∷ (codes "watch", with_range most_number Watch)
    ∷ (codes "regs", by_itself Regs)
    ∷ (codes "vl", by_itself Vl)
    ∷ (codes "zreg", with_number 0 31 Zreg)
    ∷ (codes "preg", with_number 0 15 Preg)
    ∷ (codes "ffr", by_itself Ffr)
    ∷ (codes "lanes", with_size Lanes)
    ∷ (codes "mem", with_range (2 ^ 47 - 1) Mem)
    ∷ (codes "back", with_number 1 most_number Back)
    ∷ []

abbrev pub command_of : List (List ℕ) → Result Command ScriptWhy
command_of words =
    option_map_or (λ reader. reader.1 words) (find (λ reader. bytes_eq (get_or words 0 []) reader.0) readers)
    (Err UnknownCommand)

-- ---- the lines one after the other

-- there are as many breaks, or watches, as there may be
abbrev pub is_full : List Command → Command → Bool
is_full commands (Break address) = nat_le most_points (count_by is_break commands)
is_full commands (Watch address count) = nat_le most_points (count_by is_watch commands)
is_full commands command = false

abbrev pub followed : List Command → Command → Result (List Command) ScriptWhy
followed commands command = if is_full commands command then Err TooMany else Ok (commands ++ command ∷ [])

abbrev pub has_no_command : List ℕ → Bool
has_no_command line = is_comment line || nat_eq (length (words line)) 0

-- a line behind the commands of those before it
abbrev pub read_line : List Command → List ℕ → Result (List Command) ScriptWhy
read_line commands line =
    if has_no_command line then Ok commands else and_then (command_of (words line)) (followed commands)

abbrev pub fault_at : ScriptWhy → ℕ → ScriptFault
fault_at why number = record { line = number; why = why }

-- the script of a text
abbrev pub script : List ℕ → Result (List Command) ScriptFault
script text =
    if nat_lt 10000 (length (lines text)) then Err (fault_at TooManyLines 10001)
    else read_lines fault_at read_line [] 1 (lines text)

-- the script of a file, which is refused at the line of its first bad byte where it is no text
abbrev pub script_of_file : List ℕ → Result (List Command) ScriptFault
script_of_file bytes = if is_utf8 bytes then script bytes else Err (fault_at NotUtf8 (line_of_bad_byte bytes))
