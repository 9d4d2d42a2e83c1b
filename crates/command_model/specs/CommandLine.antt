-- The command line: a command with its values, or its first refusal. `line`, at the end, is the whole of it. It is what
-- docs/MANUAL.md says under "Commands" and "Refused lines"; the grammar is this project's own choice.
--
-- A line is the name of a command and the words behind it: options, each with the next word as its value, plain words,
-- and behind the word `--` the arguments of a program. Places of words are counted from 0.
use Rattle.std.specs.Prelude.{ℕ, ◌+◌, ◌^◌, Bool, true, false, ◌&&◌, ◌||◌, not, List, [], ◌∷◌, ◌++◌, length, codes, Option, Some, None, is_some, unwrap_or, Result, Ok, Err, nat_eq, nat_lt, nat_le, if◌then◌else◌, slice_get, slice_index}
use Rattle.std.specs.List.{filter, find, list_all, starts_with}
use Rattle.std.specs.Option.{is_none, option_and_then, option_map, option_map_or, option_or}
use Rattle.std.specs.Str.{bytes_eq}
use Rattle.std.specs.Str.Parse.{digits_value}
use Rattle.emu_model.specs.Access.{most_mapped_pages}
use Rattle.emu_model.specs.Lengths.{is_vector_length}
use Rattle.emu_system.specs.Arguments.{first_too_long, first_with_zero, most_arguments}
use Rattle.emu_system.specs.Image.{unless_fault}
use Rattle.command_model.specs.declared.command_line.Command.{Command}
use Rattle.command_model.specs.declared.command_line.Command.TheVariants.{Run, Asm, Dis, Dbg, Load, Sweep, Threads}
use Rattle.command_model.specs.declared.command_line.Line.{Line}
use Rattle.command_model.specs.declared.command_line.Line.TheVariants.{Run as RunLine, Asm as AsmLine, Dis as DisLine, Dbg as DbgLine, Load as LoadLine, Sweep as SweepLine, Threads as ThreadsLine}
use Rattle.command_model.specs.declared.command_line.OptionName.{OptionName}
use Rattle.command_model.specs.declared.command_line.OptionName.TheVariants.{Vl, Budget, Pages}
use Rattle.command_model.specs.declared.command_line.WordsFault.{WordsFault}
use Rattle.command_model.specs.declared.command_line.WordsWhy.{WordsWhy}
use Rattle.command_model.specs.declared.command_line.WordsWhy.TheVariants.{TooManyWords, WordsTooLong, ZeroByte, NoCommand, UnknownCommand, UnknownOption, Repeated, MissingValue, BadNumber, BadLength, OutOfRange, ExtraWord, MissingWord, MissingLength, MissingBudget}

-- ---- what a command is

-- its name, its options, how many plain words it has, whether its plain word is a number and not the name of a file,
-- and whether it takes the arguments of a program, behind `--`
pub record CommandUsage : Type 0 where
  pub name : List ℕ
  pub options : List OptionName
  pub words : ℕ
  pub number : Bool
  pub arguments : Bool

-- the vector length of a machine, its steps and its pages
abbrev pub all_options : List OptionName
all_options = Vl ∷ Budget ∷ Pages ∷ []

abbrev pub usage_of : Command → CommandUsage
usage_of Run = record { name = codes "run"; options = all_options; words = 1; number = false; arguments = true }
usage_of Asm = record { name = codes "asm"; options = []; words = 1; number = false; arguments = false }
usage_of Dis = record { name = codes "dis"; options = []; words = 1; number = false; arguments = false }
usage_of Dbg = record { name = codes "dbg"; options = all_options; words = 2; number = false; arguments = true }
usage_of Load = record { name = codes "load"; options = []; words = 1; number = true; arguments = false }
usage_of Sweep =
    record { name = codes "sweep"; options = Budget ∷ Pages ∷ []; words = 1; number = false; arguments = true }
usage_of Threads = record { name = codes "threads"; options = all_options; words = 2; number = false; arguments = true }

abbrev pub all_commands : List Command
all_commands = Run ∷ Asm ∷ Dis ∷ Dbg ∷ Load ∷ Sweep ∷ Threads ∷ []

abbrev pub named_command : List ℕ → Option Command
named_command word = find (λ command. bytes_eq word (usage_of command).name) all_commands

abbrev pub option_text : OptionName → List ℕ
option_text Vl = codes "--vl"
option_text Budget = codes "--budget"
option_text Pages = codes "--pages"

-- the option of a command that a word writes
abbrev pub option_of : Command → List ℕ → Option OptionName
option_of command word = find (λ option. bytes_eq (option_text option) word) (usage_of command).options

-- ---- numbers

abbrev pub is_decimal_digit : ℕ → Bool
is_decimal_digit c = nat_le 48 c && nat_le c 57

-- decimal digits without a leading zero, or `0`
abbrev pub is_decimal : List ℕ → Bool
is_decimal word =
    nat_lt 0 (length word) && (list_all is_decimal_digit word
    && (nat_eq (length word) 1 || not (nat_eq (slice_index word 0) 48)))

-- the number that a word writes in decimal, at most 2^64 - 1
abbrev pub decimal_of_word : List ℕ → Option ℕ
decimal_of_word word =
    if is_decimal word && nat_lt (digits_value 10 word) (2 ^ 64) then Some (digits_value 10 word) else None

-- ---- what stands at each place behind the command's name

-- a word begins with `--`, and is an option of the command or none of its options; it is the value of the option before
-- it; it is a plain word; or it is `--` or one of the arguments behind that
pub data Role : Type 0 where
  OptionWord : Option OptionName → Role
  ValueWord : Option OptionName → Role
  PlainWord : Role
  ArgumentWord : Role

-- what a word is that is no value and no argument: a command that takes no arguments doesn't know `--`
abbrev pub role_of : Command → List ℕ → Role
role_of command word =
    if (usage_of command).arguments && bytes_eq word (codes "--") then ArgumentWord
    else (if starts_with nat_eq word (codes "--") then OptionWord (option_of command word) else PlainWord)

-- what a word is by what stands before it: behind an option it is the value, whatever it begins with
abbrev pub role_behind : Role → Command → List ℕ → Role
role_behind (OptionWord option) command word = ValueWord option
role_behind (ValueWord option) command word = role_of command word
role_behind PlainWord command word = role_of command word
role_behind ArgumentWord command word = ArgumentWord

pub record WordAt : Type 0 where
  pub place : ℕ
  pub role : Role
  pub word : List ℕ

-- the words from a place on, behind a word of this role
abbrev pub words_from : Command → Role → ℕ → List (List ℕ) → List WordAt
words_from command before place [] = []
words_from command before place (word ∷ words) =
    let role = role_behind before command word in
    record { place = place; role = role; word = word } ∷ words_from command role (place + 1) words

-- ---- what the words say

abbrev pub is_plain_word : Role → Bool
is_plain_word (OptionWord option) = false
is_plain_word (ValueWord option) = false
is_plain_word PlainWord = true
is_plain_word ArgumentWord = false

abbrev pub is_argument : Role → Bool
is_argument (OptionWord option) = false
is_argument (ValueWord option) = false
is_argument PlainWord = false
is_argument ArgumentWord = true

abbrev pub is_value_of : OptionName → Role → Bool
is_value_of option (OptionWord other) = false
is_value_of option (ValueWord other) = option_map_or (λ o. bytes_eq (option_text o) (option_text option)) other false
is_value_of option PlainWord = false
is_value_of option ArgumentWord = false

abbrev pub plain_words : List WordAt → List WordAt
plain_words words = filter (λ w. is_plain_word w.role) words

-- the number that is given as the value of an option
abbrev pub option_value : OptionName → List WordAt → Option ℕ
option_value option words = option_and_then (λ w. decimal_of_word w.word) (find (λ w. is_value_of option w.role) words)

-- the place behind `--`, where the arguments begin, or the number of words of the line
abbrev pub args_of : ℕ → List WordAt → ℕ
args_of count words = unwrap_or (option_map (λ w. w.place + 1) (find (λ w. is_argument w.role) words)) count

-- ---- the first refusal, from left to right

abbrev pub fault_at : ℕ → WordsWhy → WordsFault
fault_at place why = record { why = why; place = place }

-- why a number isn't a value of an option
abbrev pub value_refusal : OptionName → ℕ → Option WordsWhy
value_refusal Vl bits = if is_vector_length bits then None else Some BadLength
value_refusal Budget steps = None
value_refusal Pages pages = if nat_le 1 pages && nat_le pages most_mapped_pages then None else Some OutOfRange

-- why a word is refused, by what it is and by the words before it and behind it: an option that has a value before is
-- repeated, and one that is the last word has none; of an option that the command hasn't the value isn't asked for
abbrev pub why_refused : Command → List WordAt → List WordAt → Role → List ℕ → Option WordsWhy
why_refused command before behind (OptionWord None) word = Some UnknownOption
why_refused command before behind (OptionWord (Some option)) word =
    if is_some (option_value option before) then Some Repeated
    else (if nat_eq (length behind) 0 then Some MissingValue else None)
why_refused command before behind (ValueWord None) word = None
why_refused command before behind (ValueWord (Some option)) word =
    option_map_or (value_refusal option) (decimal_of_word word) (Some BadNumber)
why_refused command before behind PlainWord word =
    if nat_lt (length (plain_words before)) (usage_of command).words
    then (if (usage_of command).number && is_none (decimal_of_word word) then Some BadNumber else None)
    else Some ExtraWord
why_refused command before behind ArgumentWord word = None

-- the refusal of the first word that is refused, of those behind others
abbrev pub first_refusal : Command → List WordAt → List WordAt → Option WordsFault
first_refusal command before [] = None
first_refusal command before (w ∷ behind) =
    option_or (option_map (fault_at w.place) (why_refused command before behind w.role w.word))
    (first_refusal command (before ++ w ∷ []) behind)

-- ---- what is missing behind them all

abbrev pub is_wanting : OptionName → Command → List WordAt → Bool
is_wanting option command words =
    is_some (option_of command (option_text option)) && is_none (option_value option words)

-- a file's name or a number, the vector length, and the number of steps, in this order
abbrev pub first_missing : Command → List WordAt → Option WordsWhy
first_missing command words =
    if nat_lt (length (plain_words words)) (usage_of command).words then Some MissingWord
    else (if is_wanting Vl command words then Some MissingLength
    else (if is_wanting Budget command words then Some MissingBudget else None))

-- ---- the line, where nothing is refused or missing

-- the place of a plain word, counted from 0
abbrev pub plain_place : ℕ → List WordAt → ℕ
plain_place k words = option_map_or (λ w. w.place) (slice_get (plain_words words) k) 0

abbrev pub plain_number : List WordAt → ℕ
plain_number words = unwrap_or (option_and_then (λ w. decimal_of_word w.word) (slice_get (plain_words words) 0)) 0

abbrev pub chosen : OptionName → List WordAt → ℕ
chosen option words = unwrap_or (option_value option words) 0

-- the greatest number of pages, which is 16,384 where no option says it
abbrev pub chosen_pages : List WordAt → ℕ
chosen_pages words = unwrap_or (option_value Pages words) 16384

-- the line of a command, of so many words
abbrev pub accepted_line : Command → ℕ → List WordAt → Line
accepted_line Run count ws =
    RunLine (plain_place 0 ws) (args_of count ws) (chosen Vl ws) (chosen Budget ws) (chosen_pages ws)
accepted_line Asm count ws = AsmLine (plain_place 0 ws)
accepted_line Dis count ws = DisLine (plain_place 0 ws)
accepted_line Dbg count ws =
    DbgLine (plain_place 0 ws) (plain_place 1 ws) (args_of count ws)
    (chosen Vl ws) (chosen Budget ws) (chosen_pages ws)
accepted_line Load count ws = LoadLine (plain_number ws)
accepted_line Sweep count ws = SweepLine (plain_place 0 ws) (args_of count ws) (chosen Budget ws) (chosen_pages ws)
accepted_line Threads count ws =
    ThreadsLine (plain_place 0 ws) (plain_place 1 ws) (args_of count ws)
    (chosen Vl ws) (chosen Budget ws) (chosen_pages ws)

-- ---- the whole line, or the first refusal

-- the words behind a command's name, in a line of so many words: refused from left to right, then what is missing
abbrev pub line_of_command : Command → ℕ → List WordAt → Result Line WordsFault
line_of_command command count words =
    unless_fault (first_refusal command [] words)
    (unless_fault (option_map (fault_at count) (first_missing command words)) (Ok (accepted_line command count words)))

-- the name of a command, which is no option itself, and the words behind it
abbrev pub line_of_words : List (List ℕ) → Result Line WordsFault
line_of_words [] = Err (fault_at 0 NoCommand)
line_of_words (name ∷ words) =
    option_map_or (λ command. line_of_command command (length (name ∷ words)) (words_from command PlainWord 1 words))
    (named_command name) (Err (fault_at 0 UnknownCommand))

-- too many words, too many bytes and a byte 0 come before all other refusals
abbrev pub line : List (List ℕ) → Result Line WordsFault
line words =
    unless_fault (if nat_lt most_arguments (length words) then Some (fault_at most_arguments TooManyWords) else None)
    (unless_fault (option_map (λ place. fault_at place WordsTooLong) (first_too_long words))
    (unless_fault (option_map (λ place. fault_at place ZeroByte) (first_with_zero words)) (line_of_words words)))
