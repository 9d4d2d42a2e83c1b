-- The command of a line's words, by the symbols of a program, or its first refusal. `command_of`, at the end, is the
-- whole of it. The names and their short forms are those of gdb where it has the command; the rest is this project's
-- own choice, as docs/DEBUGGING.md has it.
use Rattle.std.specs.Prelude.{ℕ, zero, suc, ◌+◌, ◌-◌, ◌^◌, Bool, true, false, ◌&&◌, ◌||◌, List, [], length, drop}
use Rattle.std.specs.Prelude.{get_or, codes, Option, Some, None, is_none, Result, Ok, Err, is_ok, nat_eq, nat_lt}
use Rattle.std.specs.Prelude.{nat_le, if◌then◌else◌}
use Rattle.std.specs.List.{starts_with}
use Rattle.std.specs.Str.{bytes_eq}
use Rattle.elf_symbols.specs.declared.Symbol.{Symbol}
use Rattle.emu_bits.specs.declared.flags.Esize.{Esize}
use Rattle.line_words.specs.Lines.{number_of_word}
use Rattle.source_lines.specs.declared.rows.Row.{Row}
use Rattle.line_words.specs.Refusals.{and_then}
use Rattle.debug_words.specs.declared.commands.Change.{Change}
use Rattle.debug_words.specs.declared.commands.Change.TheVariants.{Delete, Disable, Enable}
use Rattle.debug_words.specs.declared.commands.Command.{Command}
use Rattle.debug_words.specs.declared.commands.Command.TheVariants as commands
use Rattle.debug_words.specs.declared.commands.Extent.{Extent}
use Rattle.debug_words.specs.declared.commands.Extent.TheVariants.{Length, Upto}
use Rattle.debug_words.specs.declared.commands.Move.{Move}
use Rattle.debug_words.specs.declared.commands.Move.TheVariants.{Continue, Step, Next, StepLine, NextLine, StepBack}
use Rattle.debug_words.specs.declared.commands.Move.TheVariants.{NextBack, ContinueBack}
use Rattle.debug_words.specs.declared.commands.WatchKind.{WatchKind}
use Rattle.debug_words.specs.declared.commands.WatchKind.TheVariants.{Writes, Reads, Both}
use Rattle.debug_places.specs.declared.conditions.Condition.{Condition}
use Rattle.debug_places.specs.declared.formats.Format.{Format}
use Rattle.debug_places.specs.declared.places.Place.{Place}
use Rattle.debug_places.specs.declared.refusals.Refusal.{Refusal}
use Rattle.debug_places.specs.declared.refusals.Why.{Why}
use Rattle.debug_places.specs.declared.refusals.Why.TheVariants.{UnknownCommand, BadFormat, MissingWord, ExtraWord}
use Rattle.debug_places.specs.declared.refusals.Why.TheVariants.{BadNumber, OutOfRange, UnknownRegister, UnknownWord}
use Rattle.debug_places.specs.declared.refusals.Why.TheVariants.{BadCondition}
use Rattle.debug_names.specs.declared.registers.Thing.{Thing}
use Rattle.debug_names.specs.declared.verbs.Verb.{Verb}
use Rattle.debug_names.specs.declared.verbs.Verb.TheVariants as verbs
use Rattle.debug_places.specs.Conditions.{compare_of, condition_by, operand_of}
use Rattle.debug_places.specs.Formats.{format_of, plain_format}
use Rattle.debug_places.specs.Places.{place_of}
use Rattle.debug_names.specs.Registers.{cut, register_of, size_of_letter, thing_of, vector_of}
use Rattle.debug_names.specs.Verbs.{verb_of}

abbrev pub refused : {T : Type 0} → Why → ℕ → Result T Refusal
refused why place = Err (record { why = why; place = place })

-- ---- arguments

abbrev pub most_number : ℕ
most_number = 2 ^ 64 - 1

-- what a watch and a search reach over at most
abbrev pub most_bytes : ℕ
most_bytes = 4096

abbrev pub word_at : List (List ℕ) → ℕ → List ℕ
word_at words place = get_or words place []

abbrev pub has_word : List (List ℕ) → ℕ → Bool
has_word words place = nat_lt place (length words)

-- a command that has so many words
abbrev pub whole : List (List ℕ) → ℕ → Command → Result Command Refusal
whole words count command = if nat_lt count (length words) then refused ExtraWord count else Ok command

abbrev pub number_in : ℕ → ℕ → ℕ → Option ℕ → Result ℕ Refusal
number_in place least most None = refused BadNumber place
number_in place least most (Some n) = if nat_le least n && nat_le n most then Ok n else refused OutOfRange place

abbrev pub number_at : List (List ℕ) → ℕ → ℕ → ℕ → Result ℕ Refusal
number_at words place least most =
    if has_word words place then number_in place least most (number_of_word (word_at words place))
    else refused MissingWord place

-- a number that may be left out
abbrev pub number_or : List (List ℕ) → ℕ → ℕ → ℕ → ℕ → Result ℕ Refusal
number_or words place or least most = if has_word words place then number_at words place least most else Ok or

abbrev pub some_number : Result ℕ Refusal → Result (Option ℕ) Refusal
some_number (Ok n) = Ok (Some n)
some_number (Err refusal) = Err refusal

abbrev pub number_if : List (List ℕ) → ℕ → Result (Option ℕ) Refusal
number_if words place = if has_word words place then some_number (number_at words place 1 most_number) else Ok None

abbrev pub or_refused : {T : Type 0} → ℕ → Result T Why → Result T Refusal
or_refused place (Ok value) = Ok value
or_refused place (Err why) = refused why place

abbrev pub place_at : List Symbol → List Row → List (List ℕ) → ℕ → Result Place Refusal
place_at symbols rows words place =
    if has_word words place then or_refused place (place_of symbols rows (word_at words place))
    else refused MissingWord place

-- ---- breaks and watches

abbrev pub some_condition : ℕ → Option Condition → Result (Option Condition) Refusal
some_condition place None = refused BadCondition place
some_condition place (Some condition) = Ok (Some condition)

abbrev pub three_words : List (List ℕ) → ℕ → Result (Option Condition) Refusal
three_words words place =
    if has_word words (place + 2)
    then some_condition place (condition_by (operand_of (word_at words place))
    (compare_of (word_at words (place + 1))) (operand_of (word_at words (place + 2))))
    else refused MissingWord (length words)

-- a condition behind `if`, which may be left out
abbrev pub condition_at : List (List ℕ) → ℕ → Result (Option Condition) Refusal
condition_at words place =
    if has_word words place
    then (if bytes_eq (word_at words place) (codes "if") then three_words words (place + 1)
    else refused UnknownWord place)
    else Ok None

abbrev pub break_of : List Symbol → List Row → List (List ℕ) → Bool → Result Command Refusal
break_of symbols rows words once =
    and_then (place_at symbols rows words 1) (λ place. and_then (condition_at words 2) (λ condition.
    whole words 6 (commands.Break place condition once)))

abbrev pub watch_of : List Symbol → List Row → List (List ℕ) → WatchKind → Result Command Refusal
watch_of symbols rows words kind =
    and_then (place_at symbols rows words 1) (λ place. and_then (number_at words 2 1 most_bytes) (λ count.
    whole words 3 (commands.Watch kind place count)))

abbrev pub last_write_of : List Symbol → List Row → List (List ℕ) → Result Command Refusal
last_write_of symbols rows words =
    and_then (place_at symbols rows words 1) (λ place. and_then (number_at words 2 1 most_bytes) (λ count.
    whole words 3 (commands.LastWrite place count)))

abbrev pub ignore_of : List (List ℕ) → Result Command Refusal
ignore_of words =
    and_then (number_at words 1 1 most_number) (λ number. and_then (number_at words 2 0 most_number) (λ count.
    whole words 3 (commands.Ignore number count)))

-- ---- commands with a number or a place

abbrev pub counted : List (List ℕ) → Move → Result Command Refusal
counted words way = and_then (number_or words 1 1 1 most_number) (λ count. whole words 2 (commands.Go way count))

abbrev pub numbered : List (List ℕ) → Change → Result Command Refusal
numbered words change = and_then (number_if words 1) (λ number. whole words 2 (commands.Change change number))

abbrev pub until_of : List Symbol → List Row → List (List ℕ) → Result Command Refusal
until_of symbols rows words = and_then (place_at symbols rows words 1) (λ place. whole words 2 (commands.Until place))

abbrev pub goto_of : List (List ℕ) → Result Command Refusal
goto_of words = and_then (number_at words 1 0 most_number) (λ steps. whole words 2 (commands.Goto steps))

abbrev pub disassemble_of : List Symbol → List Row → List (List ℕ) → Result Command Refusal
disassemble_of symbols rows words =
    if has_word words 1
    then and_then (place_at symbols rows words 1) (λ place. whole words 2 (commands.Disassemble (Some place)))
    else Ok (commands.Disassemble None)

-- ---- what is shown

-- the place that there is, or else this one, where its word names no scalar register
abbrev pub or_no_register : List (List ℕ) → ℕ → Option ℕ → Option ℕ
or_no_register words place (Some first) = Some first
or_no_register words place None = if is_none (register_of (word_at words place)) then Some place else None

-- the first of the n words behind `info registers` that names no scalar register
unfoldable pub first_no_register : List (List ℕ) → ℕ → Option ℕ
first_no_register words zero = None
first_no_register words (suc n) = or_no_register words (n + 2) (first_no_register words n)

abbrev pub registers_known : ℕ → Option ℕ → Result Command Refusal
registers_known count (Some place) = refused UnknownRegister place
registers_known count None = Ok (commands.InfoRegisters count)

abbrev pub registers_among : List (List ℕ) → ℕ → Result Command Refusal
registers_among words count = registers_known count (first_no_register words count)

abbrev pub registers_of : List (List ℕ) → Result Command Refusal
registers_of words =
    if has_word words 2 then registers_among words (length words - 2) else Ok (commands.InfoRegisters 0)

abbrev pub symbol_of : List Symbol → List Row → List (List ℕ) → Result Command Refusal
symbol_of symbols rows words =
    and_then (place_at symbols rows words 2) (λ place. whole words 3 (commands.InfoSymbol place))

abbrev pub line_of : List Symbol → List Row → List (List ℕ) → Result Command Refusal
line_of symbols rows words =
    if has_word words 2
    then and_then (place_at symbols rows words 2) (λ place. whole words 3 (commands.InfoLine (Some place)))
    else Ok (commands.InfoLine None)

-- by which of four names a word begins
abbrev pub info_by : List Symbol → List Row → List (List ℕ) → Bool → Bool → Bool → Bool → Result Command Refusal
info_by symbols rows words true registers symbol line = whole words 2 commands.InfoPoints
info_by symbols rows words false true symbol line = registers_of words
info_by symbols rows words false false true line = symbol_of symbols rows words
info_by symbols rows words false false false true = line_of symbols rows words
info_by symbols rows words false false false false = refused UnknownWord 1

abbrev pub is_points : List ℕ → Bool
is_points name = starts_with nat_eq (codes "breakpoints") name

abbrev pub is_registers : List ℕ → Bool
is_registers name = starts_with nat_eq (codes "registers") name

abbrev pub is_symbol : List ℕ → Bool
is_symbol name = starts_with nat_eq (codes "symbol") name

abbrev pub is_line : List ℕ → Bool
is_line name = starts_with nat_eq (codes "line") name

abbrev pub info_named : List Symbol → List Row → List (List ℕ) → List ℕ → Result Command Refusal
info_named symbols rows words name =
    info_by symbols rows words (is_points name) (is_registers name) (is_symbol name) (is_line name)

abbrev pub info_of : List Symbol → List Row → List (List ℕ) → Result Command Refusal
info_of symbols rows words =
    if has_word words 1 then info_named symbols rows words (word_at words 1) else refused MissingWord 1

abbrev pub print_place : Format → List (List ℕ) → Result Place Refusal → Result Command Refusal
print_place f words place = and_then place (λ p. whole words 2 (commands.PrintPlace f p))

abbrev pub print_by : List Symbol → List Row → List (List ℕ) → Format → Option Thing → Result Command Refusal
print_by symbols rows words f None = print_place f words (place_at symbols rows words 1)
print_by symbols rows words f (Some thing) = whole words 2 (commands.Print f thing)

-- registers and lanes before places
abbrev pub print_of : List Symbol → List Row → List (List ℕ) → Format → Result Command Refusal
print_of symbols rows words f =
    if has_word words 1 then print_by symbols rows words f (thing_of (word_at words 1)) else refused MissingWord 1

abbrev pub examine_of : List Symbol → List Row → List (List ℕ) → Format → Result Command Refusal
examine_of symbols rows words f =
    and_then (place_at symbols rows words 1) (λ place. whole words 2 (commands.Examine f place))

-- ---- a search: from a place on, over a length or up to a place, for values one behind the other

-- the most bytes that it reaches over
abbrev pub most_length : ℕ
most_length = 67108864

abbrev pub length_by : Result ℕ Refusal → Result Extent Refusal
length_by (Ok n) = Ok (Length n)
length_by (Err refusal) = Err refusal

abbrev pub upto_by : Result Place Refusal → Result Extent Refusal
upto_by (Ok place) = Ok (Upto place)
upto_by (Err refusal) = Err refusal

-- a length behind a plus, or else a place
abbrev pub extent_of : List Symbol → List Row → List (List ℕ) → Result Extent Refusal
extent_of symbols rows words =
    if starts_with nat_eq (word_at words 2) (codes "+")
    then length_by (number_in 2 1 most_length (number_of_word (drop 1 (word_at words 2))))
    else upto_by (place_at symbols rows words 2)

-- a text stands in quotes
abbrev pub is_quoted : List ℕ → Bool
is_quoted word = starts_with nat_eq word (codes "\"")

abbrev pub is_value : List Symbol → List Row → List (List ℕ) → ℕ → Bool
is_value symbols rows words place =
    is_quoted (word_at words place) || is_ok (place_at symbols rows words place)

-- the place that there is, or else this one, where its word is no value
abbrev pub or_no_value : List Symbol → List Row → List (List ℕ) → ℕ → Option ℕ → Option ℕ
or_no_value symbols rows words place (Some first) = Some first
or_no_value symbols rows words place None = if is_value symbols rows words place then None else Some place

-- the first of the n words behind the extent that is no value
unfoldable pub first_no_value : List Symbol → List Row → List (List ℕ) → ℕ → Option ℕ
first_no_value symbols rows words zero = None
first_no_value symbols rows words (suc n) =
    or_no_value symbols rows words (n + 3) (first_no_value symbols rows words n)

-- the refusal of the word at a place
abbrev pub find_or_refuse : List Symbol → List Row → List (List ℕ) → ℕ → Command → Result Command Refusal
find_or_refuse symbols rows words place found = and_then (place_at symbols rows words place) (λ value. Ok found)

abbrev pub find_by : List Symbol → List Row → List (List ℕ) → Command → Option ℕ → Result Command Refusal
find_by symbols rows words found None = Ok found
find_by symbols rows words found (Some place) = find_or_refuse symbols rows words place found

abbrev pub find_among : List Symbol → List Row → List (List ℕ) → ℕ → Command → Result Command Refusal
find_among symbols rows words count found =
    if nat_eq count 0 then refused MissingWord 3
    else (if nat_lt 16 count then refused ExtraWord 19
    else find_by symbols rows words found (first_no_value symbols rows words count))

abbrev pub find_of : List Symbol → List Row → List (List ℕ) → Format → Result Command Refusal
find_of symbols rows words f =
    and_then (place_at symbols rows words 1) (λ start. and_then (extent_of symbols rows words) (λ extent.
    find_among symbols rows words (length words - 3) (commands.Find f start extent (length words - 3))))

abbrev pub list_of : List Symbol → List Row → List (List ℕ) → Result Command Refusal
list_of symbols rows words =
    if has_word words 1
    then and_then (place_at symbols rows words 1) (λ place. whole words 2 (commands.List (Some place)))
    else Ok (commands.List None)

abbrev pub source_of : List (List ℕ) → Result Command Refusal
source_of words = if has_word words 1 then whole words 2 commands.Source else refused MissingWord 1

-- ---- lanes: words that name vector registers, and last the size of the lanes that have none of their own

-- the place that there is, or else this one, where its word names no vector register
abbrev pub or_unknown : List (List ℕ) → ℕ → Option ℕ → Option ℕ
or_unknown words place (Some first) = Some first
or_unknown words place None = if is_none (vector_of (word_at words place)) then Some place else None

-- the first of the n words behind the command's name that names no vector register
unfoldable pub first_unknown : List (List ℕ) → ℕ → Option ℕ
first_unknown words zero = None
first_unknown words (suc n) = or_unknown words (n + 1) (first_unknown words n)

abbrev pub lanes_known : ℕ → Option Esize → Option ℕ → Result Command Refusal
lanes_known count size (Some place) = refused UnknownRegister place
lanes_known count size None = Ok (commands.Lanes count size)

abbrev pub lanes_among : List (List ℕ) → ℕ → Option Esize → Result Command Refusal
lanes_among words count size =
    if nat_eq count 0 then refused MissingWord 1
    else (if nat_lt 8 count then refused ExtraWord 9
    else lanes_known count size (first_unknown words count))

abbrev pub lanes_sized : List (List ℕ) → Option Esize → Result Command Refusal
lanes_sized words None = refused UnknownWord (length words - 1)
lanes_sized words (Some size) = lanes_among words (length words - 2) (Some size)

abbrev pub last_word : List (List ℕ) → List ℕ
last_word words = word_at words (length words - 1)

abbrev pub lanes_plain : List (List ℕ) → Result Command Refusal
lanes_plain words = lanes_among words (length words - 1) None

abbrev pub lanes_by : List (List ℕ) → List ℕ → Result Command Refusal
lanes_by words last =
    if starts_with nat_eq last (codes ".") then lanes_sized words (size_of_letter (drop 1 last)) else lanes_plain words

abbrev pub lanes_of : List (List ℕ) → Result Command Refusal
lanes_of words = lanes_by words (last_word words)

-- ---- the rest

abbrev pub slice_of : List (List ℕ) → Result Command Refusal
slice_of words = and_then (number_at words 2 1 most_number) (λ steps. whole words 3 (commands.Slice steps))

abbrev pub set_of : List (List ℕ) → Result Command Refusal
set_of words =
    if has_word words 1
    then (if bytes_eq (word_at words 1) (codes "slice") then slice_of words else refused UnknownWord 1)
    else refused MissingWord 1

abbrev pub help_with : List (List ℕ) → Option Verb → Result Command Refusal
help_with words None = refused UnknownCommand 1
help_with words (Some verb) = whole words 2 (commands.Help (Some verb))

abbrev pub help_of : List (List ℕ) → Result Command Refusal
help_of words = if has_word words 1 then help_with words (verb_of (word_at words 1)) else Ok (commands.Help None)

-- ---- the whole

abbrev pub read : List Symbol → List Row → List (List ℕ) → Format → Verb → Result Command Refusal
read symbols rows words f verbs.Break = break_of symbols rows words false
read symbols rows words f verbs.BreakOnce = break_of symbols rows words true
read symbols rows words f verbs.Backtrace = whole words 1 commands.Backtrace
read symbols rows words f verbs.Delete = numbered words Delete
read symbols rows words f verbs.Disassemble = disassemble_of symbols rows words
read symbols rows words f verbs.Disable = numbered words Disable
read symbols rows words f verbs.Enable = numbered words Enable
read symbols rows words f verbs.Ignore = ignore_of words
read symbols rows words f verbs.Info = info_of symbols rows words
read symbols rows words f verbs.Watch = watch_of symbols rows words Writes
read symbols rows words f verbs.WatchReads = watch_of symbols rows words Reads
read symbols rows words f verbs.WatchBoth = watch_of symbols rows words Both
read symbols rows words f verbs.Run = whole words 1 commands.Run
read symbols rows words f verbs.Start = whole words 1 (commands.Goto 0)
read symbols rows words f verbs.Continue = counted words Continue
read symbols rows words f verbs.Step = counted words Step
read symbols rows words f verbs.Next = counted words Next
read symbols rows words f verbs.StepLine = counted words StepLine
read symbols rows words f verbs.NextLine = counted words NextLine
read symbols rows words f verbs.Finish = whole words 1 commands.Finish
read symbols rows words f verbs.Until = until_of symbols rows words
read symbols rows words f verbs.Advance = until_of symbols rows words
read symbols rows words f verbs.StepBack = counted words StepBack
read symbols rows words f verbs.NextBack = counted words NextBack
read symbols rows words f verbs.ContinueBack = counted words ContinueBack
read symbols rows words f verbs.FinishBack = whole words 1 commands.FinishBack
read symbols rows words f verbs.Goto = goto_of words
read symbols rows words f verbs.LastWrite = last_write_of symbols rows words
read symbols rows words f verbs.Print = print_of symbols rows words f
read symbols rows words f verbs.Examine = examine_of symbols rows words f
read symbols rows words f verbs.Find = find_of symbols rows words f
read symbols rows words f verbs.Where = whole words 1 commands.Where
read symbols rows words f verbs.When = whole words 1 commands.When
read symbols rows words f verbs.Lanes = lanes_of words
read symbols rows words f verbs.Listing = list_of symbols rows words
read symbols rows words f verbs.Set = set_of words
read symbols rows words f verbs.Source = source_of words
read symbols rows words f verbs.Help = help_of words
read symbols rows words f verbs.Quit = whole words 1 commands.Quit

-- a format stands behind `print`, `x` and `find` alone
abbrev pub takes_format : Verb → Bool
takes_format verbs.Print = true
takes_format verbs.Examine = true
takes_format verbs.Find = true
takes_format verb = false

abbrev pub with_format : List Symbol → List Row → List (List ℕ) → Verb → Option Format → Result Command Refusal
with_format symbols rows words verb None = refused BadFormat 0
with_format symbols rows words verb (Some f) =
    if takes_format verb then read symbols rows words f verb else refused BadFormat 0

abbrev pub with_verb : List Symbol → List Row → List (List ℕ) → Option Verb → Result Command Refusal
with_verb symbols rows words None = refused UnknownCommand 0
with_verb symbols rows words (Some verb) = read symbols rows words plain_format verb

abbrev pub with_both : List Symbol → List Row → List (List ℕ) → List ℕ → Option Verb → Result Command Refusal
with_both symbols rows words letters None = refused UnknownCommand 0
with_both symbols rows words letters (Some verb) = with_format symbols rows words verb (format_of letters)

abbrev pub by_parts : List Symbol → List Row → List (List ℕ) → Option (List ℕ × List ℕ) → Result Command Refusal
by_parts symbols rows words None = with_verb symbols rows words (verb_of (word_at words 0))
by_parts symbols rows words (Some parts) = with_both symbols rows words parts.1 (verb_of parts.0)

-- of some words, at least one
abbrev pub command_of : List Symbol → List Row → List (List ℕ) → Result Command Refusal
command_of symbols rows words = by_parts symbols rows words (cut 47 (word_at words 0))
