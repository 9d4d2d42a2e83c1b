-- The words of a command line read one after the other, as the code reads them. That what they say is the definitions'
-- line is proved in proofs/SameLines. It is this crate's own way, and no contract of another crate cites it.
use Rattle.std.specs.Prelude.{◌≡◌, ℕ, ◌+◌, ◌-◌, Bool, ◌&&◌, List, [], ◌∷◌, ◌++◌, length, drop, codes, Option, Some, None, is_some, unwrap_or, Result, Ok, Err, nat_le, nat_lt, nat_eq, if◌then◌else◌, slice_get}
use Rattle.std.specs.List.{starts_with}
use Rattle.std.specs.Option.{option_map_or}
use Rattle.std.specs.Str.{bytes_eq}
use Rattle.line_words.specs.Refusals.{and_then}
use Rattle.emu_model.specs.Access.{most_mapped_pages}
use Rattle.emu_model.specs.Lengths.{is_vector_length}
use Rattle.command_model.specs.CommandLine.{decimal_of_word, fault_at, named_command, option_of, usage_of}
use Rattle.command_model.specs.declared.command_line.Command.{Command}
use Rattle.command_model.specs.declared.command_line.Command.TheVariants.{Run, Asm, Dis, Dbg, Load, Sweep, Threads}
use Rattle.command_model.specs.declared.command_line.Line.{Line}
use Rattle.command_model.specs.declared.command_line.Line.TheVariants.{Run as RunLine, Asm as AsmLine, Dis as DisLine, Dbg as DbgLine, Load as LoadLine, Sweep as SweepLine, Threads as ThreadsLine}
use Rattle.command_model.specs.declared.command_line.OptionName.{OptionName}
use Rattle.command_model.specs.declared.command_line.OptionName.TheVariants.{Vl, Budget, Pages}
use Rattle.command_model.specs.declared.command_line.WordsFault.{WordsFault}
use Rattle.command_model.specs.declared.command_line.WordsWhy.{WordsWhy}
use Rattle.command_model.specs.declared.command_line.WordsWhy.TheVariants.{NoCommand, UnknownCommand, UnknownOption, Repeated, MissingValue, BadNumber, BadLength, OutOfRange, ExtraWord, MissingWord, MissingLength, MissingBudget}

-- where the answer is Ok, `left` is what was to come of it, and else the refusal is
abbrev pub ReadsAs : {T U E : Type 0} → Result T E → T → Result U E → Type 0
ReadsAs expected left (Ok done) = expected ≡ Ok left
ReadsAs expected left (Err refusal) = expected ≡ Err refusal

abbrev pub refusal_at : {T : Type 0} → WordsWhy → ℕ → Result T WordsFault
refusal_at why place = Err (fault_at place why)

-- ---- values

-- a word in the form of an option
abbrev pub is_option : List ℕ → Bool
is_option word = starts_with nat_eq word (codes "--")

-- a number as the value of an option
abbrev pub checked_value : OptionName → ℕ → Result ℕ WordsWhy
checked_value Vl bits = if is_vector_length bits then Ok bits else Err BadLength
checked_value Budget steps = Ok steps
checked_value Pages pages = if nat_le 1 pages && nat_le pages most_mapped_pages then Ok pages else Err OutOfRange

-- a word as the value of an option
abbrev pub checked_word : OptionName → List ℕ → Result ℕ WordsWhy
checked_word option word = option_map_or (checked_value option) (decimal_of_word word) (Err BadNumber)

-- ---- the words behind the command's name, one after the other

-- what they said so far: the places of the plain words, the number of one that is a number, the values of options, an
-- option whose value is the next word, and the place behind `--`
pub record Seen : Type 0 where
  pub plain_places : List ℕ
  pub number : Option ℕ
  pub vl : Option ℕ
  pub budget : Option ℕ
  pub pages : Option ℕ
  pub awaited : Option OptionName
  pub args : Option ℕ

abbrev pub nothing_seen : Seen
nothing_seen =
    record { plain_places = []; number = None; vl = None; budget = None; pages = None; awaited = None; args = None }

abbrev pub given : OptionName → Seen → Option ℕ
given Vl seen = seen.vl
given Budget seen = seen.budget
given Pages seen = seen.pages

abbrev pub with_value : OptionName → ℕ → Seen → Seen
with_value Vl bits seen = record seen { vl = Some bits; awaited = None }
with_value Budget steps seen = record seen { budget = Some steps; awaited = None }
with_value Pages pages seen = record seen { pages = Some pages; awaited = None }

-- the value of an option
abbrev pub read_value : Seen → ℕ → OptionName → Result ℕ WordsWhy → Result Seen WordsFault
read_value seen place option (Ok value) = Ok (with_value option value seen)
read_value seen place option (Err why) = refusal_at why place

-- an option
abbrev pub read_option : Seen → ℕ → Option OptionName → Result Seen WordsFault
read_option seen place None = refusal_at UnknownOption place
read_option seen place (Some option) =
    if is_some (given option seen) then refusal_at Repeated place else Ok (record seen { awaited = Some option })

-- one plain word more
abbrev pub with_word : Seen → ℕ → Seen
with_word seen place = record seen { plain_places = seen.plain_places ++ place ∷ [] }

-- a plain word that has to be a number
abbrev pub read_number : Seen → ℕ → Option ℕ → Result Seen WordsFault
read_number seen place None = refusal_at BadNumber place
read_number seen place (Some number) = Ok (record (with_word seen place) { number = Some number })

-- a plain word that isn't too many
abbrev pub read_further : Command → Seen → ℕ → List ℕ → Result Seen WordsFault
read_further command seen place word =
    if (usage_of command).number then read_number seen place (decimal_of_word word) else Ok (with_word seen place)

-- a plain word
abbrev pub read_plain : Command → Seen → ℕ → List ℕ → Result Seen WordsFault
read_plain command seen place word =
    if nat_lt (length seen.plain_places) (usage_of command).words then read_further command seen place word
    else refusal_at ExtraWord place

-- `--`, an option or a plain word
abbrev pub read_item : Command → Seen → ℕ → List ℕ → Result Seen WordsFault
read_item command seen place word =
    if (usage_of command).arguments && bytes_eq word (codes "--") then Ok (record seen { args = Some (place + 1) })
    else (if is_option word then read_option seen place (option_of command word)
    else read_plain command seen place word)

-- any word: behind `--` an argument, behind an option its value
abbrev pub read_word : Command → Seen → ℕ → List ℕ → Result Seen WordsFault
read_word command seen place word =
    if is_some seen.args then Ok seen
    else option_map_or (λ option. read_value seen place option (checked_word option word)) seen.awaited
    (read_item command seen place word)

-- the words from a place on
abbrev pub read_words : Command → Seen → ℕ → List (List ℕ) → Result Seen WordsFault
read_words command seen place [] = Ok seen
read_words command seen place (word ∷ words) =
    and_then (read_word command seen place word) (λ more. read_words command more (place + 1) words)

-- ---- what is missing behind them all

-- the greatest number of pages where no option says it
abbrev pub default_pages : ℕ
default_pages = 16384

-- with the place of a plain word, counted from 0; where the line, of so many words, hasn't it, that is its refusal
abbrev pub with_plain : ℕ → Seen → ℕ → (ℕ → Result Line WordsFault) → Result Line WordsFault
with_plain count seen k next = option_map_or next (slice_get seen.plain_places k) (refusal_at MissingWord count)

abbrev pub with_budget : ℕ → Option ℕ → (ℕ → Line) → Result Line WordsFault
with_budget count None line = refusal_at MissingBudget count
with_budget count (Some budget) line = Ok (line budget)

-- the length and the budget of a machine have to be there
abbrev pub with_machine : ℕ → Option ℕ → Option ℕ → (ℕ → ℕ → Line) → Result Line WordsFault
with_machine count None budget line = refusal_at MissingLength count
with_machine count (Some bits) budget line = with_budget count budget (line bits)

-- the place of the first argument, or the number of words
abbrev pub args_said : ℕ → Seen → ℕ
args_said count seen = unwrap_or seen.args count

abbrev pub pages_said : Seen → ℕ
pages_said seen = unwrap_or seen.pages default_pages

abbrev pub line_said : Command → ℕ → Seen → Result Line WordsFault
line_said Run count seen =
    with_plain count seen 0 (λ file. with_machine count seen.vl seen.budget (λ bits budget.
    RunLine file (args_said count seen) bits budget (pages_said seen)))
line_said Asm count seen = with_plain count seen 0 (λ listing. Ok (AsmLine listing))
line_said Dis count seen = with_plain count seen 0 (λ file. Ok (DisLine file))
line_said Dbg count seen =
    with_plain count seen 0 (λ file. with_plain count seen 1 (λ script.
    with_machine count seen.vl seen.budget (λ bits budget.
    DbgLine file script (args_said count seen) bits budget (pages_said seen))))
line_said Load count seen = option_map_or (λ number. Ok (LoadLine number)) seen.number (refusal_at MissingWord count)
line_said Sweep count seen =
    with_plain count seen 0 (λ file. with_budget count seen.budget (λ budget.
    SweepLine file (args_said count seen) budget (pages_said seen)))
line_said Threads count seen =
    with_plain count seen 0 (λ file. with_plain count seen 1 (λ schedule.
    with_machine count seen.vl seen.budget (λ bits budget.
    ThreadsLine file schedule (args_said count seen) bits budget (pages_said seen))))

-- an option that is the last word has no value
abbrev pub end_of : Command → ℕ → Seen → Result Line WordsFault
end_of command count seen =
    if is_some seen.awaited then refusal_at MissingValue (count - 1) else line_said command count seen

abbrev pub scanned_command : List (List ℕ) → Option Command → Result Line WordsFault
scanned_command words None = refusal_at UnknownCommand 0
scanned_command words (Some command) =
    and_then (read_words command nothing_seen 1 (drop 1 words)) (end_of command (length words))

-- the line that words say of which none is refused by itself
abbrev pub scanned_line : List (List ℕ) → Result Line WordsFault
scanned_line [] = refusal_at NoCommand 0
scanned_line (name ∷ words) = scanned_command (name ∷ words) (named_command name)
