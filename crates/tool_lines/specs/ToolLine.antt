-- The command line of `svemu-tool`: a command with the places of its values, or its first refusal. `tool_line`, at the end, is the
-- whole of it.
--
-- Behind the command's name stand options, some with the next word as their value, then the word that names the program, and then
-- the program's arguments. Behind the word `--` no option stands. Places of words are counted from 0.
use Rattle.std.specs.Prelude.{◌<◌, ◌≤◌, ℕ, ◌+◌, ◌-◌, Bool, true, false, ◌||◌, not, List, [], ◌∷◌, length, drop, codes, Option, Some, None, is_some, IfSome, Result, Ok, Err, nat_eq, if◌then◌else◌}
use Rattle.std.specs.List.{starts_with}
use Rattle.std.specs.Str.{bytes_eq}
use Rattle.tool_lines.specs.declared.line.ToolOption.{ToolOption}
use Rattle.tool_lines.specs.declared.line.ToolOption.TheVariants.{Vl, Budget, Pages, Registers, Threads, Quiet, Help}
use Rattle.tool_lines.specs.declared.line.RunLine.{RunLine}
use Rattle.tool_lines.specs.declared.line.SeenWords.{SeenWords}
use Rattle.tool_lines.specs.declared.line.ToolLine.{ToolLine}
use Rattle.tool_lines.specs.declared.line.ToolLine.TheVariants as lines
use Rattle.tool_lines.specs.declared.line.ToolFault.{ToolFault}
use Rattle.tool_lines.specs.declared.line.ToolWhy.{ToolWhy}
use Rattle.tool_lines.specs.declared.line.ToolWhy.TheVariants.{NoCommand, UnknownCommand, UnknownOption, MissingValue, NoProgram}

abbrev pub refusal_at : {T : Type 0} → ToolWhy → ℕ → Result T ToolFault
refusal_at why place = Err (record { why = why; place = place })

-- ---- options

abbrev pub option_text : ToolOption → List ℕ
option_text Vl = codes "--vl"
option_text Budget = codes "--budget"
option_text Pages = codes "--pages"
option_text Registers = codes "--registers"
option_text Threads = codes "--threads"
option_text Quiet = codes "--quiet"
option_text Help = codes "--help"

-- the option that a word gives
abbrev pub option_of : List ℕ → Option ToolOption
option_of word =
    if bytes_eq word (codes "--vl") then Some Vl
    else (if bytes_eq word (codes "--budget") then Some Budget
    else (if bytes_eq word (codes "--pages") then Some Pages
    else (if bytes_eq word (codes "--registers") then Some Registers
    else (if bytes_eq word (codes "--threads") then Some Threads
    else (if bytes_eq word (codes "--quiet") then Some Quiet
    else (if bytes_eq word (codes "--help") then Some Help else None))))))

-- a word in the form of an option
abbrev pub is_option : List ℕ → Bool
is_option word = starts_with nat_eq word (codes "--")

-- ---- the words behind the command's name, one after the other

abbrev pub nothing_seen : SeenWords
nothing_seen = record {
  program = None;
  length = None;
  budget = None;
  pages = None;
  registers = None;
  threads = None;
  quiet = false;
  help = false;
  awaited = None;
  plain = false;
}

-- the place of an option's value
abbrev pub with_place : ToolOption → ℕ → SeenWords → SeenWords
with_place Vl place seen = record seen { awaited = None; length = Some place }
with_place Budget place seen = record seen { awaited = None; budget = Some place }
with_place Pages place seen = record seen { awaited = None; pages = Some place }
with_place Registers place seen = record seen { awaited = None; registers = Some place }
with_place Threads place seen = record seen { awaited = None; threads = Some place }
with_place Quiet place seen = record seen { awaited = None }
with_place Help place seen = record seen { awaited = None }

-- an option
abbrev pub read_option : SeenWords → ℕ → Option ToolOption → Result SeenWords ToolFault
read_option seen place None = refusal_at UnknownOption place
read_option seen place (Some Quiet) = Ok (record seen { quiet = true })
read_option seen place (Some Help) = Ok (record seen { help = true })
read_option seen place (Some Vl) = Ok (record seen { awaited = Some Vl })
read_option seen place (Some Budget) = Ok (record seen { awaited = Some Budget })
read_option seen place (Some Pages) = Ok (record seen { awaited = Some Pages })
read_option seen place (Some Registers) = Ok (record seen { awaited = Some Registers })
read_option seen place (Some Threads) = Ok (record seen { awaited = Some Threads })

-- the program's word, `--` or an option
abbrev pub read_item : SeenWords → ℕ → List ℕ → Result SeenWords ToolFault
read_item seen place word =
    if seen.plain || not (is_option word) then Ok (record seen { program = Some place })
    else (if bytes_eq word (codes "--") then Ok (record seen { plain = true }) else read_option seen place (option_of word))

-- the value of an option that awaits it, or such a word
abbrev pub read_next : SeenWords → ℕ → List ℕ → Option ToolOption → Result SeenWords ToolFault
read_next seen place word None = read_item seen place word
read_next seen place word (Some option) = Ok (with_place option place seen)

-- any word: behind the program's an argument
abbrev pub read_word : SeenWords → ℕ → List ℕ → Result SeenWords ToolFault
read_word seen place word = if is_some seen.program then Ok seen else read_next seen place word seen.awaited

abbrev pub and_then : {T U : Type 0} → Result T ToolFault → (T → Result U ToolFault) → Result U ToolFault
and_then (Ok value) next = next value
and_then (Err fault) next = Err fault

-- the words from a place on
abbrev pub read_words : SeenWords → ℕ → List (List ℕ) → Result SeenWords ToolFault
read_words seen place [] = Ok seen
read_words seen place (word ∷ words) = and_then (read_word seen place word) (λ more. read_words more (place + 1) words)

-- ---- behind them all

abbrev pub run_of : SeenWords → ℕ → Option ℕ → Result ToolLine ToolFault
run_of seen count None = refusal_at NoProgram count
run_of seen count (Some program) = Ok (lines.Run (record {
  program = program;
  length = seen.length;
  budget = seen.budget;
  pages = seen.pages;
  registers = seen.registers;
  threads = seen.threads;
  quiet = seen.quiet;
}))

-- help goes before all; an option that is the last word has no value
abbrev pub at_end : SeenWords → ℕ → Result ToolLine ToolFault
at_end seen count =
    if seen.help then Ok lines.Help
    else (if is_some seen.awaited then refusal_at MissingValue (count - 1) else run_of seen count seen.program)

-- ---- the whole line

abbrev pub line_of_command : List (List ℕ) → List ℕ → Result ToolLine ToolFault
line_of_command words name =
    if bytes_eq name (codes "--help") then Ok lines.Help
    else (if bytes_eq name (codes "--version") then Ok lines.Version
    else (if bytes_eq name (codes "family") then Ok lines.Family
    else (if bytes_eq name (codes "count") then Ok lines.Count
    else (if bytes_eq name (codes "trace") then Ok lines.Trace
    else (if bytes_eq name (codes "debug") then Ok lines.Debug
    else (if bytes_eq name (codes "run")
    then and_then (read_words nothing_seen 1 (drop 1 words)) (λ seen. at_end seen (length words))
    else refusal_at UnknownCommand 0))))))

abbrev pub tool_line : List (List ℕ) → Result ToolLine ToolFault
tool_line [] = refusal_at NoCommand 0
tool_line (name ∷ words) = line_of_command (name ∷ words) name

-- ---- the places of a line are those of words

abbrev pub IsPlace : ℕ → Option ℕ → Type 0
IsPlace count place = IfSome place (λ k. k < count)

pub record HasRunPlaces (count : ℕ) (line : RunLine) : Type 0 where
  pub program : line.program < count
  pub length : IsPlace count line.length
  pub budget : IsPlace count line.budget
  pub pages : IsPlace count line.pages
  pub registers : IsPlace count line.registers
  pub threads : IsPlace count line.threads

abbrev pub HasPlaces : ℕ → ToolLine → Type 0
HasPlaces count lines.Help = Unit {0}
HasPlaces count lines.Version = Unit {0}
HasPlaces count lines.Family = Unit {0}
HasPlaces count lines.Count = 1 ≤ count
HasPlaces count lines.Trace = 1 ≤ count
HasPlaces count lines.Debug = 1 ≤ count
HasPlaces count (lines.Run line) = HasRunPlaces count line
