-- What reads each command, for the contracts of the functions that do; `named_law` says that they are the table's.
use Rattle.std.specs.Prelude.{◌≡◌, ℕ, ◌+◌, ◌-◌, ◌^◌, Bool, true, false, List, [], ◌∷◌, get_or, codes, Option, Some, None, Result, Ok, Err, if◌then◌else◌}
use Rattle.std.proofs.Common.{refl, ap, ◌∙◌}
use Rattle.std.specs.List.{find}
use Rattle.std.specs.Option.{option_map_or}
use Rattle.std.specs.Str.{bytes_eq}
use Rattle.line_words.specs.Refusals.{and_then}
use Rattle.dbg_model.specs.declared.script.Command.{Command}
use Rattle.dbg_model.specs.declared.script.Command.TheVariants.{Step, Go, Break, Watch, Regs, Vl, Zreg, Preg, Ffr, Lanes, Mem, Back}
use Rattle.dbg_model.specs.declared.script.ScriptWhy.{ScriptWhy}
use Rattle.dbg_model.specs.declared.script.ScriptWhy.TheVariants.{UnknownCommand}
use Rattle.dbg_model.specs.Script.{number_argument, command_of, most_number, readers, size_argument, complete}

abbrev pub step_of : List (List ℕ) → Result Command ScriptWhy
step_of words = and_then (number_argument words 1 1 most_number) (λ steps. complete words 2 (Step steps))

abbrev pub break_of : List (List ℕ) → Result Command ScriptWhy
break_of words = and_then (number_argument words 1 0 most_number) (λ address. complete words 2 (Break address))

abbrev pub watch_of : List (List ℕ) → Result Command ScriptWhy
watch_of words =
    and_then (number_argument words 1 0 most_number) (λ address.
    and_then (number_argument words 2 1 4096) (λ count. complete words 3 (Watch address count)))

abbrev pub zreg_of : List (List ℕ) → Result Command ScriptWhy
zreg_of words = and_then (number_argument words 1 0 31) (λ k. complete words 2 (Zreg k))

abbrev pub preg_of : List (List ℕ) → Result Command ScriptWhy
preg_of words = and_then (number_argument words 1 0 15) (λ k. complete words 2 (Preg k))

abbrev pub lanes_of : List (List ℕ) → Result Command ScriptWhy
lanes_of words =
    and_then (number_argument words 1 0 31) (λ k. and_then (size_argument words 2) (λ size. complete words 3 (Lanes k size)))

abbrev pub mem_of : List (List ℕ) → Result Command ScriptWhy
mem_of words =
    and_then (number_argument words 1 0 (2 ^ 47 - 1)) (λ address.
    and_then (number_argument words 2 1 4096) (λ count. complete words 3 (Mem address count)))

abbrev pub back_of : List (List ℕ) → Result Command ScriptWhy
back_of words = and_then (number_argument words 1 1 most_number) (λ steps. complete words 2 (Back steps))

-- a command that prints vector registers, predicates or memory, or that goes back
abbrev pub later_command_named : List ℕ → List (List ℕ) → Result Command ScriptWhy
later_command_named name words =
    if bytes_eq name (codes "zreg") then zreg_of words
    else (if bytes_eq name (codes "preg") then preg_of words
    else (if bytes_eq name (codes "ffr") then complete words 1 Ffr
    else (if bytes_eq name (codes "lanes") then lanes_of words
    else (if bytes_eq name (codes "mem") then mem_of words
    else (if bytes_eq name (codes "back") then back_of words else Err UnknownCommand)))))

abbrev pub command_named : List ℕ → List (List ℕ) → Result Command ScriptWhy
command_named name words =
    if bytes_eq name (codes "step") then step_of words
    else (if bytes_eq name (codes "go") then complete words 1 Go
    else (if bytes_eq name (codes "break") then break_of words
    else (if bytes_eq name (codes "watch") then watch_of words
    else (if bytes_eq name (codes "regs") then complete words 1 Regs
    else (if bytes_eq name (codes "vl") then complete words 1 Vl else later_command_named name words)))))

-- ---- the first reader of a name

abbrev Reader : Type 0
Reader = List ℕ × (List (List ℕ) → Result Command ScriptWhy)

-- the answer of the first of these readers whose name it is
abbrev read_by : List ℕ → List (List ℕ) → List Reader → Result Command ScriptWhy
read_by name words [] = Err UnknownCommand
read_by name words (reader ∷ rest) = if bytes_eq name reader.0 then reader.1 words else read_by name words rest

abbrev found : List ℕ → List (List ℕ) → List Reader → Result Command ScriptWhy
found name words rest =
    option_map_or (λ (reader : Reader). reader.1 words) (find (λ (reader : Reader). bytes_eq name reader.0) rest)
    (Err UnknownCommand)

found_or : (b : Bool) (words : List (List ℕ)) (reader : Reader) (rest : Option Reader)
    → option_map_or (λ (r : Reader). r.1 words) (if b then Some reader else rest) (Err UnknownCommand)
    ≡ (if b then reader.1 words else option_map_or (λ (r : Reader). r.1 words) rest (Err UnknownCommand))
found_or true words reader rest = refl
found_or false words reader rest = refl

found_by : (name : List ℕ) (words : List (List ℕ)) (rest : List Reader)
    → found name words rest ≡ read_by name words rest
found_by name words [] = refl
found_by name words (reader ∷ rest) =
    found_or (bytes_eq name reader.0) words reader (find (λ (r : Reader). bytes_eq name r.0) rest)
    ∙ ap (λ (r : Result Command ScriptWhy). if bytes_eq name reader.0 then reader.1 words else r)
    (found_by name words rest)

pub named_law : (words : List (List ℕ)) → command_of words ≡ command_named (get_or words 0 []) words
named_law words = found_by (get_or words 0 []) words readers
