-- The numbers of a command that was read are in its ranges.
use Rattle.std.proofs.Common.{◌≡◌, ℕ, ◌^◌, ◌-◌, Bool, true, false, ◌&&◌, List, [], get_or, Option, Some, None, Result, Ok, Err, nat_le, nat_lt, if◌then◌else◌, refl, subst, sym, ◌∙◌, arith, codes}
use Rattle.std.specs.Prelude.{slice_get, length}
use Rattle.std.specs.Option.{option_map_or}
use Rattle.std.specs.Str.{bytes_eq}
use Rattle.std.proofs.lemmas.Bool.Decides.{nat_tests}
use Rattle.emu_bits.specs.declared.flags.Esize.{Esize}
use Rattle.dbg_model.specs.declared.script.Command.{Command}
use Rattle.dbg_model.specs.declared.script.Command.TheVariants.{Step, Go, Break, Watch, Regs, Vl, Zreg, Preg, Ffr, Lanes, Mem, Back}
use Rattle.dbg_model.specs.declared.script.ScriptWhy.{ScriptWhy}
use Rattle.dbg_model.specs.declared.script.ScriptWhy.TheVariants.{MissingWord, BadNumber, OutOfRange, ExtraWord, UnknownCommand}
use Rattle.dbg_model.specs.ScriptLimits.{is_within}
use Rattle.line_words.specs.Lines.{number_of_word}
use Rattle.line_words.specs.Refusals.{and_then}
use Rattle.dbg_model.specs.Script.{in_range, number_within, number_argument, size_argument, complete, command_of, most_number}
use Rattle.dbg_core.specs.Readers.{step_of, break_of, watch_of, zreg_of, preg_of, lanes_of, mem_of, back_of, command_named, named_law}

-- an answer that keeps its ranges
abbrev pub Keeps : Result Command ScriptWhy → Type 0
Keeps r = (c : Command) → r ≡ Ok c → is_within c ≡ true

refuses : (why : ScriptWhy) → Keeps (Err why)
refuses why c h = cc

either : (b : Bool) (r s : Result Command ScriptWhy) → Keeps r → Keeps s → Keeps (if b then r else s)
either true r s p q = p
either false r s p q = q

keeps_whole : (words : List (List ℕ)) (count : ℕ) (command : Command) → is_within command ≡ true → Keeps (complete words count command)
keeps_whole words count command h =
    either (nat_lt count (length words)) (Err ExtraWord) (Ok command) (refuses ExtraWord) (λ c is. let e : command ≡ c = cc in subst (λ (x : Command). is_within x ≡ true) e h)

-- ---- a number that was read is in its range

abbrev HasRange : ℕ → ℕ → Result ℕ ScriptWhy → Type 0
HasRange least most r = (n : ℕ) → r ≡ Ok n → (nat_le least n && nat_le n most) ≡ true

abbrev tested : Bool → ℕ → Result ℕ ScriptWhy
tested b m = if b then Ok m else Err OutOfRange

range_of : (least most m : ℕ) (b : Bool) → (nat_le least m && nat_le m most) ≡ b → HasRange least most (tested b m)
range_of least most m true h n is = let e : m ≡ n = cc in subst (λ (x : ℕ). (nat_le least x && nat_le x most) ≡ true) e h
range_of least most m false h n is = cc

number_range : (least most : ℕ) (o : Option ℕ) → HasRange least most (option_map_or (in_range least most) o (Err BadNumber))
number_range least most None n is = cc
number_range least most (Some m) n is = range_of least most m (nat_le least m && nat_le m most) refl n is

word_range : (least most : ℕ) (o : Option (List ℕ)) → HasRange least most (option_map_or (number_within least most) o (Err MissingWord))
word_range least most None n is = cc
word_range least most (Some word) n is = number_range least most (number_of_word word) n is

argument_range : (words : List (List ℕ)) (place least most : ℕ) → HasRange least most (number_argument words place least most)
argument_range words place least most = word_range least most (slice_get words place)

-- what follows a number in its range
then_keeps : (least most : ℕ) (r : Result ℕ ScriptWhy) (next : ℕ → Result Command ScriptWhy) → HasRange least most r → ((n : ℕ) → (nat_le least n && nat_le n most) ≡ true → Keeps (next n)) → Keeps (and_then r next)
then_keeps least most (Ok n) next range h = h n (range n refl)
then_keeps least most (Err why) next range h = refuses why

size_keeps : (r : Result Esize ScriptWhy) (next : Esize → Result Command ScriptWhy) → ((size : Esize) → Keeps (next size)) → Keeps (and_then r next)
size_keeps (Ok size) next h = h size
size_keeps (Err why) next h = refuses why

-- ---- each command

first_true : (a b : Bool) → (a && b) ≡ true → a ≡ true
first_true true b h = refl
first_true false b h = cc

below_is : (n : ℕ) → (nat_le 0 n && nat_le n (2 ^ 47 - 1)) ≡ true → nat_lt n (2 ^ 47) ≡ true
below_is n h = grind (arith, nat_tests)

both_true : (a b : Bool) → a ≡ true → b ≡ true → (a && b) ≡ true
both_true a b p q = rw (p, q) refl

step_keeps : (words : List (List ℕ)) → Keeps (step_of words)
step_keeps words =
    then_keeps 1 most_number (number_argument words 1 1 most_number) _ (argument_range words 1 1 most_number) (λ n h. keeps_whole words 2 (Step n) (first_true (nat_le 1 n) (nat_le n most_number) h))

break_keeps : (words : List (List ℕ)) → Keeps (break_of words)
break_keeps words = then_keeps 0 most_number (number_argument words 1 0 most_number) _ (argument_range words 1 0 most_number) (λ n h. keeps_whole words 2 (Break n) refl)

watch_keeps : (words : List (List ℕ)) → Keeps (watch_of words)
watch_keeps words =
    then_keeps 0 most_number (number_argument words 1 0 most_number) _ (argument_range words 1 0 most_number) (λ address _.
    then_keeps 1 4096 (number_argument words 2 1 4096) _ (argument_range words 2 1 4096) (λ count h. keeps_whole words 3 (Watch address count) h))

zreg_keeps : (words : List (List ℕ)) → Keeps (zreg_of words)
zreg_keeps words = then_keeps 0 31 (number_argument words 1 0 31) _ (argument_range words 1 0 31) (λ k h. keeps_whole words 2 (Zreg k) refl)

preg_keeps : (words : List (List ℕ)) → Keeps (preg_of words)
preg_keeps words = then_keeps 0 15 (number_argument words 1 0 15) _ (argument_range words 1 0 15) (λ k h. keeps_whole words 2 (Preg k) refl)

lanes_keeps : (words : List (List ℕ)) → Keeps (lanes_of words)
lanes_keeps words =
    then_keeps 0 31 (number_argument words 1 0 31) _ (argument_range words 1 0 31) (λ k h. size_keeps (size_argument words 2) _ (λ size. keeps_whole words 3 (Lanes k size) refl))

mem_keeps : (words : List (List ℕ)) → Keeps (mem_of words)
mem_keeps words =
    then_keeps 0 (2 ^ 47 - 1) (number_argument words 1 0 (2 ^ 47 - 1)) _ (argument_range words 1 0 (2 ^ 47 - 1)) (λ address below.
    then_keeps 1 4096 (number_argument words 2 1 4096) _ (argument_range words 2 1 4096) (λ count h.
    keeps_whole words 3 (Mem address count) (both_true (nat_lt address (2 ^ 47)) (nat_le 1 count && nat_le count 4096) (below_is address below) h)))

back_keeps : (words : List (List ℕ)) → Keeps (back_of words)
back_keeps words =
    then_keeps 1 most_number (number_argument words 1 1 most_number) _ (argument_range words 1 1 most_number) (λ n h. keeps_whole words 2 (Back n) (first_true (nat_le 1 n) (nat_le n most_number) h))

named_keeps : (name : List ℕ) (words : List (List ℕ)) → Keeps (command_named name words)
named_keeps name words =
    either (bytes_eq name (codes "step")) _ _ (step_keeps words)
    (either (bytes_eq name (codes "go")) _ _ (keeps_whole words 1 Go refl)
    (either (bytes_eq name (codes "break")) _ _ (break_keeps words)
    (either (bytes_eq name (codes "watch")) _ _ (watch_keeps words)
    (either (bytes_eq name (codes "regs")) _ _ (keeps_whole words 1 Regs refl)
    (either (bytes_eq name (codes "vl")) _ _ (keeps_whole words 1 Vl refl)
    (either (bytes_eq name (codes "zreg")) _ _ (zreg_keeps words)
    (either (bytes_eq name (codes "preg")) _ _ (preg_keeps words)
    (either (bytes_eq name (codes "ffr")) _ _ (keeps_whole words 1 Ffr refl)
    (either (bytes_eq name (codes "lanes")) _ _ (lanes_keeps words)
    (either (bytes_eq name (codes "mem")) _ _ (mem_keeps words)
    (either (bytes_eq name (codes "back")) _ _ (back_keeps words) (refuses UnknownCommand))))))))))))

pub command_within : (words : List (List ℕ)) (c : Command) → command_of words ≡ Ok c → is_within c ≡ true
command_within words c is = named_keeps (get_or words 0 []) words c (sym (named_law words) ∙ is)
