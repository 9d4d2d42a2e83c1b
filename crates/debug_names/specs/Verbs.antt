-- The names of commands, as gdb has them where it has the command: a word names a command by its short form, or by so
-- many first letters of its name. Of several commands that a word names, it is the first of the table.
use Rattle.std.specs.Prelude.{ℕ, ◌+◌, Bool, ◌&&◌, ◌||◌, List, [], ◌∷◌, length, codes, fold, Option, nat_eq, nat_le}
use Rattle.std.specs.Prelude.{nat_lt, if◌then◌else◌}
use Rattle.std.specs.List.{find, starts_with}
use Rattle.std.specs.Str.{bytes_eq}
use Rattle.debug_names.specs.declared.verbs.Verb.{Verb}
use Rattle.debug_names.specs.declared.verbs.Verb.TheVariants.{Break, BreakOnce, Backtrace, Delete, Disassemble, Disable}
use Rattle.debug_names.specs.declared.verbs.Verb.TheVariants.{Enable, Ignore, Info, Watch, WatchReads, WatchBoth, Run}
use Rattle.debug_names.specs.declared.verbs.Verb.TheVariants.{Start, Continue, Step, Next, StepLine, NextLine, Finish}
use Rattle.debug_names.specs.declared.verbs.Verb.TheVariants.{Until, Advance, StepBack, NextBack, ContinueBack}
use Rattle.debug_names.specs.declared.verbs.Verb.TheVariants.{FinishBack, Goto, LastWrite, Print, Examine, Find, Where}
use Rattle.debug_names.specs.declared.verbs.Verb.TheVariants.{When, Lanes, Listing, Set, Source, Help, Quit}

-- the whole name
abbrev pub name_of : Verb → List ℕ
name_of Break = codes "break"
name_of BreakOnce = codes "tbreak"
name_of Backtrace = codes "backtrace"
name_of Delete = codes "delete"
name_of Disassemble = codes "disassemble"
name_of Disable = codes "disable"
name_of Enable = codes "enable"
name_of Ignore = codes "ignore"
name_of Info = codes "info"
name_of Watch = codes "watch"
name_of WatchReads = codes "rwatch"
name_of WatchBoth = codes "awatch"
name_of Run = codes "run"
name_of Start = codes "start"
name_of Continue = codes "continue"
name_of Step = codes "stepi"
name_of Next = codes "nexti"
name_of StepLine = codes "step"
name_of NextLine = codes "next"
name_of Finish = codes "finish"
name_of Until = codes "until"
name_of Advance = codes "advance"
name_of StepBack = codes "reverse-stepi"
name_of NextBack = codes "reverse-nexti"
name_of ContinueBack = codes "reverse-continue"
name_of FinishBack = codes "reverse-finish"
name_of Goto = codes "goto"
name_of LastWrite = codes "last-write"
name_of Print = codes "print"
name_of Examine = codes "x"
name_of Find = codes "find"
name_of Where = codes "where"
name_of When = codes "when"
name_of Lanes = codes "lanes"
name_of Listing = codes "list"
name_of Set = codes "set"
name_of Source = codes "source"
name_of Help = codes "help"
name_of Quit = codes "quit"

-- the short form
abbrev pub short_of : Verb → List ℕ
short_of Break = codes "b"
short_of BreakOnce = codes "tb"
short_of Backtrace = codes "bt"
short_of Delete = codes "d"
short_of Disassemble = codes "disas"
short_of Disable = codes "dis"
short_of Enable = codes "en"
short_of Ignore = codes "ign"
short_of Info = codes "i"
short_of Watch = codes "wa"
short_of WatchReads = codes "rw"
short_of WatchBoth = codes "aw"
short_of Run = codes "r"
short_of Start = codes "sta"
short_of Continue = codes "c"
short_of Step = codes "si"
short_of Next = codes "ni"
short_of StepLine = codes "s"
short_of NextLine = codes "n"
short_of Finish = codes "fin"
short_of Until = codes "u"
short_of Advance = codes "adv"
short_of StepBack = codes "rsi"
short_of NextBack = codes "rni"
short_of ContinueBack = codes "rc"
short_of FinishBack = codes "rf"
short_of Goto = codes "g"
short_of LastWrite = codes "lw"
short_of Print = codes "p"
short_of Examine = codes "x"
short_of Find = codes "find"
short_of Where = codes "whe"
short_of When = codes "wh"
short_of Lanes = codes "la"
short_of Listing = codes "l"
short_of Set = codes "se"
short_of Source = codes "so"
short_of Help = codes "h"
short_of Quit = codes "q"

-- of how many first letters a shorter name has at least
abbrev pub least_of : Verb → ℕ
least_of Break = 2
least_of BreakOnce = 2
least_of Backtrace = 2
least_of Delete = 3
least_of Disassemble = 5
least_of Disable = 4
least_of Enable = 2
least_of Ignore = 2
least_of Info = 3
least_of Watch = 3
least_of WatchReads = 2
least_of WatchBoth = 2
least_of Run = 2
least_of Start = 4
least_of Continue = 4
least_of Step = 5
least_of Next = 5
least_of StepLine = 3
least_of NextLine = 2
least_of Finish = 4
least_of Until = 3
least_of Advance = 4
least_of StepBack = 13
least_of NextBack = 13
least_of ContinueBack = 9
least_of FinishBack = 9
least_of Goto = 2
least_of LastWrite = 3
least_of Print = 2
least_of Examine = 1
least_of Find = 4
least_of Where = 5
least_of When = 4
least_of Lanes = 2
least_of Listing = 2
least_of Set = 2
least_of Source = 2
least_of Help = 2
least_of Quit = 2

-- what stands behind the name
abbrev pub form_of : Verb → List ℕ
form_of Break = codes "break PLACE [if A == B]"
form_of BreakOnce = codes "tbreak PLACE [if A == B]"
form_of Backtrace = codes "backtrace"
form_of Delete = codes "delete [NUMBER]"
form_of Disassemble = codes "disassemble [PLACE]"
form_of Disable = codes "disable [NUMBER]"
form_of Enable = codes "enable [NUMBER]"
form_of Ignore = codes "ignore NUMBER COUNT"
form_of Info = codes "info breakpoints | info registers [NAME ..] | info symbol PLACE | info line [PLACE]"
form_of Watch = codes "watch PLACE LENGTH"
form_of WatchReads = codes "rwatch PLACE LENGTH"
form_of WatchBoth = codes "awatch PLACE LENGTH"
form_of Run = codes "run"
form_of Start = codes "start"
form_of Continue = codes "continue [COUNT]"
form_of Step = codes "stepi [COUNT]"
form_of Next = codes "nexti [COUNT]"
form_of StepLine = codes "step [COUNT]"
form_of NextLine = codes "next [COUNT]"
form_of Finish = codes "finish"
form_of Until = codes "until PLACE"
form_of Advance = codes "advance PLACE"
form_of StepBack = codes "reverse-stepi [COUNT]"
form_of NextBack = codes "reverse-nexti [COUNT]"
form_of ContinueBack = codes "reverse-continue [COUNT]"
form_of FinishBack = codes "reverse-finish"
form_of Goto = codes "goto STEP"
form_of LastWrite = codes "last-write PLACE LENGTH"
form_of Print = codes "print[/x] REGISTER | print[/x] PLACE"
form_of Examine = codes "x/NFU PLACE"
form_of Find = codes "find[/SIZE] START, +LENGTH, VALUE .."
form_of Where = codes "where"
form_of When = codes "when"
form_of Lanes = codes "lanes z0 [z1 p0 ..] [.s]"
form_of Listing = codes "list [PLACE]"
form_of Set = codes "set slice STEPS"
form_of Source = codes "source FILE"
form_of Help = codes "help [COMMAND]"
form_of Quit = codes "quit"

-- the table
abbrev pub all_verbs : List Verb
all_verbs =
    Break ∷ BreakOnce ∷ Backtrace ∷ Delete ∷ Disassemble ∷ Disable ∷ Enable ∷ Ignore ∷ Info ∷ Watch ∷ WatchReads ∷
    WatchBoth ∷ Run ∷ Start ∷ Continue ∷ Step ∷ Next ∷ StepLine ∷ NextLine ∷ Finish ∷ Until ∷ Advance ∷ StepBack ∷
    NextBack ∷ ContinueBack ∷ FinishBack ∷ Goto ∷ LastWrite ∷ Print ∷ Examine ∷ Find ∷ Where ∷ When ∷ Lanes ∷ Listing ∷
    Set ∷ Source ∷ Help ∷ Quit ∷ []

-- a short form, or so many first letters of a name
abbrev pub is_form : List ℕ → List ℕ → ℕ → List ℕ → Bool
is_form word short least name =
    bytes_eq word short || (nat_le least (length word) && starts_with nat_eq name word)

abbrev pub is_named : List ℕ → Verb → Bool
is_named word v = is_form word (short_of v) (least_of v) (name_of v)

-- ---- the nearest name of a word that names none: of those that share the most first letters with it, the first of the
-- table; `help` where none shares one

abbrev pub shared : List ℕ → List ℕ → ℕ
shared [] name = 0
shared (a ∷ word) [] = 0
shared (a ∷ word) (b ∷ name) = if nat_eq a b then 1 + shared word name else 0

abbrev pub nearer : List ℕ → Verb → Verb → Verb
nearer word u v = if nat_lt (shared word (name_of u)) (shared word (name_of v)) then v else u

abbrev pub nearest : List ℕ → Verb
nearest word = fold (nearer word) Help all_verbs

-- the command that a word names
abbrev pub verb_of : List ℕ → Option Verb
verb_of word = find (is_named word) all_verbs
