-- The line that tells where and why a run stopped. `explanation`, at the end, is the whole of it.
use Rattle.std.specs.Prelude.{ℕ, ◌%◌, ◌^◌, List, [], Option, Some, None, codes, length, nat_eq, if◌then◌else◌}
use Rattle.elf_symbols.specs.declared.Symbol.{Symbol}
use Rattle.emu_model.specs.State.{Parts, read_x}
use Rattle.emu_model.specs.declared.trap.Ended.{Ended}
use Rattle.emu_model.specs.declared.trap.Ended.TheVariants.{Exit, Trap as Trapped}
use Rattle.emu_model.specs.declared.trap.Trap.{Trap}
use Rattle.emu_model.specs.declared.trap.TrapKind.{TrapKind}
use Rattle.emu_model.specs.declared.trap.TrapKind.TheVariants.{Undefined, Halt, Break, PcAlign, SpAlign, AccessAlign}
use Rattle.emu_model.specs.declared.trap.TrapKind.TheVariants.{Fetch, Read, Write}
use Rattle.emu_system.specs.declared.image.Segment.{Segment}
use Rattle.tool_texts.specs.Explanations.{undefined_line, at_stop_line, jump_line, spent_line, access_line, call_line}
use Rattle.tool_texts.specs.Explanations.{call_hint}
use Rattle.tool_texts.specs.declared.accesses.Beside.TheVariants.{Unaligned}
use Rattle.word_families.specs.Families.{first_family}
use Rattle.word_families.specs.Texts.{name_of, advice_of}
use Rattle.word_families.specs.declared.Family.{Family}
use Rattle.word_families.specs.declared.groups.TheConstants.{GROUPS}
use Rattle.tool_sites.specs.Beside.{beside, near_of}
use Rattle.tool_sites.specs.Sites.{place_of, stop_of}
use Rattle.tool_sites.specs.Words.{word_at}

-- ---- a trap

-- a word that is no instruction, with its family and what to do
abbrev pub word_line : List Symbol → Parts → ℕ → Family → List ℕ
word_line symbols m word family = undefined_line [] (stop_of symbols m) word (name_of family) (advice_of family)

abbrev pub undefined_text : List Symbol → Parts → ℕ → List ℕ
undefined_text symbols m word = word_line symbols m word (first_family word GROUPS)

-- an access that was refused, and what is next to its address
abbrev pub access_text : List Symbol → List Segment → Parts → List ℕ → ℕ → List ℕ
access_text symbols segments m access a =
    access_line [] (stop_of symbols m) access (place_of symbols a) (beside symbols segments m.memory a) (near_of
    symbols a)

-- an instruction that can't be fetched
abbrev pub fetch_text : List Symbol → List Segment → Parts → ℕ → List ℕ
fetch_text symbols segments m a =
    call_line [] (stop_of symbols m) (beside symbols segments m.memory a) (near_of symbols a)

-- an access to an address that isn't a multiple of its size
abbrev pub unaligned_text : List Symbol → Parts → ℕ → List ℕ
unaligned_text symbols m a =
    access_line [] (stop_of symbols m) (codes "exclusive, ordered or atomic access to") (place_of symbols a) Unaligned
    (near_of symbols a)

abbrev pub trap_text : List Symbol → List Segment → Parts → ℕ → TrapKind → List ℕ
trap_text symbols segments m a Undefined = undefined_text symbols m (word_at m.memory m.core.pc)
trap_text symbols segments m a Halt = at_stop_line [] (stop_of symbols m) (codes "the instruction HLT")
trap_text symbols segments m a Break = at_stop_line [] (stop_of symbols m) (codes
    "the instruction BRK (a trap that the program has in itself)")
trap_text symbols segments m a PcAlign = jump_line [] (stop_of symbols m)
trap_text symbols segments m a SpAlign = at_stop_line [] (stop_of symbols m) (codes
    "an access by SP, which is no multiple of 16,")
trap_text symbols segments m a AccessAlign = unaligned_text symbols m a
trap_text symbols segments m a Fetch = fetch_text symbols segments m a
trap_text symbols segments m a Read = access_text symbols segments m (codes "read from") a
trap_text symbols segments m a Write = access_text symbols segments m (codes "write to") a

-- ---- any stop

abbrev pub ended_text : List Symbol → List Segment → Parts → Option Ended → List ℕ
ended_text symbols segments m None = spent_line [] (stop_of symbols m)
ended_text symbols segments m (Some (Exit code)) = []
ended_text symbols segments m (Some (Trapped t)) = trap_text symbols segments m t.address t.kind

-- what is said of a machine that stopped, by the symbols of its file and the segments of its image: nothing of an exit
abbrev pub explanation : List Symbol → List Segment → Parts → List ℕ
explanation symbols segments m = ended_text symbols segments m m.ended

-- ---- a machine without threads

-- the calls that only programs with threads make, by their numbers
abbrev pub thread_call : ℕ → List ℕ
thread_call number = if nat_eq number 220 then codes "clone" else (if nat_eq number 98 then codes "futex" else [])

-- that of a machine that stopped, by the number in X8; none of one that exited
abbrev pub call_of : Parts → Option Ended → List ℕ
call_of m None = thread_call (read_x m.core 8 % 2 ^ 32)
call_of m (Some (Exit code)) = []
call_of m (Some (Trapped t)) = thread_call (read_x m.core 8 % 2 ^ 32)

-- a text, and what is said of such a call behind it
abbrev pub then_hint : List ℕ → List ℕ → List ℕ
then_hint text call = if nat_eq (length call) 0 then text else call_hint text call

abbrev pub hinted_text : List Symbol → List Segment → Parts → Option Ended → List ℕ
hinted_text symbols segments m ended = then_hint (ended_text symbols segments m ended) (call_of m ended)

-- the same of a machine that runs alone, where calls for threads are refused
abbrev pub explanation_alone : List Symbol → List Segment → Parts → List ℕ
explanation_alone symbols segments m = hinted_text symbols segments m m.ended
