-- A world: what its contexts share, and the contexts, each with what it has of its own. It is this project's own;
-- monitors are those of the Arm Architecture Reference Manual for A-profile (DDI 0487), B2 'The AArch64 Application
-- Level Memory Model', 'Synchronization and semaphores', and what empties them is this project's own choice, as
-- docs/MANUAL.md has it under "Monitors".
use Rattle.std.specs.Prelude.{ℕ, ◌+◌, ◌-◌, Bool, true, false, ◌&&◌, List, [], ◌∷◌, get_or, set, length, filter, map, min, count_by, Option, Some, None, nat_eq, nat_lt, if◌then◌else◌}
use Rattle.std.specs.List.{list_any, range_with_len}
use Rattle.emu_model.specs.declared.access.Access.{Access}
use Rattle.emu_model.specs.declared.program_break.Break.{Break}
use Rattle.emu_model.specs.declared.trap.Ended.{Ended}
use Rattle.emu_model.specs.Access.{Memory}
use Rattle.emu_model.specs.State.{Core, Vectors, Parts, zero_core, zero_vectors}
use Rattle.emu_run.specs.declared.thread.Standing.{Standing}
use Rattle.emu_run.specs.declared.thread.Standing.TheVariants.{Ready, Waiting, Gone}

-- the scalar and the vector registers, the address that is cleared when the context leaves, and how it stands
pub record Context : Type 0 where
  pub core : Core
  pub vectors : Vectors
  pub clear : ℕ
  pub standing : Standing

-- the number of a context is its place in the list; `steps` counts those of all, and context `last` took the last one,
-- or context 0 where none was taken
pub record World : Type 0 where
  pub memory : Memory
  pub brk : Break
  pub steps : ℕ
  pub ended : Option Ended
  pub last : ℕ
  pub contexts : List Context

abbrev pub no_context : Context
no_context = record { core = zero_core; vectors = zero_vectors 128; clear = 0; standing = Gone }

abbrev pub context : World → ℕ → Context
context world k = get_or world.contexts k no_context

-- context 0 alone, which has the registers of a machine
abbrev pub opened : Parts → World
opened parts = record {
  memory = parts.memory;
  brk = parts.brk;
  steps = parts.steps;
  ended = parts.ended;
  last = 0;
  contexts = record { core = parts.core; vectors = parts.vectors; clear = 0; standing = Ready } ∷ [];
}

-- ---- how contexts stand

abbrev pub is_standing_ready : Standing → Bool
is_standing_ready Ready = true
is_standing_ready (Waiting a) = false
is_standing_ready Gone = false

abbrev pub is_standing_at : ℕ → Standing → Bool
is_standing_at a Ready = false
is_standing_at a (Waiting at) = nat_eq at a
is_standing_at a Gone = false

abbrev pub is_standing_gone : Standing → Bool
is_standing_gone Ready = false
is_standing_gone (Waiting a) = false
is_standing_gone Gone = true

abbrev pub is_ready : Context → Bool
is_ready c = is_standing_ready c.standing

abbrev pub waits_at : ℕ → Context → Bool
waits_at a c = is_standing_at a c.standing

abbrev pub is_gone : Context → Bool
is_gone c = is_standing_gone c.standing

-- the numbers of the contexts that are ready, in order
abbrev pub ready : World → List ℕ
ready world = filter (λ k. is_ready (context world k)) (range_with_len 0 (length world.contexts))

abbrev pub some_ready : World → Bool
some_ready world = list_any is_ready world.contexts

-- ---- a machine is joined of what is shared and of a context, and taken apart again

abbrev pub parts_with : World → Context → Parts
parts_with world c =
    record {
      core = c.core;
      vectors = c.vectors;
      memory = world.memory;
      brk = world.brk;
      steps = world.steps;
      ended = world.ended;
    }

abbrev pub with_context : World → ℕ → Context → World
with_context world k c = record world { contexts = set world.contexts k c }

abbrev pub sharing : World → Parts → World
sharing world parts = record world { memory = parts.memory; brk = parts.brk; steps = parts.steps; ended = parts.ended }

-- context k stands so, and has the machine's registers
abbrev pub apart : World → ℕ → Standing → Parts → World
apart world k standing parts =
    with_context (sharing world parts) k
    (record (context world k) { core = parts.core; vectors = parts.vectors; standing = standing })

-- ---- waking

abbrev pub woken_context : Context → Context
woken_context c = record c { standing = Ready }

-- the first of these contexts that wait at an address, at most so many, are ready
abbrev pub woken : ℕ → ℕ → List Context → List Context
woken a n [] = []
woken a n (c ∷ cs) = if waits_at a c && nat_lt 0 n then woken_context c ∷ woken a (n - 1) cs else c ∷ woken a n cs

abbrev pub wake_count : ℕ → ℕ → List Context → ℕ
wake_count a n cs = min n (count_by (waits_at a) cs)

abbrev pub with_woken : World → ℕ → ℕ → World
with_woken world a n = record world { contexts = woken a n world.contexts }

-- ---- monitors

-- an access that wrote a byte of a monitor's
abbrev pub wrote_to : ℕ × ℕ → Access → Bool
wrote_to monitor access =
    access.write && (nat_lt access.address (monitor.0 + monitor.1) && nat_lt monitor.0 (access.address + access.bytes))

abbrev pub monitor_behind : List Access → Option (ℕ × ℕ) → Option (ℕ × ℕ)
monitor_behind made None = None
monitor_behind made (Some monitor) = if list_any (wrote_to monitor) made then None else Some monitor

abbrev pub with_monitor : Option (ℕ × ℕ) → Context → Context
with_monitor monitor c = record c { core = record c.core { monitor = monitor } }

abbrev pub behind_accesses : List Access → Context → Context
behind_accesses made c = with_monitor (monitor_behind made c.core.monitor) c

-- the monitors of all but context k, behind a step of it that made these accesses
abbrev pub others_behind : List Access → ℕ → World → World
others_behind made k world =
    record world { contexts = set (map (behind_accesses made) world.contexts) k (context world k) }

abbrev pub without_monitors : World → World
without_monitors world = record world { contexts = map (with_monitor None) world.contexts }

abbrev pub taken_by_context : ℕ → World → World
taken_by_context k world = record world { last = k }
