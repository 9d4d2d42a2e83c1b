-- The contexts of a world whose machine has the registers of one of them.
use Rattle.std.specs.Prelude.{ℕ, List, get_or, set}
use Rattle.emu_model.specs.State.{Parts}
use Rattle.emu_run.specs.Worlds.{World, Context, no_context}

-- a context with the registers of a machine
abbrev pub with_machine : Context → Parts → Context
with_machine c m = record c { core = m.core; vectors = m.vectors }

-- contexts, of which the one at place `last` has its registers in the machine
abbrev pub laid : Parts → ℕ → List Context → List Context
laid m last contexts = set contexts last (with_machine (get_or contexts last no_context) m)

abbrev pub world_of : Parts → ℕ → List Context → World
world_of m last contexts = record { memory = m.memory; brk = m.brk; steps = m.steps; ended = m.ended; last = last; contexts = laid m last contexts }
