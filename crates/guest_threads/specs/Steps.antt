-- The step of a machine alone, as that of the context whose registers the machine has.
use Rattle.std.specs.Prelude.{ℕ, Bool, if◌then◌else◌}
use Rattle.emu_run.specs.Step.{accesses}
use Rattle.emu_run.specs.Threads.{WorldState, stepped_alone, taken_by, with_world}
use Rattle.emu_run.specs.Worlds.{World, context, parts_with, others_behind, taken_by_context, without_monitors}

-- a call empties all monitors, and any other step those of the other contexts that it writes to
abbrev pub noted : Bool → World → ℕ → World → World
noted calls w k v = taken_by_context k (if calls then without_monitors v else others_behind (accesses (parts_with w (context w k))) k v)

abbrev pub stepped_as : Bool → WorldState → WorldState
stepped_as calls st = taken_by st (with_world (noted calls st.world st.world.last) (stepped_alone st.world st.world.last st.input))
