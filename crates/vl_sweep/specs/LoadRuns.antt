-- What a run of a load program leaves.
use Rattle.std.specs.Prelude.{◌≡◌}
use Rattle.emu_machine.specs.declared.machine.Machine.{Machine}
use Rattle.emu_model.specs.State.{State}
use Rattle.io_gate.specs.Memory.{Drain}

-- a machine that ran to this state, and what it wrote to file 1
pub record HasRun (st : State) (machine : Machine) (output : Drain) : Type 0 where
  pub parts : machine.parts ≡ st.parts
  pub written : output.held ≡ st.output
