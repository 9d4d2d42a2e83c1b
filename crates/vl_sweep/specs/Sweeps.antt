-- The sweep of an image, and how it ends.
use Rattle.std.specs.Prelude.{◌≡◌, ℕ, Bool, true, false, List, ◌++◌, Option, Some, IfSome, Result, MatchResult}
use Rattle.emu_model.specs.State.{State}
use Rattle.emu_machine.specs.declared.machine.Machine.{Machine}
use Rattle.emu_system.specs.Gained.{GainedFirst}
use Rattle.emu_system.specs.Image.{Image}
use Rattle.command_model.specs.Sweep.{Sweep, fits_run}
use Rattle.vl_sweep.specs.Bounded.{Bounded}
use Rattle.vl_sweep.specs.declared.lengths.SweepEnd.{SweepEnd}
use Rattle.vl_sweep.specs.declared.lengths.SweepEnd.TheVariants.{Done, TooLong, WriteFault, OutOfMemory}

abbrev pub sweep_of : List ℕ → Image → List (List ℕ) → ℕ → ℕ → List ℕ → Sweep
sweep_of file image args pages budget input = record { file = file; image = image; args = args; pages = pages; budget = budget; input = input }

-- no line was put
abbrev pub is_stopped : SweepEnd → Bool
is_stopped Done = false
is_stopped TooLong = true
is_stopped WriteFault = true
is_stopped OutOfMemory = true

-- the output failed, or memory was wanting
abbrev pub is_broken_off : SweepEnd → Bool
is_broken_off Done = false
is_broken_off TooLong = false
is_broken_off WriteFault = true
is_broken_off OutOfMemory = true

-- ---- one length

-- a machine that ran to this state, and what it wrote
pub record HasRun (st : State) (machine : Machine) (written errors : Bounded) : Type 0 where
  pub parts : machine.parts ≡ st.parts
  pub output : written ≡ record { held = st.output; faults = 0 }
  pub to_errors : errors ≡ record { held = st.errors; faults = 0 }
  pub fits : fits_run st ≡ true

-- why there is none: a run that wrote too much, or no memory
abbrev pub HasNotRun : State → SweepEnd → Type 0
HasNotRun st Done = ⊥
HasNotRun st TooLong = fits_run st ≡ false
HasNotRun st WriteFault = ⊥
HasNotRun st OutOfMemory = Unit {0}

abbrev pub IsRunAt : State → Result Machine SweepEnd → Bounded → Bounded → Type 0
IsRunAt st result written errors = MatchResult result (λ machine. HasRun st machine written errors) (HasNotRun st)

-- by how a length ended: whether its streams fit, and what the output gained of its line
abbrev pub PutsLine : SweepEnd → Bool → Option (List ℕ) → Option (List ℕ) → List ℕ → Type 0
PutsLine Done fits old new line = (fits ≡ true) × IfSome old (λ had. new ≡ Some (had ++ line))
PutsLine TooLong fits old new line = (fits ≡ false) × (new ≡ old)
PutsLine WriteFault fits old new line = (fits ≡ true) × IfSome old (λ had. GainedFirst new had line)
PutsLine OutOfMemory fits old new line = new ≡ old
