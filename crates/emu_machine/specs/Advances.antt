-- Steps that are no calls, one after the other.
use Rattle.std.specs.Prelude.{◌≡◌, ◌<◌, ◌≤◌, ℕ, zero, suc, ◌+◌, List, ⊤, true, false, is_none}
use Rattle.emu_model.specs.declared.access.Access.{Access}
use Rattle.emu_model.specs.declared.trap.Effect.{Effect}
use Rattle.emu_model.specs.declared.trap.Effect.TheVariants.{Next, Branch, Call, Trap}
use Rattle.emu_model.specs.Access.{address}
use Rattle.emu_model.specs.State.{Parts}
use Rattle.emu_system.specs.Start.{with_input}
use Rattle.emu_system.specs.SystemCall.{call, quiet, went_on}
use Rattle.emu_run.specs.Run.{run}
use Rattle.emu_run.specs.Step.{accesses, trapped, step_from}
use Rattle.emu_machine.specs.Accesses.{run_accesses}
use Rattle.emu_machine.specs.declared.ends.Progress.{Progress}
use Rattle.emu_machine.specs.declared.ends.Progress.TheVariants.{GoesOn, Trapped, AtCall}
use Rattle.emu_machine.specs.Machines.{MachineState, is_at_call, makes_call}

-- a fact where the next step makes a call, and one where none does
abbrev pub MatchCall : Progress → Type 0 → Type 0 → Type 0
MatchCall GoesOn P Q = Q
MatchCall Trapped P Q = Q
MatchCall AtCall P Q = P

-- it has ended exactly where it trapped
abbrev pub EndsBy : Progress → Parts → Type 0
EndsBy GoesOn m = is_none m.ended ≡ true
EndsBy Trapped m = is_none m.ended ≡ false
EndsBy AtCall m = ⊤

-- ---- a step that makes no call, by the effect of its instruction

abbrev pub progress_by : Effect → Progress
progress_by Next = GoesOn
progress_by (Branch a) = GoesOn
progress_by (Trap t) = Trapped
progress_by Call = AtCall

-- the machine that the instruction left goes on behind it or where it branched, or traps
abbrev pub left_by_effect : Effect → Parts → Parts
left_by_effect Next m = went_on m m.core m.vectors m.memory (address (m.core.pc + 4))
left_by_effect (Branch a) m = went_on m m.core m.vectors m.memory a
left_by_effect (Trap t) m = trapped m t.kind t.address
left_by_effect Call m = m

-- ---- steps one after the other

-- a step that makes no call makes `now` of `old`, which goes on
pub record IsAlone (old now : Parts) : Type 0 where
  pub calls : makes_call old ≡ false
  pub turns : (input : List ℕ) → step_from old input ≡ quiet now input
  pub goes : is_none now.ended ≡ true
  pub counted : now.steps ≡ old.steps + 1

-- and so do so many
abbrev pub AreAlone : ℕ → Parts → Parts → Type 0
AreAlone zero old now = now ≡ old
AreAlone (suc n) old now = (p : Parts) × (AreAlone n old p × IsAlone p now)

-- ---- steps up to a budget

-- what remains of any run that goes on behind `now` ends as the whole does, with no byte of a stream moved, and so do its accesses
pub record IsAhead (old now : Parts) (before log : List Access) : Type 0 where
  pub alone : (n : ℕ) × AreAlone n old now
  pub goes : is_none now.ended ≡ true
  pub after : old.steps ≤ now.steps
  pub first : now.steps ≡ old.steps → now ≡ old
  pub leads : (b : ℕ) (input : List ℕ) → now.steps ≤ b → run (with_input old input) b ≡ run (with_input now input) b
  pub logs : (b : ℕ) (input : List ℕ) → now.steps ≤ b → run_accesses before old input b ≡ run_accesses log now input b

-- the budget is spent
pub record IsSpent (budget : ℕ) (old new : MachineState) : Type 0 where
  pub ahead : IsAhead old.parts new.parts old.accesses new.accesses
  pub spent : new.parts.steps ≡ budget

-- the last step made `new`, and ended it
pub record IsLastStep (budget : ℕ) (old new : MachineState) : Type 0 where
  pub at : Parts
  pub log : List Access
  pub ahead : IsAhead old.parts at old.accesses log
  pub below : at.steps < budget
  pub alone : makes_call at ≡ false
  pub turns : (input : List ℕ) → step_from at input ≡ quiet new.parts input
  pub accesses : new.accesses ≡ accesses at
  pub ended : is_none new.parts.ended ≡ false

-- the next step is a call
pub record AsksCall (budget : ℕ) (old new : MachineState) : Type 0 where
  pub log : List Access
  pub ahead : IsAhead old.parts new.parts old.accesses log
  pub below : new.parts.steps < budget
  pub clear : new.accesses ≡ accesses new.parts
  pub calls : (input : List ℕ) → step_from new.parts input ≡ call new.parts input
  pub svc : is_at_call new.parts ≡ true

abbrev pub Advances : ℕ → MachineState → MachineState → Progress → Type 0
Advances budget old new GoesOn = IsSpent budget old new
Advances budget old new Trapped = IsLastStep budget old new
Advances budget old new AtCall = AsksCall budget old new
