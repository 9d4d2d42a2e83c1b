-- Steps under a schedule, turn after turn.
use Rattle.std.specs.Prelude.{◌≡◌, ℕ, zero, suc, List}
use Rattle.guest_contexts.specs.declared.begin.Turn.{Turn}
use Rattle.guest_contexts.specs.Begins.{Begins, TurnAt}
use Rattle.emu_run.specs.Worlds.{Context}
use Rattle.emu_machine.specs.Advances.{Advances, IsSpent}
use Rattle.emu_machine.specs.declared.ends.Progress.{Progress}
use Rattle.emu_machine.specs.Machines.{MachineState}

-- where a run under a schedule is: the machine, which has the registers of the turn's context
pub record InTurn : Type 0 where
  pub machine : MachineState
  pub turn : Turn
  pub contexts : List Context

-- the turn, with the registers of that machine
abbrev pub turn_of : InTurn → TurnAt
turn_of a = record { turn = a.turn; core = a.machine.parts.core; vectors = a.machine.parts.vectors; contexts = a.contexts }

-- all steps of a turn were taken, and the next turn begins, by which only the registers of the machine change
pub record IsUsedUp (schedule : List (ℕ × ℕ)) (numbers : List ℕ) (old new : InTurn) : Type 0 where
  pub left : MachineState
  pub spent : IsSpent old.turn.until old.machine left
  pub begins : Begins schedule numbers (turn_of (record old { machine = left })) (turn_of new)
  pub machine : new.machine ≡ record left { parts = record left.parts { core = new.machine.parts.core; vectors = new.machine.parts.vectors } }

-- and so were those of so many
abbrev pub AreUsedUp : ℕ → List (ℕ × ℕ) → List ℕ → InTurn → InTurn → Type 0
AreUsedUp zero schedule numbers old new = new ≡ old
AreUsedUp (suc n) schedule numbers old new = (at : InTurn) × (AreUsedUp n schedule numbers old at × IsUsedUp schedule numbers at new)

-- whole turns, and then how far the steps of another one came
pub record AdvancesInTurns (schedule : List (ℕ × ℕ)) (numbers : List ℕ) (old new : InTurn) (progress : Progress) : Type 0 where
  pub count : ℕ
  pub at : InTurn
  pub used : AreUsedUp count schedule numbers old at
  pub turn : new.turn ≡ at.turn
  pub contexts : new.contexts ≡ at.contexts
  pub advances : Advances at.turn.until at.machine new.machine progress
