-- A machine under a schedule.
use Rattle.std.proofs.Common.{◌≡◌, ℕ, zero, suc, List, [], ap, subst, ◌∙◌, arith}
use Rattle.emu_model.specs.State.{Core, Vectors}
use Rattle.emu_machine.specs.Advances.{Advances}
use Rattle.emu_machine.specs.InTurns.{AdvancesInTurns, AreUsedUp, InTurn}
use Rattle.emu_machine.specs.declared.ends.Progress.{Progress}
use Rattle.emu_machine.specs.Machines.{MachineState}

-- a machine with the registers that it has
pub registers_same : (m : MachineState) (core : Core) (vectors : Vectors) → core ≡ m.parts.core → vectors ≡ m.parts.vectors → record m { parts = record m.parts { core = core; vectors = vectors } } ≡ m
registers_same m core vectors c v =
    ap (λ (x : Core). record m { parts = record m.parts { core = x; vectors = vectors } }) c ∙ ap (λ (x : Vectors). record m { parts = record m.parts { vectors = x } }) v

-- with no schedule no turn follows
module _ (numbers : List ℕ) (old : InTurn) where
  used_none : (n : ℕ) (at : InTurn) → AreUsedUp n [] numbers old at → at ≡ old
  used_none zero at same = same
  used_none (suc n) at (before, (so_far, u)) = let some = u.begins.some in absurd (omega (arith, some))

  pub alone : (new : InTurn) (r : Progress) → AdvancesInTurns [] numbers old new r → Advances old.turn.until old.machine new.machine r
  alone new r d = subst (λ (x : InTurn). Advances x.turn.until x.machine new.machine r) (used_none d.count d.at d.used) d.advances
