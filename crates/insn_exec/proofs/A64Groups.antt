-- What an A64 row does, where its group is known.
use Rattle.std.proofs.Common.{◌≡◌, refl}
use Rattle.a64_insn.specs.declared.form.A64Form.{A64Form}
use Rattle.emu_model.specs.Access.{Memory}
use Rattle.emu_model.specs.Done.{went_on_with, went_well}
use Rattle.emu_model.specs.State.{Core, Vectors}
use Rattle.a64_effects.specs.declared.groups.Group.TheVariants.{Data, BitMoves}
use Rattle.a64_effects.specs.Effects.{performed, performed_by}
use Rattle.a64_effects.specs.Groups.{bit_move, computed, copied_by, group, group_of, after_data}
use Rattle.a64_effects.specs.Operations.{Operation, computes, flows, transfers, exchanges, copies, operation_of}

module _ (c : Core) (v : Vectors) (m : Memory) where
  data_operation_done : (r : Operation) → group r ≡ Data → performed_by r c v m ≡ went_well (computed r c) v m
  data_operation_done (computes after) e = refl
  data_operation_done (flows after effect) e = absurd (cc)
  data_operation_done (transfers row) e = absurd (cc)
  data_operation_done (exchanges row) e = absurd (cc)
  data_operation_done (copies after) e = absurd (cc)

  bit_move_operation_done : (r : Operation) → group r ≡ BitMoves → performed_by r c v m ≡ went_on_with (copied_by r c v) m
  bit_move_operation_done (computes after) e = absurd (cc)
  bit_move_operation_done (flows after effect) e = absurd (cc)
  bit_move_operation_done (transfers row) e = absurd (cc)
  bit_move_operation_done (exchanges row) e = absurd (cc)
  bit_move_operation_done (copies after) e = refl

pub scalar_done : (form : A64Form) (c : Core) (v : Vectors) (m : Memory) → group_of form ≡ Data → performed form c v m ≡ went_well (after_data form c) v m
scalar_done form c v m e = data_operation_done c v m (operation_of form) e

pub bit_move_done : (form : A64Form) (c : Core) (v : Vectors) (m : Memory) → group_of form ≡ BitMoves → performed form c v m ≡ went_on_with (bit_move form c v) m
bit_move_done form c v m e = bit_move_operation_done c v m (operation_of form) e
