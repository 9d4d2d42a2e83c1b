-- What an A64 instruction leaves is sound.
use Rattle.a64_insn.specs.declared.form.A64Form.{A64Form}
use Rattle.emu_model.specs.Access.{Memory}
use Rattle.emu_model.specs.SoundDone.{IsSoundDone, well_sound, went_on_sound}
use Rattle.emu_model.specs.State.{Core, Vectors}
use Rattle.emu_model.specs.SoundState.{IsSoundCore, IsSoundVectors, IsSoundMemory}
use Rattle.a64_effects.specs.Effects.{performed, performed_by}
use Rattle.a64_effects.specs.Operations.{Operation, computes, flows, transfers, exchanges, copies, operation_of}
use Rattle.a64_effects.specs.SoundLoadStore.{transferred_by_sound, exchanged_by_sound}
use Rattle.a64_effects.specs.SoundOperations.{IsSoundOperation, operation_sound}

module _ (c : Core) (v : Vectors) (m : Memory) (s : IsSoundCore c) (u : IsSoundVectors v) (t : IsSoundMemory m) where
  by_operation_sound : (r : Operation) → IsSoundOperation r → IsSoundDone (performed_by r c v m)
  by_operation_sound (computes after) h = well_sound (after c) v m (h c s) u t
  by_operation_sound (flows after effect) h = record { core = (h c s).0; vectors = u; memory = t; effect = (h c s).1 }
  by_operation_sound (transfers row) h = transferred_by_sound c v m s u t (row c) (h c s)
  by_operation_sound (exchanges row) h = exchanged_by_sound c v m s u t (row c) (h c s)
  by_operation_sound (copies after) h = went_on_sound (after c v) m (h c v s u) t

pub performed_sound : (form : A64Form) (c : Core) (v : Vectors) (m : Memory) → IsSoundCore c → IsSoundVectors v → IsSoundMemory m → IsSoundDone (performed form c v m)
performed_sound form c v m s u t = by_operation_sound c v m s u t (operation_of form) (operation_sound form)
