-- What an SVE instruction leaves is sound.
use Rattle.std.specs.Prelude.{true, false}
use Rattle.sve_insn.specs.declared.form.SveForm.{SveForm}
use Rattle.emu_model.specs.Access.{Memory}
use Rattle.emu_model.specs.Done.{leaves}
use Rattle.emu_model.specs.SoundDone.{IsSoundDone, IsSoundRegisters, went_on_sound}
use Rattle.emu_model.specs.State.{Core, Vectors}
use Rattle.emu_model.specs.SoundState.{IsSoundCore, IsSoundVectors, IsSoundMemory}
use Rattle.sve_effects.specs.Rows.{performed}
use Rattle.sve_effects.specs.VectorRow.{VectorRow, by_lanes, by_registers, memory, done_by_way, performed_by}
use Rattle.sve_effects.specs.Effects.{registers_after}
use Rattle.sve_effects.specs.Rows.{row}
use Rattle.sve_effects.specs.SoundRows.{registers_sound}
use Rattle.sve_effects.specs.SoundVectorMemory.{load_row_sound, store_row_sound, first_fault_row_sound}
use Rattle.sve_effects.specs.VectorElements.{MemoryRow, Way, loads, stores, first_faults, non_faults, elements_of, row_layout}

module _ (c : Core) (v : Vectors) (m : Memory) (s : IsSoundCore c) (u : IsSoundVectors v) (t : IsSoundMemory m) where
  way_sound : (way : Way) (r : MemoryRow) → IsSoundDone (done_by_way way r c v m)
  way_sound loads r = load_row_sound c v m s u t r
  way_sound stores r = store_row_sound c v m s u t r
  way_sound first_faults r = first_fault_row_sound c v m s u t false r (elements_of (row_layout r c v))
  way_sound non_faults r = first_fault_row_sound c v m s u t true r (elements_of (row_layout r c v))

  row_sound : (r : VectorRow) → IsSoundRegisters (registers_after r c v) → IsSoundDone (performed_by r c v m)
  row_sound (by_lanes f) h = went_on_sound (leaves c (f c v)) m h t
  row_sound (by_registers f) h = went_on_sound (f c v) m h t
  row_sound (memory r) h = way_sound r.way r

pub performed_sound : (form : SveForm) (c : Core) (v : Vectors) (m : Memory) → IsSoundCore c → IsSoundVectors v → IsSoundMemory m → IsSoundDone (performed form c v m)
performed_sound form c v m s u t = row_sound c v m s u t (row form) (registers_sound c v s u form)
