-- What the rows of first-faulting and non-faulting loads say of their loads.
use Rattle.std.specs.Prelude.{Bool, None, if◌then◌else◌, List}
use Rattle.sve_insn.specs.declared.form.SveForm.{SveForm}
use Rattle.emu_model.specs.Access.{Memory}
use Rattle.emu_model.specs.Done.{Done}
use Rattle.emu_model.specs.Elements.{Element}
use Rattle.emu_model.specs.State.{Core, Vectors}
use Rattle.sve_effects.specs.Effects.{is_non_fault, memory_row}
use Rattle.sve_effects.specs.FirstFault.{first_refused, loaded_unless}
use Rattle.sve_effects.specs.FirstFaultParts.{first_fault_loaded}
use Rattle.sve_effects.specs.VectorElements.{MemoryRow}
use Rattle.sve_effects.specs.VectorLoadStore.{has_sp_base, unless_misaligned}
use Rattle.sve_ffr.specs.declared.first_fault_load.FirstFaultLoad.{FirstFaultLoad}

abbrev pub first_fault_load_of : SveForm → FirstFaultLoad
first_fault_load_of form =
    let r : MemoryRow = memory_row form in
    record { bits = r.width.bits; bytes = r.width.bytes; register = r.first; has_sp_base = has_sp_base r.brackets; is_non_fault = is_non_fault form }

-- the load of some elements by a row
abbrev pub first_fault_by : FirstFaultLoad → Bool → List Element → Core → Vectors → Memory → Done
first_fault_by r is_signed es c v m =
    unless_misaligned r.has_sp_base es c v m
    (loaded_unless (if r.is_non_fault then None else first_refused m es) (first_fault_loaded is_signed r.bits r.register es c v m) c v m)
