-- A first-faulting or non-faulting load of a plan.
use Rattle.std.specs.Prelude.{Bool, None, if◌then◌else◌}
use Rattle.emu_model.specs.Access.{Memory}
use Rattle.emu_model.specs.Done.{Done}
use Rattle.emu_model.specs.State.{Core, Vectors}
use Rattle.sve_effects.specs.FirstFault.{first_refused, loaded_unless}
use Rattle.sve_effects.specs.FirstFaultParts.{first_fault_loaded}
use Rattle.sve_effects.specs.VectorElements.{elements_of}
use Rattle.sve_effects.specs.VectorLoadStore.{unless_misaligned}
use Rattle.element_loops.specs.declared.plan.Plan.{Plan}
use Rattle.element_loops.specs.Layouts.{layout_of}

abbrev pub first_fault_by : Bool → Plan → Core → Vectors → Memory → Done
first_fault_by is_non_fault p c v m =
    unless_misaligned p.has_sp_base (elements_of (layout_of p v)) c v m
    (loaded_unless (if is_non_fault then None else first_refused m (elements_of (layout_of p v))) (first_fault_loaded p.is_signed p.bits p.register (elements_of (layout_of p v)) c v m) c v m)
