-- Names for parts of what a first-faulting or non-faulting load leaves.
use Rattle.std.specs.Prelude.{ℕ, ◌/◌, Bool, false, List, if◌then◌else◌}
use Rattle.emu_model.specs.declared.trap.Effect.TheVariants.{Next}
use Rattle.emu_model.specs.Access.{Memory}
use Rattle.emu_model.specs.Done.{Done}
use Rattle.emu_model.specs.Elements.{Element, accesses_of}
use Rattle.emu_model.specs.State.{Core, Vectors}
use Rattle.emu_model.specs.Lanes.{with_ffr, with_lanes}
use Rattle.sve_effects.specs.FirstFault.{cleared_from, element_at, first_cleared, first_suppressed, is_before, loaded_from, unsuppressed}

-- lane k of the result, by the new FFR: 0 from the first lane on whose bit is 0
abbrev pub first_fault_lane : Bool → ℕ → Memory → List Element → List Bool → ℕ → ℕ → ℕ
first_fault_lane is_signed e m es ffr n k =
    if is_before (first_cleared e ffr n) k then loaded_from is_signed e m (element_at es k) else 0

-- the result in register zt, and the new FFR
abbrev pub with_first_fault : Bool → ℕ → ℕ → Memory → List Element → List Bool → Vectors → Vectors
with_first_fault is_signed e zt m es ffr v =
    with_ffr (with_lanes e (first_fault_lane is_signed e m es ffr (v.bits / e)) zt v) ffr

-- the load of these elements into lanes of e bits of register zt
abbrev pub first_fault_loaded : Bool → ℕ → ℕ → List Element → Core → Vectors → Memory → Done
first_fault_loaded is_signed e zt es c v m = record {
  core = c;
  vectors = with_first_fault is_signed e zt m es (cleared_from e (first_suppressed m es) v.ffr) v;
  memory = m;
  accesses = accesses_of false (unsuppressed m es);
  effect = Next;
}
