-- The plan of a gather or a scatter has its meaning.
use Rattle.std.specs.Prelude.{◌≡◌, Bool, true, false}
use Rattle.std.proofs.Common.{refl}
use Rattle.std.proofs.lemmas.Bool.{both_ways}
use Rattle.sve_insn.specs.declared.form.SveForm.{SveForm}
use Rattle.sve_insn.specs.declared.form.SveForm.TheVariants.{GatherSx, GatherSxScaled, GatherDx, GatherDxScaled, GatherD, GatherDScaled, GatherSv, GatherDv, ScatterSx, ScatterSxScaled, ScatterDx, ScatterDxScaled, ScatterD, ScatterDScaled, ScatterSv, ScatterDv}
use Rattle.emu_model.specs.Access.{Memory}
use Rattle.emu_model.specs.State.{Core, Vectors}
use Rattle.sve_effects.specs.declared.groups.Group.TheVariants.{Scatters}
use Rattle.sve_effects.specs.Effects.{by_fault, same_group}
use Rattle.sve_effects.specs.Effects.{layout, vector_load, vector_store, is_gather, is_scatter, loads_signed, first_fault, is_non_fault}
use Rattle.element_loops.specs.Layouts.{layout_of}
use Rattle.element_loops.specs.Planned.{load_by, store_by}
use Rattle.sve_gather.specs.FirstFaultPlan.{first_fault_by}
use Rattle.sve_gather.specs.Plans.{plan_of, is_first_gather, has_gather_plan}

pub gather_planned : (form : SveForm) (c : Core) (v : Vectors) (m : Memory) → is_gather form ≡ true → load_by (plan_of form c v) c v m ≡ vector_load form c v m
gather_planned (GatherSx msz xs zm u ff pg rn zt) c v m h = refl
gather_planned (GatherSxScaled msz xs zm u ff pg rn zt) c v m h = refl
gather_planned (GatherDx msz xs zm u ff pg rn zt) c v m h = refl
gather_planned (GatherDxScaled msz xs zm u ff pg rn zt) c v m h = refl
gather_planned (GatherD msz zm u ff pg rn zt) c v m h = refl
gather_planned (GatherDScaled msz zm u ff pg rn zt) c v m h = refl
gather_planned (GatherSv msz imm5 u ff pg zn zt) c v m h = refl
gather_planned (GatherDv msz imm5 u ff pg zn zt) c v m h = refl
gather_planned form c v m h = absurd (both_ways false refl h)

-- gathers aren't scatters
no_scatter : (ff : Bool) → same_group Scatters (by_fault ff) ≡ false
no_scatter true = refl
no_scatter false = refl

pub scatter_planned : (form : SveForm) (c : Core) (v : Vectors) (m : Memory) → is_scatter form ≡ true → store_by (plan_of form c v) c v m ≡ vector_store form c v m
scatter_planned (ScatterSx msz zm xs pg rn zt) c v m h = refl
scatter_planned (ScatterSxScaled msz zm xs pg rn zt) c v m h = refl
scatter_planned (ScatterDx msz zm xs pg rn zt) c v m h = refl
scatter_planned (ScatterDxScaled msz zm xs pg rn zt) c v m h = refl
scatter_planned (ScatterD msz zm pg rn zt) c v m h = refl
scatter_planned (ScatterDScaled msz zm pg rn zt) c v m h = refl
scatter_planned (ScatterSv msz imm5 pg zn zt) c v m h = refl
scatter_planned (ScatterDv msz imm5 pg zn zt) c v m h = refl
scatter_planned (GatherSx msz xs zm u ff pg rn zt) c v m h = absurd (both_ways (same_group Scatters (by_fault ff)) (no_scatter ff) h)
scatter_planned (GatherSxScaled msz xs zm u ff pg rn zt) c v m h = absurd (both_ways (same_group Scatters (by_fault ff)) (no_scatter ff) h)
scatter_planned (GatherDx msz xs zm u ff pg rn zt) c v m h = absurd (both_ways (same_group Scatters (by_fault ff)) (no_scatter ff) h)
scatter_planned (GatherDxScaled msz xs zm u ff pg rn zt) c v m h = absurd (both_ways (same_group Scatters (by_fault ff)) (no_scatter ff) h)
scatter_planned (GatherD msz zm u ff pg rn zt) c v m h = absurd (both_ways (same_group Scatters (by_fault ff)) (no_scatter ff) h)
scatter_planned (GatherDScaled msz zm u ff pg rn zt) c v m h = absurd (both_ways (same_group Scatters (by_fault ff)) (no_scatter ff) h)
scatter_planned (GatherSv msz imm5 u ff pg zn zt) c v m h = absurd (both_ways (same_group Scatters (by_fault ff)) (no_scatter ff) h)
scatter_planned (GatherDv msz imm5 u ff pg zn zt) c v m h = absurd (both_ways (same_group Scatters (by_fault ff)) (no_scatter ff) h)
scatter_planned form c v m h = absurd (both_ways false refl h)

-- gathers, first-faulting ones and scatters are gathers or scatters
pub gathers : (form : SveForm) → is_gather form ≡ true → has_gather_plan form ≡ true
gathers (GatherSx msz xs zm u ff pg rn zt) h = refl
gathers (GatherSxScaled msz xs zm u ff pg rn zt) h = refl
gathers (GatherDx msz xs zm u ff pg rn zt) h = refl
gathers (GatherDxScaled msz xs zm u ff pg rn zt) h = refl
gathers (GatherD msz zm u ff pg rn zt) h = refl
gathers (GatherDScaled msz zm u ff pg rn zt) h = refl
gathers (GatherSv msz imm5 u ff pg zn zt) h = refl
gathers (GatherDv msz imm5 u ff pg zn zt) h = refl
gathers form h = absurd (both_ways false refl h)

pub scatters : (form : SveForm) → is_scatter form ≡ true → has_gather_plan form ≡ true
scatters (ScatterSx msz zm xs pg rn zt) h = refl
scatters (ScatterSxScaled msz zm xs pg rn zt) h = refl
scatters (ScatterDx msz zm xs pg rn zt) h = refl
scatters (ScatterDxScaled msz zm xs pg rn zt) h = refl
scatters (ScatterD msz zm pg rn zt) h = refl
scatters (ScatterDScaled msz zm pg rn zt) h = refl
scatters (ScatterSv msz imm5 pg zn zt) h = refl
scatters (ScatterDv msz imm5 pg zn zt) h = refl
scatters (GatherSx msz xs zm u ff pg rn zt) h = absurd (both_ways (same_group Scatters (by_fault ff)) (no_scatter ff) h)
scatters (GatherSxScaled msz xs zm u ff pg rn zt) h = absurd (both_ways (same_group Scatters (by_fault ff)) (no_scatter ff) h)
scatters (GatherDx msz xs zm u ff pg rn zt) h = absurd (both_ways (same_group Scatters (by_fault ff)) (no_scatter ff) h)
scatters (GatherDxScaled msz xs zm u ff pg rn zt) h = absurd (both_ways (same_group Scatters (by_fault ff)) (no_scatter ff) h)
scatters (GatherD msz zm u ff pg rn zt) h = absurd (both_ways (same_group Scatters (by_fault ff)) (no_scatter ff) h)
scatters (GatherDScaled msz zm u ff pg rn zt) h = absurd (both_ways (same_group Scatters (by_fault ff)) (no_scatter ff) h)
scatters (GatherSv msz imm5 u ff pg zn zt) h = absurd (both_ways (same_group Scatters (by_fault ff)) (no_scatter ff) h)
scatters (GatherDv msz imm5 u ff pg zn zt) h = absurd (both_ways (same_group Scatters (by_fault ff)) (no_scatter ff) h)
scatters form h = absurd (both_ways false refl h)

pub first_gathers : (form : SveForm) → is_first_gather form ≡ true → has_gather_plan form ≡ true
first_gathers (GatherSx msz xs zm u ff pg rn zt) h = refl
first_gathers (GatherSxScaled msz xs zm u ff pg rn zt) h = refl
first_gathers (GatherDx msz xs zm u ff pg rn zt) h = refl
first_gathers (GatherDxScaled msz xs zm u ff pg rn zt) h = refl
first_gathers (GatherD msz zm u ff pg rn zt) h = refl
first_gathers (GatherDScaled msz zm u ff pg rn zt) h = refl
first_gathers (GatherSv msz imm5 u ff pg zn zt) h = refl
first_gathers (GatherDv msz imm5 u ff pg zn zt) h = refl
first_gathers form h = absurd (both_ways false refl h)

-- the elements of a first-faulting gather
pub first_planned : (form : SveForm) (c : Core) (v : Vectors) → is_first_gather form ≡ true → layout_of (plan_of form c v) v ≡ layout form c v
first_planned (GatherSx msz xs zm u ff pg rn zt) c v h = refl
first_planned (GatherSxScaled msz xs zm u ff pg rn zt) c v h = refl
first_planned (GatherDx msz xs zm u ff pg rn zt) c v h = refl
first_planned (GatherDxScaled msz xs zm u ff pg rn zt) c v h = refl
first_planned (GatherD msz zm u ff pg rn zt) c v h = refl
first_planned (GatherDScaled msz zm u ff pg rn zt) c v h = refl
first_planned (GatherSv msz imm5 u ff pg zn zt) c v h = refl
first_planned (GatherDv msz imm5 u ff pg zn zt) c v h = refl
first_planned form c v h = absurd (both_ways false refl h)

pub first_signed : (form : SveForm) (c : Core) (v : Vectors) → is_first_gather form ≡ true → (plan_of form c v).is_signed ≡ loads_signed form
first_signed (GatherSx msz xs zm u ff pg rn zt) c v h = refl
first_signed (GatherSxScaled msz xs zm u ff pg rn zt) c v h = refl
first_signed (GatherDx msz xs zm u ff pg rn zt) c v h = refl
first_signed (GatherDxScaled msz xs zm u ff pg rn zt) c v h = refl
first_signed (GatherD msz zm u ff pg rn zt) c v h = refl
first_signed (GatherDScaled msz zm u ff pg rn zt) c v h = refl
first_signed (GatherSv msz imm5 u ff pg zn zt) c v h = refl
first_signed (GatherDv msz imm5 u ff pg zn zt) c v h = refl
first_signed form c v h = absurd (both_ways false refl h)

pub first_bytes : (form : SveForm) (c : Core) (v : Vectors) → is_first_gather form ≡ true → (plan_of form c v).bytes ≡ (layout form c v).bytes
first_bytes (GatherSx msz xs zm u ff pg rn zt) c v h = refl
first_bytes (GatherSxScaled msz xs zm u ff pg rn zt) c v h = refl
first_bytes (GatherDx msz xs zm u ff pg rn zt) c v h = refl
first_bytes (GatherDxScaled msz xs zm u ff pg rn zt) c v h = refl
first_bytes (GatherD msz zm u ff pg rn zt) c v h = refl
first_bytes (GatherDScaled msz zm u ff pg rn zt) c v h = refl
first_bytes (GatherSv msz imm5 u ff pg zn zt) c v h = refl
first_bytes (GatherDv msz imm5 u ff pg zn zt) c v h = refl
first_bytes form c v h = absurd (both_ways false refl h)

pub first_single : (form : SveForm) (c : Core) (v : Vectors) → is_first_gather form ≡ true → (plan_of form c v).registers ≡ 1
first_single (GatherSx msz xs zm u ff pg rn zt) c v h = refl
first_single (GatherSxScaled msz xs zm u ff pg rn zt) c v h = refl
first_single (GatherDx msz xs zm u ff pg rn zt) c v h = refl
first_single (GatherDxScaled msz xs zm u ff pg rn zt) c v h = refl
first_single (GatherD msz zm u ff pg rn zt) c v h = refl
first_single (GatherDScaled msz zm u ff pg rn zt) c v h = refl
first_single (GatherSv msz imm5 u ff pg zn zt) c v h = refl
first_single (GatherDv msz imm5 u ff pg zn zt) c v h = refl
first_single form c v h = absurd (both_ways false refl h)

-- and its load
pub first_loaded : (form : SveForm) (c : Core) (v : Vectors) (m : Memory) → is_first_gather form ≡ true → first_fault_by (is_non_fault form) (plan_of form c v) c v m ≡ first_fault form c v m
first_loaded (GatherSx msz xs zm u ff pg rn zt) c v m h = refl
first_loaded (GatherSxScaled msz xs zm u ff pg rn zt) c v m h = refl
first_loaded (GatherDx msz xs zm u ff pg rn zt) c v m h = refl
first_loaded (GatherDxScaled msz xs zm u ff pg rn zt) c v m h = refl
first_loaded (GatherD msz zm u ff pg rn zt) c v m h = refl
first_loaded (GatherDScaled msz zm u ff pg rn zt) c v m h = refl
first_loaded (GatherSv msz imm5 u ff pg zn zt) c v m h = refl
first_loaded (GatherDv msz imm5 u ff pg zn zt) c v m h = refl
first_loaded form c v m h = absurd (both_ways false refl h)
