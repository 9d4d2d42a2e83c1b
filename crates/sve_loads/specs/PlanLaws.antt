-- The plan of a row has its meaning.
use Rattle.std.specs.Prelude.{◌≡◌, Bool, true, false}
use Rattle.std.proofs.Common.{refl}
use Rattle.std.proofs.lemmas.Bool.{both_ways}
use Rattle.sve_insn.specs.declared.form.SveForm.{SveForm}
use Rattle.sve_insn.specs.declared.form.SveForm.TheVariants.{GatherSx, GatherSxScaled, GatherDx, GatherDxScaled, GatherD, GatherDScaled, GatherSv, GatherDv, LoadImm, LoadReg, LoadFf, LoadNf, LoadNtImm, LoadNtReg, LoadQuadImm, LoadQuadReg, LoadManyImm, LoadManyReg, LoadOne, LoadZ, LoadP, StoreImm, StoreReg, StoreNtImm, StoreNtReg, StoreManyImm, StoreManyReg, StoreZ, StoreP}
use Rattle.emu_model.specs.Access.{Memory}
use Rattle.emu_model.specs.State.{Core, Vectors}
use Rattle.sve_effects.specs.declared.groups.Group.TheVariants.{Loads, Stores}
use Rattle.sve_effects.specs.Effects.{by_fault, same_group}
use Rattle.sve_effects.specs.Effects.{layout, vector_load, vector_store, loads_signed, is_contiguous_load, is_contiguous_store, first_fault, is_non_fault}
use Rattle.element_loops.specs.Layouts.{layout_of}
use Rattle.element_loops.specs.Planned.{load_by, store_by}
use Rattle.sve_gather.specs.FirstFaultPlan.{first_fault_by}
use Rattle.sve_loads.specs.Plans.{load_plan, store_plan, first_plan, is_first_contiguous}

-- gathers aren't contiguous loads
no_load : (ff : Bool) → same_group Loads (by_fault ff) ≡ false
no_load true = refl
no_load false = refl

-- gathers aren't contiguous stores
no_store : (ff : Bool) → same_group Stores (by_fault ff) ≡ false
no_store true = refl
no_store false = refl

pub load_planned : (form : SveForm) (c : Core) (v : Vectors) (m : Memory) → is_contiguous_load form ≡ true → load_by (load_plan form c v) c v m ≡ vector_load form c v m
load_planned (LoadImm dtype imm4 pg rn zt) c v m h = refl
load_planned (LoadReg dtype rm pg rn zt) c v m h = refl
load_planned (LoadNtImm msz imm4 pg rn zt) c v m h = refl
load_planned (LoadNtReg msz rm pg rn zt) c v m h = refl
load_planned (LoadQuadImm msz imm4 pg rn zt) c v m h = refl
load_planned (LoadQuadReg msz rm pg rn zt) c v m h = refl
load_planned (LoadManyImm op msz imm4 pg rn zt) c v m h = refl
load_planned (LoadManyReg op msz rm pg rn zt) c v m h = refl
load_planned (LoadOne dtypeh imm6 dtypel pg rn zt) c v m h = refl
load_planned (LoadZ imm9h imm9l rn zt) c v m h = refl
load_planned (LoadP imm9h imm9l rn pt) c v m h = refl
load_planned (GatherSx msz xs zm u ff pg rn zt) c v m h = absurd (both_ways (same_group Loads (by_fault ff)) (no_load ff) h)
load_planned (GatherSxScaled msz xs zm u ff pg rn zt) c v m h = absurd (both_ways (same_group Loads (by_fault ff)) (no_load ff) h)
load_planned (GatherDx msz xs zm u ff pg rn zt) c v m h = absurd (both_ways (same_group Loads (by_fault ff)) (no_load ff) h)
load_planned (GatherDxScaled msz xs zm u ff pg rn zt) c v m h = absurd (both_ways (same_group Loads (by_fault ff)) (no_load ff) h)
load_planned (GatherD msz zm u ff pg rn zt) c v m h = absurd (both_ways (same_group Loads (by_fault ff)) (no_load ff) h)
load_planned (GatherDScaled msz zm u ff pg rn zt) c v m h = absurd (both_ways (same_group Loads (by_fault ff)) (no_load ff) h)
load_planned (GatherSv msz imm5 u ff pg zn zt) c v m h = absurd (both_ways (same_group Loads (by_fault ff)) (no_load ff) h)
load_planned (GatherDv msz imm5 u ff pg zn zt) c v m h = absurd (both_ways (same_group Loads (by_fault ff)) (no_load ff) h)
load_planned form c v m h = absurd (both_ways false refl h)

pub store_planned : (form : SveForm) (c : Core) (v : Vectors) (m : Memory) → is_contiguous_store form ≡ true → store_by (store_plan form c v) c v m ≡ vector_store form c v m
store_planned (StoreImm msz size imm4 pg rn zt) c v m h = refl
store_planned (StoreReg msz size rm pg rn zt) c v m h = refl
store_planned (StoreNtImm msz imm4 pg rn zt) c v m h = refl
store_planned (StoreNtReg msz rm pg rn zt) c v m h = refl
store_planned (StoreManyImm op msz imm4 pg rn zt) c v m h = refl
store_planned (StoreManyReg op msz rm pg rn zt) c v m h = refl
store_planned (StoreZ imm9h imm9l rn zt) c v m h = refl
store_planned (StoreP imm9h imm9l rn pt) c v m h = refl
store_planned (GatherSx msz xs zm u ff pg rn zt) c v m h = absurd (both_ways (same_group Stores (by_fault ff)) (no_store ff) h)
store_planned (GatherSxScaled msz xs zm u ff pg rn zt) c v m h = absurd (both_ways (same_group Stores (by_fault ff)) (no_store ff) h)
store_planned (GatherDx msz xs zm u ff pg rn zt) c v m h = absurd (both_ways (same_group Stores (by_fault ff)) (no_store ff) h)
store_planned (GatherDxScaled msz xs zm u ff pg rn zt) c v m h = absurd (both_ways (same_group Stores (by_fault ff)) (no_store ff) h)
store_planned (GatherD msz zm u ff pg rn zt) c v m h = absurd (both_ways (same_group Stores (by_fault ff)) (no_store ff) h)
store_planned (GatherDScaled msz zm u ff pg rn zt) c v m h = absurd (both_ways (same_group Stores (by_fault ff)) (no_store ff) h)
store_planned (GatherSv msz imm5 u ff pg zn zt) c v m h = absurd (both_ways (same_group Stores (by_fault ff)) (no_store ff) h)
store_planned (GatherDv msz imm5 u ff pg zn zt) c v m h = absurd (both_ways (same_group Stores (by_fault ff)) (no_store ff) h)
store_planned form c v m h = absurd (both_ways false refl h)

-- the plan of a contiguous first-faulting or non-faulting load has its elements
pub first_planned : (form : SveForm) (c : Core) (v : Vectors) → is_first_contiguous form ≡ true → layout_of (first_plan form c v) v ≡ layout form c v
first_planned (LoadFf dtype rm pg rn zt) c v h = refl
first_planned (LoadNf dtype imm4 pg rn zt) c v h = refl
first_planned form c v h = absurd (both_ways false refl h)

pub first_signed : (form : SveForm) (c : Core) (v : Vectors) → is_first_contiguous form ≡ true → (first_plan form c v).is_signed ≡ loads_signed form
first_signed (LoadFf dtype rm pg rn zt) c v h = refl
first_signed (LoadNf dtype imm4 pg rn zt) c v h = refl
first_signed form c v h = absurd (both_ways false refl h)

pub first_bytes : (form : SveForm) (c : Core) (v : Vectors) → is_first_contiguous form ≡ true → (first_plan form c v).bytes ≡ (layout form c v).bytes
first_bytes (LoadFf dtype rm pg rn zt) c v h = refl
first_bytes (LoadNf dtype imm4 pg rn zt) c v h = refl
first_bytes form c v h = absurd (both_ways false refl h)

-- and its load
pub first_loaded : (form : SveForm) (c : Core) (v : Vectors) (m : Memory) → is_first_contiguous form ≡ true → first_fault_by (is_non_fault form) (first_plan form c v) c v m ≡ first_fault form c v m
first_loaded (LoadFf dtype rm pg rn zt) c v m h = refl
first_loaded (LoadNf dtype imm4 pg rn zt) c v m h = refl
first_loaded form c v m h = absurd (both_ways false refl h)
