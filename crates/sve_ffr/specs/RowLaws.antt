-- The rows say what their forms mean.
use Rattle.std.specs.Prelude.{◌≡◌, ◌/◌, true, false}
use Rattle.std.proofs.Common.{refl}
use Rattle.std.proofs.lemmas.Bool.{both_ways}
use Rattle.sve_insn.specs.declared.form.SveForm.{SveForm}
use Rattle.sve_insn.specs.declared.form.SveForm.TheVariants.{LoadFf, LoadNf, GatherSx, GatherSxScaled, GatherDx, GatherDxScaled, GatherD, GatherDScaled, GatherSv, GatherDv}
use Rattle.emu_model.specs.State.{Core, Vectors}
use Rattle.sve_effects.specs.Effects.{layout, is_first_fault}
use Rattle.sve_ffr.specs.Rows.{first_fault_load_of}

pub row_registers : (form : SveForm) (c : Core) (v : Vectors) → is_first_fault form ≡ true → (layout form c v).registers ≡ 1
row_registers (LoadFf dtype rm pg rn zt) c v h = refl
row_registers (LoadNf dtype imm4 pg rn zt) c v h = refl
row_registers (GatherSx msz xs zm u ff pg rn zt) c v h = refl
row_registers (GatherSxScaled msz xs zm u ff pg rn zt) c v h = refl
row_registers (GatherDx msz xs zm u ff pg rn zt) c v h = refl
row_registers (GatherDxScaled msz xs zm u ff pg rn zt) c v h = refl
row_registers (GatherD msz zm u ff pg rn zt) c v h = refl
row_registers (GatherDScaled msz zm u ff pg rn zt) c v h = refl
row_registers (GatherSv msz imm5 u ff pg zn zt) c v h = refl
row_registers (GatherDv msz imm5 u ff pg zn zt) c v h = refl
row_registers form c v h = absurd (both_ways false refl h)

pub row_lanes : (form : SveForm) (c : Core) (v : Vectors) → is_first_fault form ≡ true → (layout form c v).lanes ≡ v.bits / (first_fault_load_of form).bits
row_lanes (LoadFf dtype rm pg rn zt) c v h = refl
row_lanes (LoadNf dtype imm4 pg rn zt) c v h = refl
row_lanes (GatherSx msz xs zm u ff pg rn zt) c v h = refl
row_lanes (GatherSxScaled msz xs zm u ff pg rn zt) c v h = refl
row_lanes (GatherDx msz xs zm u ff pg rn zt) c v h = refl
row_lanes (GatherDxScaled msz xs zm u ff pg rn zt) c v h = refl
row_lanes (GatherD msz zm u ff pg rn zt) c v h = refl
row_lanes (GatherDScaled msz zm u ff pg rn zt) c v h = refl
row_lanes (GatherSv msz imm5 u ff pg zn zt) c v h = refl
row_lanes (GatherDv msz imm5 u ff pg zn zt) c v h = refl
row_lanes form c v h = absurd (both_ways false refl h)
