-- The first-faulting and non-faulting loads that aren't contiguous are gathers.
use Rattle.std.specs.Prelude.{◌≡◌, true, false}
use Rattle.std.proofs.Common.{refl}
use Rattle.std.proofs.lemmas.Bool.{both_ways}
use Rattle.sve_insn.specs.declared.form.SveForm.{SveForm}
use Rattle.sve_insn.specs.declared.form.SveForm.TheVariants.{LoadFf, LoadNf, GatherSx, GatherSxScaled, GatherDx, GatherDxScaled, GatherD, GatherDScaled, GatherSv, GatherDv}
use Rattle.sve_effects.specs.Effects.{is_first_fault}
use Rattle.sve_loads.specs.Plans.{is_first_contiguous}
use Rattle.sve_gather.specs.Plans.{is_first_gather}

pub others_are_gathered : (form : SveForm) → is_first_fault form ≡ true → is_first_contiguous form ≡ false → is_first_gather form ≡ true
others_are_gathered (LoadFf dtype rm pg rn zt) h k = let e : true ≡ false = k in cc
others_are_gathered (LoadNf dtype imm4 pg rn zt) h k = let e : true ≡ false = k in cc
others_are_gathered (GatherSx msz xs zm u true pg rn zt) h k = refl
others_are_gathered (GatherSx msz xs zm u false pg rn zt) h k = absurd (both_ways false refl h)
others_are_gathered (GatherSxScaled msz xs zm u true pg rn zt) h k = refl
others_are_gathered (GatherSxScaled msz xs zm u false pg rn zt) h k = absurd (both_ways false refl h)
others_are_gathered (GatherDx msz xs zm u true pg rn zt) h k = refl
others_are_gathered (GatherDx msz xs zm u false pg rn zt) h k = absurd (both_ways false refl h)
others_are_gathered (GatherDxScaled msz xs zm u true pg rn zt) h k = refl
others_are_gathered (GatherDxScaled msz xs zm u false pg rn zt) h k = absurd (both_ways false refl h)
others_are_gathered (GatherD msz zm u true pg rn zt) h k = refl
others_are_gathered (GatherD msz zm u false pg rn zt) h k = absurd (both_ways false refl h)
others_are_gathered (GatherDScaled msz zm u true pg rn zt) h k = refl
others_are_gathered (GatherDScaled msz zm u false pg rn zt) h k = absurd (both_ways false refl h)
others_are_gathered (GatherSv msz imm5 u true pg zn zt) h k = refl
others_are_gathered (GatherSv msz imm5 u false pg zn zt) h k = absurd (both_ways false refl h)
others_are_gathered (GatherDv msz imm5 u true pg zn zt) h k = refl
others_are_gathered (GatherDv msz imm5 u false pg zn zt) h k = absurd (both_ways false refl h)
others_are_gathered form h k = absurd (both_ways false refl h)
