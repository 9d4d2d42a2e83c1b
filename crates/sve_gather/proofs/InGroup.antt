-- What an SVE row does, where its group is known; and the rows of gathers and scatters.
use Rattle.std.proofs.Common.{◌≡◌, true, false, refl, ap, ◌∙◌}
use Rattle.sve_insn.specs.declared.form.SveForm.{SveForm}
use Rattle.sve_insn.specs.declared.form.SveForm.TheVariants.{Binary, BinaryWide, ShiftImm, Unary, MulAddZ, MulAddD, Plain, LogicZ, PlainWide, PlainShift, Index, Dot, DotIndexed, WideImm, MinMaxImm, DupImm, BitmaskZ, CopyImm, PrefixP, Prefix, SelectZ, Reduce, Count, IncX, IncZ, SatX, SatZ, AddLength, ReadLength, DupReg, DupLane, Insert, RevZ, Unpack, Table, Interleave, InterleaveP, UnpackP, RevP, Compact, Splice, Ext, CopyReg, Last, CondLast, CmpVec, CmpWide, CmpUImm, CmpSImm, LogicP, SelectP, Break, BreakPair, BreakNext, Ptest, First, Next, Ptrue, Pfalse, ReadFfr, ReadFfrAll, WriteFfr, CountP, IncP, IncPZ, While, Cterm, LoadImm, LoadReg, LoadFf, LoadNf, LoadNtImm, LoadNtReg, LoadQuadImm, LoadQuadReg, LoadManyImm, LoadManyReg, LoadOne, LoadZ, LoadP, StoreImm, StoreReg, StoreNtImm, StoreNtReg, StoreManyImm, StoreManyReg, StoreZ, StoreP, GatherSx, GatherSxScaled, GatherDx, GatherDxScaled, GatherD, GatherDScaled, GatherSv, GatherDv, ScatterSx, ScatterSxScaled, ScatterDx, ScatterDxScaled, ScatterD, ScatterDScaled, ScatterSv, ScatterDv}
use Rattle.emu_model.specs.Access.{Memory}
use Rattle.emu_model.specs.Done.{Done, went_on_with}
use Rattle.emu_model.specs.State.{Core, Vectors}
use Rattle.sve_effects.specs.declared.groups.Group.{Group}
use Rattle.sve_effects.specs.declared.groups.Group.TheVariants.{Lanes, Permutes, Counts, Folds, Predicates, Loads, Stores, Gathers, Scatters, FirstFaults}
use Rattle.sve_effects.specs.Effects.{group_of, after_data, vector_load, vector_store, first_fault, is_gather, is_scatter, same_group}
use Rattle.sve_effects.specs.Rows.{performed}

module _ (c : Core) (v : Vectors) (m : Memory) where
  -- what the instructions of a group do
  abbrev pub done_in : Group → SveForm → Done
  done_in Lanes form = went_on_with (after_data form c v) m
  done_in Permutes form = went_on_with (after_data form c v) m
  done_in Counts form = went_on_with (after_data form c v) m
  done_in Folds form = went_on_with (after_data form c v) m
  done_in Predicates form = went_on_with (after_data form c v) m
  done_in Loads form = vector_load form c v m
  done_in Stores form = vector_store form c v m
  done_in Gathers form = vector_load form c v m
  done_in Scatters form = vector_store form c v m
  done_in FirstFaults form = first_fault form c v m

  pub form_done : (form : SveForm) → performed form c v m ≡ done_in (group_of form) form
  form_done (Binary op size pg zm zdn) = refl
  form_done (BinaryWide op size pg zm zdn) = refl
  form_done (ShiftImm op tszh pg tszl imm3 zdn) = refl
  form_done (Unary op size pg zn zd) = refl
  form_done (MulAddZ op size zm pg zn zda) = refl
  form_done (MulAddD op size zm pg za zdn) = refl
  form_done (Plain op size zm zn zd) = refl
  form_done (LogicZ op zm zn zd) = refl
  form_done (PlainWide op size zm zn zd) = refl
  form_done (PlainShift op tszh tszl imm3 zn zd) = refl
  form_done (Index op size y x zd) = refl
  form_done (Dot op size zm zn zda) = refl
  form_done (DotIndexed op i_zm zn zda) = refl
  form_done (WideImm op size sh imm8 zdn) = refl
  form_done (MinMaxImm op size imm8 zdn) = refl
  form_done (DupImm size sh imm8 zd) = refl
  form_done (BitmaskZ op n immr imms zdn) = refl
  form_done (CopyImm size pg m sh imm8 zd) = refl
  form_done (PrefixP size m pg zn zd) = refl
  form_done (Prefix zn zd) = refl
  form_done (SelectZ size zm pg zn zd) = refl
  form_done (Reduce op size pg zn vd) = refl
  form_done (Count size imm4 pattern rd) = refl
  form_done (IncX op size imm4 pattern rdn) = refl
  form_done (IncZ op size imm4 pattern zdn) = refl
  form_done (SatX op size sf imm4 pattern rdn) = refl
  form_done (SatZ op size imm4 pattern zdn) = refl
  form_done (AddLength op rn imm6 rd) = refl
  form_done (ReadLength imm6 rd) = refl
  form_done (DupReg size rn zd) = refl
  form_done (DupLane imm2 tsz zn zd) = refl
  form_done (Insert op size src zdn) = refl
  form_done (RevZ size zn zd) = refl
  form_done (Unpack op size zn zd) = refl
  form_done (Table size zm zn zd) = refl
  form_done (Interleave op size zm zn zd) = refl
  form_done (InterleaveP op size pm pn pd) = refl
  form_done (UnpackP op pn pd) = refl
  form_done (RevP size pn pd) = refl
  form_done (Compact size pg zn zd) = refl
  form_done (Splice size pg zm zdn) = refl
  form_done (Ext imm8h imm8l zm zdn) = refl
  form_done (CopyReg op size pg rn zd) = refl
  form_done (Last op size pg zn rd) = refl
  form_done (CondLast op size pg zm zdn) = refl
  form_done (CmpVec op size zm pg zn pd) = refl
  form_done (CmpWide op size zm pg zn pd) = refl
  form_done (CmpUImm op size imm7 pg zn pd) = refl
  form_done (CmpSImm op size imm5 pg zn pd) = refl
  form_done (LogicP op s pm pg pn pd) = refl
  form_done (SelectP pm pg pn pd) = refl
  form_done (Break op s pg pn m pd) = refl
  form_done (BreakPair op s pm pg pn pd) = refl
  form_done (BreakNext s pg pn pdm) = refl
  form_done (Ptest pg pn) = refl
  form_done (First pg pdn) = refl
  form_done (Next size pg pdn) = refl
  form_done (Ptrue op size pattern pd) = refl
  form_done (Pfalse pd) = refl
  form_done (ReadFfr op pg pd) = refl
  form_done (ReadFfrAll pd) = refl
  form_done (WriteFfr op pn) = refl
  form_done (CountP size pg pn rd) = refl
  form_done (IncP op size pm rdn) = refl
  form_done (IncPZ op size pm zdn) = refl
  form_done (While op size rm sf rn pd) = refl
  form_done (Cterm op sf rm rn) = refl
  form_done (LoadImm dtype imm4 pg rn zt) = refl
  form_done (LoadReg dtype rm pg rn zt) = refl
  form_done (LoadFf dtype rm pg rn zt) = refl
  form_done (LoadNf dtype imm4 pg rn zt) = refl
  form_done (LoadNtImm msz imm4 pg rn zt) = refl
  form_done (LoadNtReg msz rm pg rn zt) = refl
  form_done (LoadQuadImm msz imm4 pg rn zt) = refl
  form_done (LoadQuadReg msz rm pg rn zt) = refl
  form_done (LoadManyImm op msz imm4 pg rn zt) = refl
  form_done (LoadManyReg op msz rm pg rn zt) = refl
  form_done (LoadOne dtypeh imm6 dtypel pg rn zt) = refl
  form_done (LoadZ imm9h imm9l rn zt) = refl
  form_done (LoadP imm9h imm9l rn pt) = refl
  form_done (StoreImm msz size imm4 pg rn zt) = refl
  form_done (StoreReg msz size rm pg rn zt) = refl
  form_done (StoreNtImm msz imm4 pg rn zt) = refl
  form_done (StoreNtReg msz rm pg rn zt) = refl
  form_done (StoreManyImm op msz imm4 pg rn zt) = refl
  form_done (StoreManyReg op msz rm pg rn zt) = refl
  form_done (StoreZ imm9h imm9l rn zt) = refl
  form_done (StoreP imm9h imm9l rn pt) = refl
  form_done (GatherSx msz xs zm u true pg rn zt) = refl
  form_done (GatherSx msz xs zm u false pg rn zt) = refl
  form_done (GatherSxScaled msz xs zm u true pg rn zt) = refl
  form_done (GatherSxScaled msz xs zm u false pg rn zt) = refl
  form_done (GatherDx msz xs zm u true pg rn zt) = refl
  form_done (GatherDx msz xs zm u false pg rn zt) = refl
  form_done (GatherDxScaled msz xs zm u true pg rn zt) = refl
  form_done (GatherDxScaled msz xs zm u false pg rn zt) = refl
  form_done (GatherD msz zm u true pg rn zt) = refl
  form_done (GatherD msz zm u false pg rn zt) = refl
  form_done (GatherDScaled msz zm u true pg rn zt) = refl
  form_done (GatherDScaled msz zm u false pg rn zt) = refl
  form_done (GatherSv msz imm5 u true pg zn zt) = refl
  form_done (GatherSv msz imm5 u false pg zn zt) = refl
  form_done (GatherDv msz imm5 u true pg zn zt) = refl
  form_done (GatherDv msz imm5 u false pg zn zt) = refl
  form_done (ScatterSx msz zm xs pg rn zt) = refl
  form_done (ScatterSxScaled msz zm xs pg rn zt) = refl
  form_done (ScatterDx msz zm xs pg rn zt) = refl
  form_done (ScatterDxScaled msz zm xs pg rn zt) = refl
  form_done (ScatterD msz zm pg rn zt) = refl
  form_done (ScatterDScaled msz zm pg rn zt) = refl
  form_done (ScatterSv msz imm5 pg zn zt) = refl
  form_done (ScatterDv msz imm5 pg zn zt) = refl

module _ (form : SveForm) (c : Core) (v : Vectors) (m : Memory) where
  -- where the group is this one
  pub as_in : (g : Group) → group_of form ≡ g → performed form c v m ≡ done_in c v m g form
  as_in g e = form_done c v m form ∙ ap (λ (h : Group). done_in c v m h form) e

  pub gather_done : group_of form ≡ Gathers → performed form c v m ≡ vector_load form c v m
  gather_done e = as_in Gathers e

  pub scatter_done : group_of form ≡ Scatters → performed form c v m ≡ vector_store form c v m
  scatter_done e = as_in Scatters e

-- which test of a group a form of it meets
pub gather_own : (form : SveForm) → group_of form ≡ Gathers → is_gather form ≡ true
gather_own form e = ap (λ (g : Group). same_group Gathers g) e

pub scatter_own : (form : SveForm) → group_of form ≡ Scatters → is_scatter form ≡ true
scatter_own form e = ap (λ (g : Group). same_group Scatters g) e
