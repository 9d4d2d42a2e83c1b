-- What contracts cite of an SVE instruction: its group, and the parts of what it does.
use Rattle.std.specs.Prelude.{Bool, ◌||◌, List, true, false}
use Rattle.sve_insn.specs.declared.form.SveForm.{SveForm}
use Rattle.sve_insn.specs.declared.form.SveForm.TheVariants.{Binary, BinaryWide, ShiftImm, Unary, MulAddZ, MulAddD, Plain, LogicZ, PlainWide, PlainShift, Index, Dot, DotIndexed, WideImm, MinMaxImm, DupImm, BitmaskZ, CopyImm, PrefixP, Prefix, SelectZ, Reduce, Count, IncX, IncZ, SatX, SatZ, AddLength, ReadLength, DupReg, DupLane, Insert, RevZ, Unpack, Table, Interleave, InterleaveP, UnpackP, RevP, Compact, Splice, Ext, CopyReg, Last, CondLast, CmpVec, CmpWide, CmpUImm, CmpSImm, LogicP, SelectP, Break, BreakPair, BreakNext, Ptest, First, Next, Ptrue, Pfalse, ReadFfr, ReadFfrAll, WriteFfr, CountP, IncP, IncPZ, While, Cterm, LoadImm, LoadReg, LoadFf, LoadNf, LoadNtImm, LoadNtReg, LoadQuadImm, LoadQuadReg, LoadManyImm, LoadManyReg, LoadOne, LoadZ, LoadP, StoreImm, StoreReg, StoreNtImm, StoreNtReg, StoreManyImm, StoreManyReg, StoreZ, StoreP, GatherSx, GatherSxScaled, GatherDx, GatherDxScaled, GatherD, GatherDScaled, GatherSv, GatherDv, ScatterSx, ScatterSxScaled, ScatterDx, ScatterDxScaled, ScatterD, ScatterDScaled, ScatterSv, ScatterDv}
use Rattle.emu_model.specs.Access.{Memory}
use Rattle.emu_model.specs.Done.{Done, Registers, leaves}
use Rattle.emu_model.specs.Elements.{Element}
use Rattle.emu_model.specs.State.{Core, Vectors}
use Rattle.sve_effects.specs.declared.groups.Group.{Group}
use Rattle.sve_effects.specs.declared.groups.Group.TheVariants.{Lanes, Permutes, Counts, Folds, Predicates, Loads, Stores, Gathers, Scatters, FirstFaults}
use Rattle.sve_effects.specs.FirstFault.{first_fault_row}
use Rattle.sve_effects.specs.VectorRow.{VectorRow, by_lanes, by_registers, memory}
use Rattle.sve_effects.specs.Rows.{row}
use Rattle.sve_effects.specs.VectorElements.{MemoryRow, Layout, elements_of, row_layout, loads, whole_lengths, whole_z, scalar, single_bytes}
use Rattle.sve_effects.specs.VectorLoadStore.{load_row, store_row}

-- ---- of rows

-- what the rows have that reach no memory
abbrev pub no_elements : MemoryRow
no_elements = record {
  way = loads;
  width = single_bytes;
  registers = 0;
  first = 0;
  choice = whole_z;
  brackets = scalar 0 (whole_lengths 0);
}

-- the registers after a row that reaches no memory
abbrev pub registers_after : VectorRow → Core → Vectors → Registers
registers_after (by_lanes f) c v = leaves c (f c v)
registers_after (by_registers f) c v = f c v
registers_after (memory r) c v = leaves c v

-- the elements of a row that reaches memory
abbrev pub memory_of : VectorRow → MemoryRow
memory_of (by_lanes f) = no_elements
memory_of (by_registers f) = no_elements
memory_of (memory r) = r

-- ---- the group of an instruction

-- gathers are a group of their own, but for the first-faulting ones
abbrev pub by_fault : Bool → Group
by_fault true = FirstFaults
by_fault false = Gathers

abbrev pub group_of : SveForm → Group
group_of (Binary op size pg zm zdn) = Lanes
group_of (BinaryWide op size pg zm zdn) = Lanes
group_of (ShiftImm op tszh pg tszl imm3 zdn) = Lanes
group_of (Unary op size pg zn zd) = Lanes
group_of (MulAddZ op size zm pg zn zda) = Lanes
group_of (MulAddD op size zm pg za zdn) = Lanes
group_of (Plain op size zm zn zd) = Lanes
group_of (LogicZ op zm zn zd) = Lanes
group_of (PlainWide op size zm zn zd) = Lanes
group_of (PlainShift op tszh tszl imm3 zn zd) = Lanes
group_of (Index op size y x zd) = Lanes
group_of (Dot op size zm zn zda) = Lanes
group_of (DotIndexed op i_zm zn zda) = Lanes
group_of (WideImm op size sh imm8 zdn) = Lanes
group_of (MinMaxImm op size imm8 zdn) = Lanes
group_of (DupImm size sh imm8 zd) = Lanes
group_of (BitmaskZ op n immr imms zdn) = Lanes
group_of (CopyImm size pg m sh imm8 zd) = Lanes
group_of (PrefixP size m pg zn zd) = Lanes
group_of (Prefix zn zd) = Lanes
group_of (SelectZ size zm pg zn zd) = Lanes
group_of (Reduce op size pg zn vd) = Folds
group_of (Count size imm4 pattern rd) = Counts
group_of (IncX op size imm4 pattern rdn) = Counts
group_of (IncZ op size imm4 pattern zdn) = Counts
group_of (SatX op size sf imm4 pattern rdn) = Counts
group_of (SatZ op size imm4 pattern zdn) = Counts
group_of (AddLength op rn imm6 rd) = Counts
group_of (ReadLength imm6 rd) = Counts
group_of (DupReg size rn zd) = Permutes
group_of (DupLane imm2 tsz zn zd) = Permutes
group_of (Insert op size src zdn) = Permutes
group_of (RevZ size zn zd) = Permutes
group_of (Unpack op size zn zd) = Permutes
group_of (Table size zm zn zd) = Permutes
group_of (Interleave op size zm zn zd) = Permutes
group_of (InterleaveP op size pm pn pd) = Permutes
group_of (UnpackP op pn pd) = Permutes
group_of (RevP size pn pd) = Permutes
group_of (Compact size pg zn zd) = Permutes
group_of (Splice size pg zm zdn) = Permutes
group_of (Ext imm8h imm8l zm zdn) = Permutes
group_of (CopyReg op size pg rn zd) = Permutes
group_of (Last op size pg zn rd) = Permutes
group_of (CondLast op size pg zm zdn) = Permutes
group_of (CmpVec op size zm pg zn pd) = Predicates
group_of (CmpWide op size zm pg zn pd) = Predicates
group_of (CmpUImm op size imm7 pg zn pd) = Predicates
group_of (CmpSImm op size imm5 pg zn pd) = Predicates
group_of (LogicP op s pm pg pn pd) = Predicates
group_of (SelectP pm pg pn pd) = Predicates
group_of (Break op s pg pn m pd) = Predicates
group_of (BreakPair op s pm pg pn pd) = Predicates
group_of (BreakNext s pg pn pdm) = Predicates
group_of (Ptest pg pn) = Predicates
group_of (First pg pdn) = Predicates
group_of (Next size pg pdn) = Predicates
group_of (Ptrue op size pattern pd) = Predicates
group_of (Pfalse pd) = Predicates
group_of (ReadFfr op pg pd) = Predicates
group_of (ReadFfrAll pd) = Predicates
group_of (WriteFfr op pn) = Predicates
group_of (CountP size pg pn rd) = Predicates
group_of (IncP op size pm rdn) = Predicates
group_of (IncPZ op size pm zdn) = Predicates
group_of (While op size rm sf rn pd) = Predicates
group_of (Cterm op sf rm rn) = Predicates
group_of (LoadImm dtype imm4 pg rn zt) = Loads
group_of (LoadReg dtype rm pg rn zt) = Loads
group_of (LoadFf dtype rm pg rn zt) = FirstFaults
group_of (LoadNf dtype imm4 pg rn zt) = FirstFaults
group_of (LoadNtImm msz imm4 pg rn zt) = Loads
group_of (LoadNtReg msz rm pg rn zt) = Loads
group_of (LoadQuadImm msz imm4 pg rn zt) = Loads
group_of (LoadQuadReg msz rm pg rn zt) = Loads
group_of (LoadManyImm op msz imm4 pg rn zt) = Loads
group_of (LoadManyReg op msz rm pg rn zt) = Loads
group_of (LoadOne dtypeh imm6 dtypel pg rn zt) = Loads
group_of (LoadZ imm9h imm9l rn zt) = Loads
group_of (LoadP imm9h imm9l rn pt) = Loads
group_of (StoreImm msz size imm4 pg rn zt) = Stores
group_of (StoreReg msz size rm pg rn zt) = Stores
group_of (StoreNtImm msz imm4 pg rn zt) = Stores
group_of (StoreNtReg msz rm pg rn zt) = Stores
group_of (StoreManyImm op msz imm4 pg rn zt) = Stores
group_of (StoreManyReg op msz rm pg rn zt) = Stores
group_of (StoreZ imm9h imm9l rn zt) = Stores
group_of (StoreP imm9h imm9l rn pt) = Stores
group_of (GatherSx msz xs zm u ff pg rn zt) = by_fault ff
group_of (GatherSxScaled msz xs zm u ff pg rn zt) = by_fault ff
group_of (GatherDx msz xs zm u ff pg rn zt) = by_fault ff
group_of (GatherDxScaled msz xs zm u ff pg rn zt) = by_fault ff
group_of (GatherD msz zm u ff pg rn zt) = by_fault ff
group_of (GatherDScaled msz zm u ff pg rn zt) = by_fault ff
group_of (GatherSv msz imm5 u ff pg zn zt) = by_fault ff
group_of (GatherDv msz imm5 u ff pg zn zt) = by_fault ff
group_of (ScatterSx msz zm xs pg rn zt) = Scatters
group_of (ScatterSxScaled msz zm xs pg rn zt) = Scatters
group_of (ScatterDx msz zm xs pg rn zt) = Scatters
group_of (ScatterDxScaled msz zm xs pg rn zt) = Scatters
group_of (ScatterD msz zm pg rn zt) = Scatters
group_of (ScatterDScaled msz zm pg rn zt) = Scatters
group_of (ScatterSv msz imm5 pg zn zt) = Scatters
group_of (ScatterDv msz imm5 pg zn zt) = Scatters

-- whether two groups are the same
abbrev pub same_group : Group → Group → Bool
same_group Lanes Lanes = true
same_group Permutes Permutes = true
same_group Counts Counts = true
same_group Folds Folds = true
same_group Predicates Predicates = true
same_group Loads Loads = true
same_group Stores Stores = true
same_group Gathers Gathers = true
same_group Scatters Scatters = true
same_group FirstFaults FirstFaults = true
same_group wanted group = false

abbrev pub is_in : Group → SveForm → Bool
is_in group form = same_group group (group_of form)

-- the rows that work lane by lane
abbrev pub is_vector_data : SveForm → Bool
is_vector_data form = is_in Lanes form

abbrev pub is_permute : SveForm → Bool
is_permute form = is_in Permutes form

abbrev pub is_count : SveForm → Bool
is_count form = is_in Counts form

abbrev pub is_fold : SveForm → Bool
is_fold form = is_in Folds form

-- the rows that work across lanes
abbrev pub is_across : SveForm → Bool
is_across form = is_permute form || (is_count form || is_fold form)

-- the data rows: lane by lane, and across lanes
abbrev pub is_data : SveForm → Bool
is_data form = is_vector_data form || is_across form

-- the rows that compare into predicates, or work on predicates and FFR
abbrev pub is_predicate : SveForm → Bool
is_predicate form = is_in Predicates form

-- contiguous, of whole registers, replicated and of structures
abbrev pub is_contiguous_load : SveForm → Bool
is_contiguous_load form = is_in Loads form

abbrev pub is_contiguous_store : SveForm → Bool
is_contiguous_store form = is_in Stores form

-- gathers, but for the first-faulting ones
abbrev pub is_gather : SveForm → Bool
is_gather form = is_in Gathers form

abbrev pub is_scatter : SveForm → Bool
is_scatter form = is_in Scatters form

-- first-faulting and non-faulting
abbrev pub is_first_fault : SveForm → Bool
is_first_fault form = is_in FirstFaults form

-- ---- registers

-- after a row of a group that reaches no memory, which goes on behind it
abbrev pub after_data : SveForm → Core → Vectors → Registers
after_data form c v = registers_after (row form) c v

abbrev pub vector_data : SveForm → Core → Vectors → Vectors
vector_data form c v = (after_data form c v).vectors

abbrev pub across : SveForm → Core → Vectors → Registers
across form c v = after_data form c v

abbrev pub predicate : SveForm → Core → Vectors → Registers
predicate form c v = after_data form c v

-- ---- memory

abbrev pub memory_row : SveForm → MemoryRow
memory_row form = memory_of (row form)

abbrev pub layout : SveForm → Core → Vectors → Layout
layout form c v = row_layout (memory_row form) c v

abbrev pub vector_elements : SveForm → Core → Vectors → List Element
vector_elements form c v = elements_of (layout form c v)

-- whether the sign of an element is extended
abbrev pub loads_signed : SveForm → Bool
loads_signed form = (memory_row form).width.is_signed

abbrev pub vector_load : SveForm → Core → Vectors → Memory → Done
vector_load form c v m = load_row (memory_row form) c v m

abbrev pub vector_store : SveForm → Core → Vectors → Memory → Done
vector_store form c v m = store_row (memory_row form) c v m

-- ldnf1, which never traps on an element
abbrev pub is_non_fault : SveForm → Bool
is_non_fault (LoadNf dtype imm4 pg rn zt) = true
is_non_fault form = false

-- an instruction of these rows, with these elements
abbrev pub first_fault_of : SveForm → List Element → Core → Vectors → Memory → Done
first_fault_of form es c v m = first_fault_row (is_non_fault form) (memory_row form) es c v m

abbrev pub first_fault : SveForm → Core → Vectors → Memory → Done
first_fault form c v m = first_fault_of form (vector_elements form c v) c v m
