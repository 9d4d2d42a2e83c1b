-- Which row of the table a form is: the way back from an instruction to its word.
use Rattle.std.specs.Prelude.{ℕ, Bool, [], ◌∷◌}
use Rattle.emu_bits.specs.Fields.{bit}
use Rattle.emu_bits.specs.Rows.{Row}
use Rattle.emu_bits.specs.RowLaws.{meets}
use Rattle.sve_insn.specs.declared.form.SveForm.{SveForm}
use Rattle.sve_insn.specs.declared.form.SveForm.TheVariants.{Binary, BinaryWide, ShiftImm, Unary, MulAddZ, MulAddD, Plain, LogicZ, PlainWide, PlainShift, Index, Dot, DotIndexed, WideImm, MinMaxImm, DupImm, BitmaskZ, CopyImm, PrefixP, Prefix, SelectZ, Reduce, Count, IncX, IncZ, SatX, SatZ, AddLength, ReadLength, DupReg, DupLane, Insert, RevZ, Unpack, Table, Interleave, InterleaveP, UnpackP, RevP, Compact, Splice, Ext, CopyReg, Last, CondLast, CmpVec, CmpWide, CmpUImm, CmpSImm, LogicP, SelectP, Break, BreakPair, BreakNext, Ptest, First, Next, Ptrue, Pfalse, ReadFfr, ReadFfrAll, WriteFfr, CountP, IncP, IncPZ, While, Cterm, LoadImm, LoadReg, LoadFf, LoadNf, LoadNtImm, LoadNtReg, LoadQuadImm, LoadQuadReg, LoadManyImm, LoadManyReg, LoadOne, LoadZ, LoadP, StoreImm, StoreReg, StoreNtImm, StoreNtReg, StoreManyImm, StoreManyReg, StoreZ, StoreP, GatherSx, GatherSxScaled, GatherDx, GatherDxScaled, GatherD, GatherDScaled, GatherSv, GatherDv, ScatterSx, ScatterSxScaled, ScatterDx, ScatterDxScaled, ScatterD, ScatterDScaled, ScatterSv, ScatterDv}
use Rattle.sve_insn.specs.declared.lines.TheConstants as numbers
use Rattle.sve_insn.specs.Numbers.{add_length_number, binary_number, bitmask_z_number, break_number, break_pair_number, cmp_s_imm_number, cmp_u_imm_number, cmp_vec_number, cmp_wide_number, cond_last_number, copy_reg_number, cterm_number, dot_number, dot_indexed_number, inc_number, inc_p_number, index_number, insert_number, interleave_number, last_number, load_many_number, logic_p_number, logic_z_number, min_max_imm_number, mul_add_d_number, mul_add_z_number, plain_number, ptrue_number, read_ffr_number, reduce_number, sat_number, shift_number, shift_imm_number, store_many_number, unary_number, unpack_number, unpack_p_number, while_number, wide_imm_number, write_ffr_number}
use Rattle.sve_insn.specs.Lanes.{binary, binary_wide, shift_imm, unary, mul_add_z, mul_add_d, plain, logic_z, plain_wide, plain_shift, index_z, dot, dot_indexed, wide_imm, min_max_imm, dup_imm, bitmask_z, copy_imm, prefix_p, prefix, select_z}
use Rattle.sve_insn.specs.Folds.{reduce, count_elements, inc_x, inc_z, sat_x, sat_z, add_length, read_length, dup_reg, dup_lane, insert_scalar, rev_z, unpack, table_lookup, interleave, interleave_p, unpack_p, rev_p, compact, splice, ext, copy_reg, last_active, cond_last}
use Rattle.sve_insn.specs.Predicates.{cmp_vec, cmp_wide, cmp_u_imm, cmp_s_imm, logic_p, select_p, break_first, break_pair, break_next, ptest, first_active, next_active, ptrue, pfalse, read_ffr, read_ffr_all, write_ffr, count_p, inc_p, inc_p_z, while_compare, cterm}
use Rattle.sve_insn.specs.Memory.{load_imm, load_reg, load_ff, load_nf, load_nt_imm, load_nt_reg, load_quad_imm, load_quad_reg, load_many_imm, load_many_reg, load_one, load_z, load_p, store_imm, store_reg, store_nt_imm, store_nt_reg, store_many_imm, store_many_reg, store_z, store_p, gather_sx, gather_sx_scaled, gather_dx, gather_dx_scaled, gather_d, gather_d_scaled, gather_sv, gather_dv, scatter_sx, scatter_sx_scaled, scatter_dx, scatter_dx_scaled, scatter_d, scatter_d_scaled, scatter_sv, scatter_dv}

-- the row of a form
abbrev pub row_of : SveForm → Row SveForm
row_of (Binary op size pg zm zdn) = record { line = binary; number = binary_number op; values = size ∷ pg ∷ zm ∷ zdn ∷ [] }
row_of (BinaryWide op size pg zm zdn) = record { line = binary_wide; number = shift_number op; values = size ∷ pg ∷ zm ∷ zdn ∷ [] }
row_of (ShiftImm op tszh pg tszl imm3 zdn) = record { line = shift_imm; number = shift_imm_number op; values = tszh ∷ pg ∷ tszl ∷ imm3 ∷ zdn ∷ [] }
row_of (Unary op size pg zn zd) = record { line = unary; number = unary_number op; values = size ∷ pg ∷ zn ∷ zd ∷ [] }
row_of (MulAddZ op size zm pg zn zda) = record { line = mul_add_z; number = mul_add_z_number op; values = size ∷ zm ∷ pg ∷ zn ∷ zda ∷ [] }
row_of (MulAddD op size zm pg za zdn) = record { line = mul_add_d; number = mul_add_d_number op; values = size ∷ zm ∷ pg ∷ za ∷ zdn ∷ [] }
row_of (Plain op size zm zn zd) = record { line = plain; number = plain_number op; values = size ∷ zm ∷ zn ∷ zd ∷ [] }
row_of (LogicZ op zm zn zd) = record { line = logic_z; number = logic_z_number op; values = zm ∷ zn ∷ zd ∷ [] }
row_of (PlainWide op size zm zn zd) = record { line = plain_wide; number = shift_number op; values = size ∷ zm ∷ zn ∷ zd ∷ [] }
row_of (PlainShift op tszh tszl imm3 zn zd) = record { line = plain_shift; number = shift_number op; values = tszh ∷ tszl ∷ imm3 ∷ zn ∷ zd ∷ [] }
row_of (Index op size y x zd) = record { line = index_z; number = index_number op; values = size ∷ y ∷ x ∷ zd ∷ [] }
row_of (Dot op size zm zn zda) = record { line = dot; number = dot_number op; values = size ∷ zm ∷ zn ∷ zda ∷ [] }
row_of (DotIndexed op i_zm zn zda) = record { line = dot_indexed; number = dot_indexed_number op; values = i_zm ∷ zn ∷ zda ∷ [] }
row_of (WideImm op size sh imm8 zdn) = record { line = wide_imm; number = wide_imm_number op; values = size ∷ bit sh ∷ imm8 ∷ zdn ∷ [] }
row_of (MinMaxImm op size imm8 zdn) = record { line = min_max_imm; number = min_max_imm_number op; values = size ∷ imm8 ∷ zdn ∷ [] }
row_of (DupImm size sh imm8 zd) = record { line = dup_imm; number = 0; values = size ∷ bit sh ∷ imm8 ∷ zd ∷ [] }
row_of (BitmaskZ op n immr imms zdn) = record { line = bitmask_z; number = bitmask_z_number op; values = bit n ∷ immr ∷ imms ∷ zdn ∷ [] }
row_of (CopyImm size pg m sh imm8 zd) = record { line = copy_imm; number = 0; values = size ∷ pg ∷ bit m ∷ bit sh ∷ imm8 ∷ zd ∷ [] }
row_of (PrefixP size m pg zn zd) = record { line = prefix_p; number = 0; values = size ∷ bit m ∷ pg ∷ zn ∷ zd ∷ [] }
row_of (Prefix zn zd) = record { line = prefix; number = 0; values = zn ∷ zd ∷ [] }
row_of (SelectZ size zm pg zn zd) = record { line = select_z; number = 0; values = size ∷ zm ∷ pg ∷ zn ∷ zd ∷ [] }
row_of (Reduce op size pg zn vd) = record { line = reduce; number = reduce_number op; values = size ∷ pg ∷ zn ∷ vd ∷ [] }
row_of (Count size imm4 pattern rd) = record { line = count_elements; number = 0; values = size ∷ imm4 ∷ pattern ∷ rd ∷ [] }
row_of (IncX op size imm4 pattern rdn) = record { line = inc_x; number = inc_number op; values = size ∷ imm4 ∷ pattern ∷ rdn ∷ [] }
row_of (IncZ op size imm4 pattern zdn) = record { line = inc_z; number = inc_number op; values = size ∷ imm4 ∷ pattern ∷ zdn ∷ [] }
row_of (SatX op size sf imm4 pattern rdn) = record { line = sat_x; number = sat_number op; values = size ∷ bit sf ∷ imm4 ∷ pattern ∷ rdn ∷ [] }
row_of (SatZ op size imm4 pattern zdn) = record { line = sat_z; number = sat_number op; values = size ∷ imm4 ∷ pattern ∷ zdn ∷ [] }
row_of (AddLength op rn imm6 rd) = record { line = add_length; number = add_length_number op; values = rn ∷ imm6 ∷ rd ∷ [] }
row_of (ReadLength imm6 rd) = record { line = read_length; number = 0; values = imm6 ∷ rd ∷ [] }
row_of (DupReg size rn zd) = record { line = dup_reg; number = 0; values = size ∷ rn ∷ zd ∷ [] }
row_of (DupLane imm2 tsz zn zd) = record { line = dup_lane; number = 0; values = imm2 ∷ tsz ∷ zn ∷ zd ∷ [] }
row_of (Insert op size src zdn) = record { line = insert_scalar; number = insert_number op; values = size ∷ src ∷ zdn ∷ [] }
row_of (RevZ size zn zd) = record { line = rev_z; number = 0; values = size ∷ zn ∷ zd ∷ [] }
row_of (Unpack op size zn zd) = record { line = unpack; number = unpack_number op; values = size ∷ zn ∷ zd ∷ [] }
row_of (Table size zm zn zd) = record { line = table_lookup; number = 0; values = size ∷ zm ∷ zn ∷ zd ∷ [] }
row_of (Interleave op size zm zn zd) = record { line = interleave; number = interleave_number op; values = size ∷ zm ∷ zn ∷ zd ∷ [] }
row_of (InterleaveP op size pm pn pd) = record { line = interleave_p; number = interleave_number op; values = size ∷ pm ∷ pn ∷ pd ∷ [] }
row_of (UnpackP op pn pd) = record { line = unpack_p; number = unpack_p_number op; values = pn ∷ pd ∷ [] }
row_of (RevP size pn pd) = record { line = rev_p; number = 0; values = size ∷ pn ∷ pd ∷ [] }
row_of (Compact size pg zn zd) = record { line = compact; number = 0; values = size ∷ pg ∷ zn ∷ zd ∷ [] }
row_of (Splice size pg zm zdn) = record { line = splice; number = 0; values = size ∷ pg ∷ zm ∷ zdn ∷ [] }
row_of (Ext imm8h imm8l zm zdn) = record { line = ext; number = 0; values = imm8h ∷ imm8l ∷ zm ∷ zdn ∷ [] }
row_of (CopyReg op size pg rn zd) = record { line = copy_reg; number = copy_reg_number op; values = size ∷ pg ∷ rn ∷ zd ∷ [] }
row_of (Last op size pg zn rd) = record { line = last_active; number = last_number op; values = size ∷ pg ∷ zn ∷ rd ∷ [] }
row_of (CondLast op size pg zm zdn) = record { line = cond_last; number = cond_last_number op; values = size ∷ pg ∷ zm ∷ zdn ∷ [] }
row_of (CmpVec op size zm pg zn pd) = record { line = cmp_vec; number = cmp_vec_number op; values = size ∷ zm ∷ pg ∷ zn ∷ pd ∷ [] }
row_of (CmpWide op size zm pg zn pd) = record { line = cmp_wide; number = cmp_wide_number op; values = size ∷ zm ∷ pg ∷ zn ∷ pd ∷ [] }
row_of (CmpUImm op size imm7 pg zn pd) = record { line = cmp_u_imm; number = cmp_u_imm_number op; values = size ∷ imm7 ∷ pg ∷ zn ∷ pd ∷ [] }
row_of (CmpSImm op size imm5 pg zn pd) = record { line = cmp_s_imm; number = cmp_s_imm_number op; values = size ∷ imm5 ∷ pg ∷ zn ∷ pd ∷ [] }
row_of (LogicP op s pm pg pn pd) = record { line = logic_p; number = logic_p_number op; values = bit s ∷ pm ∷ pg ∷ pn ∷ pd ∷ [] }
row_of (SelectP pm pg pn pd) = record { line = select_p; number = 0; values = pm ∷ pg ∷ pn ∷ pd ∷ [] }
row_of (Break op s pg pn m pd) = record { line = break_first; number = break_number op; values = bit s ∷ pg ∷ pn ∷ bit m ∷ pd ∷ [] }
row_of (BreakPair op s pm pg pn pd) = record { line = break_pair; number = break_pair_number op; values = bit s ∷ pm ∷ pg ∷ pn ∷ pd ∷ [] }
row_of (BreakNext s pg pn pdm) = record { line = break_next; number = 0; values = bit s ∷ pg ∷ pn ∷ pdm ∷ [] }
row_of (Ptest pg pn) = record { line = ptest; number = 0; values = pg ∷ pn ∷ [] }
row_of (First pg pdn) = record { line = first_active; number = 0; values = pg ∷ pdn ∷ [] }
row_of (Next size pg pdn) = record { line = next_active; number = 0; values = size ∷ pg ∷ pdn ∷ [] }
row_of (Ptrue op size pattern pd) = record { line = ptrue; number = ptrue_number op; values = size ∷ pattern ∷ pd ∷ [] }
row_of (Pfalse pd) = record { line = pfalse; number = 0; values = pd ∷ [] }
row_of (ReadFfr op pg pd) = record { line = read_ffr; number = read_ffr_number op; values = pg ∷ pd ∷ [] }
row_of (ReadFfrAll pd) = record { line = read_ffr_all; number = 0; values = pd ∷ [] }
row_of (WriteFfr op pn) = record { line = write_ffr; number = write_ffr_number op; values = pn ∷ [] }
row_of (CountP size pg pn rd) = record { line = count_p; number = 0; values = size ∷ pg ∷ pn ∷ rd ∷ [] }
row_of (IncP op size pm rdn) = record { line = inc_p; number = inc_p_number op; values = size ∷ pm ∷ rdn ∷ [] }
row_of (IncPZ op size pm zdn) = record { line = inc_p_z; number = inc_p_number op; values = size ∷ pm ∷ zdn ∷ [] }
row_of (While op size rm sf rn pd) = record { line = while_compare; number = while_number op; values = size ∷ rm ∷ bit sf ∷ rn ∷ pd ∷ [] }
row_of (Cterm op sf rm rn) = record { line = cterm; number = cterm_number op; values = bit sf ∷ rm ∷ rn ∷ [] }
row_of (LoadImm dtype imm4 pg rn zt) = record { line = load_imm; number = 0; values = dtype ∷ imm4 ∷ pg ∷ rn ∷ zt ∷ [] }
row_of (LoadReg dtype rm pg rn zt) = record { line = load_reg; number = 0; values = dtype ∷ rm ∷ pg ∷ rn ∷ zt ∷ [] }
row_of (LoadFf dtype rm pg rn zt) = record { line = load_ff; number = 0; values = dtype ∷ rm ∷ pg ∷ rn ∷ zt ∷ [] }
row_of (LoadNf dtype imm4 pg rn zt) = record { line = load_nf; number = 0; values = dtype ∷ imm4 ∷ pg ∷ rn ∷ zt ∷ [] }
row_of (LoadNtImm msz imm4 pg rn zt) = record { line = load_nt_imm; number = 0; values = msz ∷ imm4 ∷ pg ∷ rn ∷ zt ∷ [] }
row_of (LoadNtReg msz rm pg rn zt) = record { line = load_nt_reg; number = 0; values = msz ∷ rm ∷ pg ∷ rn ∷ zt ∷ [] }
row_of (LoadQuadImm msz imm4 pg rn zt) = record { line = load_quad_imm; number = 0; values = msz ∷ imm4 ∷ pg ∷ rn ∷ zt ∷ [] }
row_of (LoadQuadReg msz rm pg rn zt) = record { line = load_quad_reg; number = 0; values = msz ∷ rm ∷ pg ∷ rn ∷ zt ∷ [] }
row_of (LoadManyImm op msz imm4 pg rn zt) = record { line = load_many_imm; number = load_many_number op; values = msz ∷ imm4 ∷ pg ∷ rn ∷ zt ∷ [] }
row_of (LoadManyReg op msz rm pg rn zt) = record { line = load_many_reg; number = load_many_number op; values = msz ∷ rm ∷ pg ∷ rn ∷ zt ∷ [] }
row_of (LoadOne dtypeh imm6 dtypel pg rn zt) = record { line = load_one; number = 0; values = dtypeh ∷ imm6 ∷ dtypel ∷ pg ∷ rn ∷ zt ∷ [] }
row_of (LoadZ imm9h imm9l rn zt) = record { line = load_z; number = 0; values = imm9h ∷ imm9l ∷ rn ∷ zt ∷ [] }
row_of (LoadP imm9h imm9l rn pt) = record { line = load_p; number = 0; values = imm9h ∷ imm9l ∷ rn ∷ pt ∷ [] }
row_of (StoreImm msz size imm4 pg rn zt) = record { line = store_imm; number = 0; values = msz ∷ size ∷ imm4 ∷ pg ∷ rn ∷ zt ∷ [] }
row_of (StoreReg msz size rm pg rn zt) = record { line = store_reg; number = 0; values = msz ∷ size ∷ rm ∷ pg ∷ rn ∷ zt ∷ [] }
row_of (StoreNtImm msz imm4 pg rn zt) = record { line = store_nt_imm; number = 0; values = msz ∷ imm4 ∷ pg ∷ rn ∷ zt ∷ [] }
row_of (StoreNtReg msz rm pg rn zt) = record { line = store_nt_reg; number = 0; values = msz ∷ rm ∷ pg ∷ rn ∷ zt ∷ [] }
row_of (StoreManyImm op msz imm4 pg rn zt) = record { line = store_many_imm; number = store_many_number op; values = msz ∷ imm4 ∷ pg ∷ rn ∷ zt ∷ [] }
row_of (StoreManyReg op msz rm pg rn zt) = record { line = store_many_reg; number = store_many_number op; values = msz ∷ rm ∷ pg ∷ rn ∷ zt ∷ [] }
row_of (StoreZ imm9h imm9l rn zt) = record { line = store_z; number = 0; values = imm9h ∷ imm9l ∷ rn ∷ zt ∷ [] }
row_of (StoreP imm9h imm9l rn pt) = record { line = store_p; number = 0; values = imm9h ∷ imm9l ∷ rn ∷ pt ∷ [] }
row_of (GatherSx msz xs zm u ff pg rn zt) = record { line = gather_sx; number = 0; values = msz ∷ bit xs ∷ zm ∷ bit u ∷ bit ff ∷ pg ∷ rn ∷ zt ∷ [] }
row_of (GatherSxScaled msz xs zm u ff pg rn zt) = record { line = gather_sx_scaled; number = 0; values = msz ∷ bit xs ∷ zm ∷ bit u ∷ bit ff ∷ pg ∷ rn ∷ zt ∷ [] }
row_of (GatherDx msz xs zm u ff pg rn zt) = record { line = gather_dx; number = 0; values = msz ∷ bit xs ∷ zm ∷ bit u ∷ bit ff ∷ pg ∷ rn ∷ zt ∷ [] }
row_of (GatherDxScaled msz xs zm u ff pg rn zt) = record { line = gather_dx_scaled; number = 0; values = msz ∷ bit xs ∷ zm ∷ bit u ∷ bit ff ∷ pg ∷ rn ∷ zt ∷ [] }
row_of (GatherD msz zm u ff pg rn zt) = record { line = gather_d; number = 0; values = msz ∷ zm ∷ bit u ∷ bit ff ∷ pg ∷ rn ∷ zt ∷ [] }
row_of (GatherDScaled msz zm u ff pg rn zt) = record { line = gather_d_scaled; number = 0; values = msz ∷ zm ∷ bit u ∷ bit ff ∷ pg ∷ rn ∷ zt ∷ [] }
row_of (GatherSv msz imm5 u ff pg zn zt) = record { line = gather_sv; number = 0; values = msz ∷ imm5 ∷ bit u ∷ bit ff ∷ pg ∷ zn ∷ zt ∷ [] }
row_of (GatherDv msz imm5 u ff pg zn zt) = record { line = gather_dv; number = 0; values = msz ∷ imm5 ∷ bit u ∷ bit ff ∷ pg ∷ zn ∷ zt ∷ [] }
row_of (ScatterSx msz zm xs pg rn zt) = record { line = scatter_sx; number = 0; values = msz ∷ zm ∷ bit xs ∷ pg ∷ rn ∷ zt ∷ [] }
row_of (ScatterSxScaled msz zm xs pg rn zt) = record { line = scatter_sx_scaled; number = 0; values = msz ∷ zm ∷ bit xs ∷ pg ∷ rn ∷ zt ∷ [] }
row_of (ScatterDx msz zm xs pg rn zt) = record { line = scatter_dx; number = 0; values = msz ∷ zm ∷ bit xs ∷ pg ∷ rn ∷ zt ∷ [] }
row_of (ScatterDxScaled msz zm xs pg rn zt) = record { line = scatter_dx_scaled; number = 0; values = msz ∷ zm ∷ bit xs ∷ pg ∷ rn ∷ zt ∷ [] }
row_of (ScatterD msz zm pg rn zt) = record { line = scatter_d; number = 0; values = msz ∷ zm ∷ pg ∷ rn ∷ zt ∷ [] }
row_of (ScatterDScaled msz zm pg rn zt) = record { line = scatter_d_scaled; number = 0; values = msz ∷ zm ∷ pg ∷ rn ∷ zt ∷ [] }
row_of (ScatterSv msz imm5 pg zn zt) = record { line = scatter_sv; number = 0; values = msz ∷ imm5 ∷ pg ∷ zn ∷ zt ∷ [] }
row_of (ScatterDv msz imm5 pg zn zt) = record { line = scatter_dv; number = 0; values = msz ∷ imm5 ∷ pg ∷ zn ∷ zt ∷ [] }

-- the place of a form's line in the table
abbrev pub line_number : SveForm → ℕ
line_number (LoadZ imm9h imm9l rn zt) = numbers.LOAD_Z
line_number (LoadP imm9h imm9l rn pt) = numbers.LOAD_P
line_number (StoreZ imm9h imm9l rn zt) = numbers.STORE_Z
line_number (GatherSx msz xs zm u ff pg rn zt) = numbers.GATHER_SX
line_number (GatherSxScaled msz xs zm u ff pg rn zt) = numbers.GATHER_SX_SCALED
line_number (StoreReg msz size rm pg rn zt) = numbers.STORE_REG
line_number (LoadImm dtype imm4 pg rn zt) = numbers.LOAD_IMM
line_number (LoadReg dtype rm pg rn zt) = numbers.LOAD_REG
line_number (LoadFf dtype rm pg rn zt) = numbers.LOAD_FF
line_number (LoadNf dtype imm4 pg rn zt) = numbers.LOAD_NF
line_number (LoadNtImm msz imm4 pg rn zt) = numbers.LOAD_NT_IMM
line_number (LoadNtReg msz rm pg rn zt) = numbers.LOAD_NT_REG
line_number (LoadQuadImm msz imm4 pg rn zt) = numbers.LOAD_QUAD_IMM
line_number (LoadQuadReg msz rm pg rn zt) = numbers.LOAD_QUAD_REG
line_number (LoadManyImm op msz imm4 pg rn zt) = numbers.LOAD_MANY_IMM
line_number (LoadManyReg op msz rm pg rn zt) = numbers.LOAD_MANY_REG
line_number (LoadOne dtypeh imm6 dtypel pg rn zt) = numbers.LOAD_ONE
line_number (StoreImm msz size imm4 pg rn zt) = numbers.STORE_IMM
line_number (StoreNtImm msz imm4 pg rn zt) = numbers.STORE_NT_IMM
line_number (StoreNtReg msz rm pg rn zt) = numbers.STORE_NT_REG
line_number (StoreManyImm op msz imm4 pg rn zt) = numbers.STORE_MANY_IMM
line_number (StoreManyReg op msz rm pg rn zt) = numbers.STORE_MANY_REG
line_number (StoreP imm9h imm9l rn pt) = numbers.STORE_P
line_number (GatherDx msz xs zm u ff pg rn zt) = numbers.GATHER_DX
line_number (GatherDxScaled msz xs zm u ff pg rn zt) = numbers.GATHER_DX_SCALED
line_number (GatherD msz zm u ff pg rn zt) = numbers.GATHER_D
line_number (GatherDScaled msz zm u ff pg rn zt) = numbers.GATHER_D_SCALED
line_number (GatherSv msz imm5 u ff pg zn zt) = numbers.GATHER_SV
line_number (GatherDv msz imm5 u ff pg zn zt) = numbers.GATHER_DV
line_number (ScatterSx msz zm xs pg rn zt) = numbers.SCATTER_SX
line_number (ScatterSxScaled msz zm xs pg rn zt) = numbers.SCATTER_SX_SCALED
line_number (ScatterDx msz zm xs pg rn zt) = numbers.SCATTER_DX
line_number (ScatterDxScaled msz zm xs pg rn zt) = numbers.SCATTER_DX_SCALED
line_number (ScatterD msz zm pg rn zt) = numbers.SCATTER_D
line_number (ScatterDScaled msz zm pg rn zt) = numbers.SCATTER_D_SCALED
line_number (ScatterSv msz imm5 pg zn zt) = numbers.SCATTER_SV
line_number (ScatterDv msz imm5 pg zn zt) = numbers.SCATTER_DV
line_number (Binary op size pg zm zdn) = numbers.BINARY
line_number (BinaryWide op size pg zm zdn) = numbers.BINARY_WIDE
line_number (ShiftImm op tszh pg tszl imm3 zdn) = numbers.SHIFT_IMM
line_number (Unary op size pg zn zd) = numbers.UNARY
line_number (MulAddZ op size zm pg zn zda) = numbers.MUL_ADD_Z
line_number (MulAddD op size zm pg za zdn) = numbers.MUL_ADD_D
line_number (Plain op size zm zn zd) = numbers.PLAIN
line_number (LogicZ op zm zn zd) = numbers.LOGIC_Z
line_number (PlainWide op size zm zn zd) = numbers.PLAIN_WIDE
line_number (PlainShift op tszh tszl imm3 zn zd) = numbers.PLAIN_SHIFT
line_number (Index op size y x zd) = numbers.INDEX
line_number (PrefixP size m pg zn zd) = numbers.PREFIX_P
line_number (Prefix zn zd) = numbers.PREFIX
line_number (Dot op size zm zn zda) = numbers.DOT
line_number (DotIndexed op i_zm zn zda) = numbers.DOT_INDEXED
line_number (Reduce op size pg zn vd) = numbers.REDUCE
line_number (Count size imm4 pattern rd) = numbers.COUNT
line_number (IncX op size imm4 pattern rdn) = numbers.INC_X
line_number (IncZ op size imm4 pattern zdn) = numbers.INC_Z
line_number (SatX op size sf imm4 pattern rdn) = numbers.SAT_X
line_number (SatZ op size imm4 pattern zdn) = numbers.SAT_Z
line_number (AddLength op rn imm6 rd) = numbers.ADD_LENGTH
line_number (ReadLength imm6 rd) = numbers.READ_LENGTH
line_number (BitmaskZ op n immr imms zdn) = numbers.BITMASK_Z
line_number (CopyImm size pg m sh imm8 zd) = numbers.COPY_IMM
line_number (SelectZ size zm pg zn zd) = numbers.SELECT_Z
line_number (DupReg size rn zd) = numbers.DUP_REG
line_number (DupLane imm2 tsz zn zd) = numbers.DUP_LANE
line_number (Insert op size src zdn) = numbers.INSERT
line_number (RevZ size zn zd) = numbers.REV_Z
line_number (Unpack op size zn zd) = numbers.UNPACK
line_number (Table size zm zn zd) = numbers.TABLE
line_number (Interleave op size zm zn zd) = numbers.INTERLEAVE
line_number (InterleaveP op size pm pn pd) = numbers.INTERLEAVE_P
line_number (UnpackP op pn pd) = numbers.UNPACK_P
line_number (RevP size pn pd) = numbers.REV_P
line_number (Compact size pg zn zd) = numbers.COMPACT
line_number (Splice size pg zm zdn) = numbers.SPLICE
line_number (Ext imm8h imm8l zm zdn) = numbers.EXT
line_number (CopyReg op size pg rn zd) = numbers.COPY_REG
line_number (Last op size pg zn rd) = numbers.LAST
line_number (CondLast op size pg zm zdn) = numbers.COND_LAST
line_number (CmpVec op size zm pg zn pd) = numbers.CMP_VEC
line_number (CmpWide op size zm pg zn pd) = numbers.CMP_WIDE
line_number (CmpUImm op size imm7 pg zn pd) = numbers.CMP_U_IMM
line_number (CmpSImm op size imm5 pg zn pd) = numbers.CMP_S_IMM
line_number (LogicP op s pm pg pn pd) = numbers.LOGIC_P
line_number (SelectP pm pg pn pd) = numbers.SELECT_P
line_number (Break op s pg pn m pd) = numbers.BREAK
line_number (BreakPair op s pm pg pn pd) = numbers.BREAK_PAIR
line_number (BreakNext s pg pn pdm) = numbers.BREAK_NEXT
line_number (Ptest pg pn) = numbers.PTEST
line_number (First pg pdn) = numbers.FIRST
line_number (Next size pg pdn) = numbers.NEXT
line_number (Ptrue op size pattern pd) = numbers.PTRUE
line_number (Pfalse pd) = numbers.PFALSE
line_number (ReadFfr op pg pd) = numbers.READ_FFR
line_number (ReadFfrAll pd) = numbers.READ_FFR_ALL
line_number (WriteFfr op pn) = numbers.WRITE_FFR
line_number (CountP size pg pn rd) = numbers.COUNT_P
line_number (IncP op size pm rdn) = numbers.INC_P
line_number (IncPZ op size pm zdn) = numbers.INC_PZ
line_number (While op size rm sf rn pd) = numbers.WHILE
line_number (Cterm op sf rm rn) = numbers.CTERM
line_number (WideImm op size sh imm8 zdn) = numbers.WIDE_IMM
line_number (MinMaxImm op size imm8 zdn) = numbers.MIN_MAX_IMM
line_number (DupImm size sh imm8 zd) = numbers.DUP_IMM

-- the condition of a form's line
abbrev pub meets_form : SveForm → Bool
meets_form f = meets (row_of f)
