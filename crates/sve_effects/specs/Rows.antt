-- What each SVE row is: one equation for each form. From the Arm Architecture Reference Manual for A-profile
-- (DDI 0487), C8.2 'Alphabetical list of SVE instructions', the operation of each entry. That MOVPRFX is the move that
-- it is by itself, whatever stands behind it, is this project's own choice; so are the kinds of rows.
use Rattle.std.specs.Prelude.{ℕ, ◌+◌, ◌*◌, ◌/◌, ◌%◌, ◌^◌, Bool, true, false, not, if◌then◌else◌, List, replicate, unwrap_or, pos, ◌+ℤ◌, ◌*ℤ◌}
use Rattle.sve_insn.specs.declared.form.SveForm.{SveForm}
use Rattle.sve_insn.specs.declared.form.SveForm.TheVariants.{Binary, BinaryWide, ShiftImm, Unary, MulAddZ, MulAddD, Plain, LogicZ, PlainWide, PlainShift, Index, Dot, DotIndexed, WideImm, MinMaxImm, DupImm, BitmaskZ, CopyImm, PrefixP, Prefix, SelectZ, Reduce, Count, IncX, IncZ, SatX, SatZ, AddLength, ReadLength, DupReg, DupLane, Insert, RevZ, Unpack, Table, Interleave, InterleaveP, UnpackP, RevP, Compact, Splice, Ext, CopyReg, Last, CondLast, CmpVec, CmpWide, CmpUImm, CmpSImm, LogicP, SelectP, Break, BreakPair, BreakNext, Ptest, First, Next, Ptrue, Pfalse, ReadFfr, ReadFfrAll, WriteFfr, CountP, IncP, IncPZ, While, Cterm, LoadImm, LoadReg, LoadFf, LoadNf, LoadNtImm, LoadNtReg, LoadQuadImm, LoadQuadReg, LoadManyImm, LoadManyReg, LoadOne, LoadZ, LoadP, StoreImm, StoreReg, StoreNtImm, StoreNtReg, StoreManyImm, StoreManyReg, StoreZ, StoreP, GatherSx, GatherSxScaled, GatherDx, GatherDxScaled, GatherD, GatherDScaled, GatherSv, GatherDv, ScatterSx, ScatterSxScaled, ScatterDx, ScatterDxScaled, ScatterD, ScatterDScaled, ScatterSv, ScatterDv}
use Rattle.sve_insn.specs.declared.ops.AddLengthOp.TheVariants.{Addvl}
use Rattle.emu_bits.specs.Bitmask.{bitmask_of}
use Rattle.emu_bits.specs.Fields.{bit}
use Rattle.emu_bits.specs.Numbers.{width_of, sign_extended, unsigned_int}
use Rattle.emu_model.specs.Done.{leaves, Done}
use Rattle.emu_model.specs.State.{read_x, read_x_sp, with_x, with_x_sp, Core, Vectors}
use Rattle.emu_model.specs.Access.{Memory}
use Rattle.emu_model.specs.Lanes.{read_p, with_p, with_ffr, with_lanes}
use Rattle.lane_model.specs.declared.places.LaneSource.TheVariants.{Scalar}
use Rattle.lane_model.specs.declared.predicates.LogicOp.TheVariants.{And, Sel}
use Rattle.sve_effects.specs.Counts.{count_of, inc_lane_op, saturating, sat_counted, length_of, multiple}
use Rattle.sve_effects.specs.Lane.{lane_op, lane_test, unary_lane, multiply_z, multiply_d, dot_product, dot_signed, binary_lane, shift_lane_op, shift_imm_lane_op, plain_lane_op, logic_lane_op, wide_imm_lane, min_max, bitmask_lane_op, extended_by}
use Rattle.sve_effects.specs.LaneLoop.{lane_bits, lane_of, covering_lane, is_active, every_lane, merging}
use Rattle.sve_effects.specs.Fold.{reduced}
use Rattle.lane_model.specs.Pattern.{pattern_count}
use Rattle.lane_model.specs.Permute.{ext_place, rev_place, insr_place, indexed_place, copy_place, compact_place, splice_place}
use Rattle.sve_effects.specs.PermuteRows.{interleave_place, lanes, with_places, with_p_places, inserted_scalar, copied_scalar, dup_bits, dup_index, after_last, after_cond_last, after_unpack, after_unpack_p}
use Rattle.lane_model.specs.Predicate.{logic, broken, broken_pair, broken_next, with_first_active, only_next, lanes_below, count_lanes}
use Rattle.sve_effects.specs.PredicateRows.{predicate_bits, ones, after_test, with_result, with_result_and_flags, with_compared, vector_test, wide_test, unsigned_test, signed_test, is_unsigned, logic_of, break_after, pair_after, ptrue_flags, read_ffr_flags, written_ffr, counted_by, set_lanes_of, while_result, terminates, termination_flags}
use Rattle.sve_effects.specs.VectorRow.{VectorRow, by_lanes, by_registers, memory, performed_by}
use Rattle.sve_effects.specs.VectorData.{tsz_of, shift_bits, shifted_by, wide_unsigned, wide_signed, index_start, index_step, dot_of, dot_indexed_lanes, merging_or_zeroing}
use Rattle.sve_effects.specs.VectorElements.{Brackets, loads, stores, first_faults, non_faults, gathering, each_active, each_repeated, replicated, whole_z, whole_p, scalar, vector, lengths, quadwords, by_register, single, whole_lengths, by_words, by_doublewords, load_registers, store_registers, by_dtype, full_width, single_bytes, extending, low_part, MemoryRow, Offset, LaneChoice, Way, Width}

-- ---- loads and stores

-- the elements of one register
abbrev pub one_register : Way → Width → ℕ → LaneChoice → Brackets → MemoryRow
one_register way width first choice brackets = record {
  way = way;
  width = width;
  registers = 1;
  first = first;
  choice = choice;
  brackets = brackets;
}

-- an element of register zt in each active lane, at an offset behind Xn|SP
abbrev pub from_base : Way → Width → ℕ → ℕ → ℕ → Offset → MemoryRow
from_base way width zt pg rn offset = one_register way width zt (each_active pg) (scalar rn offset)

-- the same, imm5 elements behind the address in the lane of Zn
abbrev pub from_vector : Way → Width → ℕ → ℕ → ℕ → ℕ → MemoryRow
from_vector way width zt pg zn imm5 = one_register way width zt (each_active pg) (vector zn imm5)

-- a whole register, byte by byte
abbrev pub whole_register : Way → ℕ → LaneChoice → ℕ → ℕ → MemoryRow
whole_register way first choice rn imm9 = one_register way single_bytes first choice (scalar rn (whole_lengths imm9))

-- ---- lanes and bits of predicates

-- lanes of e bits, of the size that a field tells; z r k is lane k of register r
abbrev pub lanewise : ℕ → (ℕ → (ℕ → ℕ → ℕ) → Core → Vectors → Vectors) → VectorRow
lanewise size f = by_lanes (λ c v. f (lane_bits size) (lane_of (lane_bits size) v) c v)

-- what vector registers or predicates become, of lanes or fields for lanes of that size
abbrev pub moves : ℕ → (ℕ → Core → Vectors → Vectors) → VectorRow
moves size f = by_registers (λ c v. leaves c (f (lane_bits size) c v))

-- a predicate of the active lanes of that size whose test holds, and the flags; z r k is lane k of register r
abbrev pub compares : ℕ → ℕ → ℕ → (ℕ → (ℕ → ℕ → ℕ) → Vectors → ℕ → Bool) → VectorRow
compares size pg pd test = by_registers (λ c v.
    with_compared (lane_bits size) pg pd (test (lane_bits size) (lane_of (lane_bits size) v) v) c v)

-- the n bits of a predicate that is made bit by bit of others; p r is predicate r
abbrev pub bitwise : Bool → ℕ → ℕ → (ℕ → (ℕ → List Bool) → List Bool) → VectorRow
bitwise sets pg pd f = by_registers (λ c v. with_result sets 8 (read_p v pg) pd (f (predicate_bits v) (read_p v)) c v)

-- ---- the rows

-- The values of all operands are those before the instruction.
abbrev pub row : SveForm → VectorRow
row (Binary op size pg zm zdn) = lanewise size (λ e z c v.
    merging e pg (λ k. binary_lane op e (z zdn k) (z zm k)) zdn v)
row (BinaryWide op size pg zm zdn) = lanewise size (λ e z c v.
    merging e pg (λ k. lane_op (shift_lane_op op) e (z zdn k) (covering_lane e v zm k)) zdn v)
row (ShiftImm op tszh pg tszl imm3 zdn) = by_lanes (λ c v.
    let tsz = tsz_of tszh tszl in merging (shift_bits tsz) pg (shifted_by (shift_imm_lane_op op) tsz imm3 zdn v) zdn v)
row (Unary op size pg zn zd) = lanewise size (λ e z c v. merging e pg (λ k. unary_lane op e (z zn k)) zd v)
row (MulAddZ op size zm pg zn zda) = lanewise size (λ e z c v.
    merging e pg (λ k. multiply_z op e (z zda k) (z zn k) (z zm k)) zda v)
row (MulAddD op size zm pg za zdn) = lanewise size (λ e z c v.
    merging e pg (λ k. multiply_d op e (z za k) (z zdn k) (z zm k)) zdn v)
row (Plain op size zm zn zd) = lanewise size (λ e z c v.
    every_lane e (λ k. lane_op (plain_lane_op op) e (z zn k) (z zm k)) zd v)
row (LogicZ op zm zn zd) = by_lanes (λ c v.
    every_lane 64 (λ k. lane_op (logic_lane_op op) 64 (lane_of 64 v zn k) (lane_of 64 v zm k)) zd v)
row (PlainWide op size zm zn zd) = lanewise size (λ e z c v.
    every_lane e (λ k. lane_op (shift_lane_op op) e (z zn k) (covering_lane e v zm k)) zd v)
row (PlainShift op tszh tszl imm3 zn zd) = by_lanes (λ c v.
    let tsz = tsz_of tszh tszl in every_lane (shift_bits tsz) (shifted_by (shift_lane_op op) tsz imm3 zn v) zd v)
row (Index op size y x zd) = lanewise size (λ e z c v.
    every_lane e (λ k. unsigned_int (index_start op c x +ℤ pos k *ℤ index_step op c y) e) zd v)
row (Dot op size zm zn zda) = lanewise size (λ e z c v.
    every_lane e (λ k. dot_product (dot_signed op) e (z zda k) (z zn k) (z zm k)) zda v)
row (DotIndexed op i_zm zn zda) = by_lanes (λ c v.
    let dot = dot_of op in
    dot_indexed_lanes dot.is_signed dot.bits (i_zm / 2 ^ dot.zm_bits) (i_zm % 2 ^ dot.zm_bits) zn zda v)
row (WideImm op size sh imm8 zdn) = lanewise size (λ e z c v.
    every_lane e (λ k. wide_imm_lane op e (z zdn k) (wide_unsigned sh imm8)) zdn v)
row (MinMaxImm op size imm8 zdn) = lanewise size (λ e z c v. every_lane e (λ k. min_max op e (z zdn k) imm8) zdn v)
row (DupImm size sh imm8 zd) = lanewise size (λ e z c v. every_lane e (λ k. wide_signed e sh imm8) zd v)
-- each instruction of the row has a bitmask
row (BitmaskZ op n immr imms zdn) = by_lanes (λ c v.
    every_lane 64 (λ k. bitmask_lane_op op (lane_of 64 v zdn k) (unwrap_or (bitmask_of 64 (bit n) immr imms) 0)) zdn v)
row (CopyImm size pg merges sh imm8 zd) = lanewise size (λ e z c v.
    merging_or_zeroing merges e pg (λ k. wide_signed e sh imm8) zd v)
row (PrefixP size merges pg zn zd) = lanewise size (λ e z c v. merging_or_zeroing merges e pg (z zn) zd v)
row (Prefix zn zd) = by_lanes (λ c v. every_lane 64 (lane_of 64 v zn) zd v)
row (SelectZ size zm pg zn zd) = lanewise size (λ e z c v.
    every_lane e (λ k. if is_active e v pg k then z zn k else z zm k) zd v)
row (Reduce op size pg zn vd) = by_registers (λ c v. leaves c (reduced op (lane_bits size) pg zn vd v))
row (Count size imm4 pattern rd) = by_registers (λ c v. leaves (with_x c rd 64 (count_of size imm4 pattern v)) v)
row (IncX op size imm4 pattern rdn) = by_registers (λ c v.
    leaves (with_x c rdn 64 (lane_op (inc_lane_op op) 64 (read_x c rdn) (count_of size imm4 pattern v))) v)
row (IncZ op size imm4 pattern zdn) = by_registers (λ c v.
    let e = lane_bits size in
    leaves c (every_lane e (λ k. lane_op (inc_lane_op op) e (lane_of e v zdn k) (count_of size imm4 pattern v)) zdn v))
row (SatX op size sf imm4 pattern rdn) = by_registers (λ c v.
    leaves (with_x c rdn 64 (sat_counted op (width_of sf) (read_x c rdn) (count_of size imm4 pattern v))) v)
row (SatZ op size imm4 pattern zdn) = by_registers (λ c v.
    let e = lane_bits size in
    leaves c (every_lane e (λ k. lane_op (saturating op).0 e (lane_of e v zdn k) (count_of size imm4 pattern v)) zdn v))
row (AddLength op rn imm6 rd) = by_registers (λ c v.
    leaves (with_x_sp c rd 64 (unsigned_int (pos (read_x_sp c rn) +ℤ multiple imm6 (length_of op v)) 64)) v)
row (ReadLength imm6 rd) = by_registers (λ c v.
    leaves (with_x c rd 64 (unsigned_int (multiple imm6 (length_of Addvl v)) 64)) v)
row (DupReg size rn zd) = moves size (λ e c v. with_places e (λ k. Scalar) zd zd (read_x_sp c rn) zd v)
row (DupLane imm2 tsz zn zd) = by_registers (λ c v.
    let e = dup_bits tsz in leaves c (with_places e (λ k. indexed_place (dup_index imm2 tsz) (lanes e v)) zn zn 0 zd v))
row (Insert op size src zdn) =
    moves size (λ e c v. with_places e insr_place zdn zdn (inserted_scalar op e src c v) zdn v)
row (RevZ size zn zd) = moves size (λ e c v. with_places e (rev_place (lanes e v)) zn zn 0 zd v)
row (Unpack op size zn zd) = moves size (λ e c v. after_unpack op e zn zd v)
row (Table size zm zn zd) = moves size (λ e c v.
    with_places e (λ k. indexed_place (lane_of e v zm k) (lanes e v)) zn zn 0 zd v)
row (Interleave op size zm zn zd) = moves size (λ e c v. with_places e (interleave_place op (lanes e v)) zn zm 0 zd v)
row (InterleaveP op size pm pn pd) = moves size (λ e c v. with_p_places e (interleave_place op (lanes e v)) pn pm pd v)
row (UnpackP op pn pd) = by_registers (λ c v. leaves c (after_unpack_p op pn pd v))
row (RevP size pn pd) = moves size (λ e c v. with_p_places e (rev_place (lanes e v)) pn pn pd v)
row (Compact size pg zn zd) = moves size (λ e c v.
    with_places e (compact_place (is_active e v pg) (lanes e v)) zn zn 0 zd v)
row (Splice size pg zm zdn) = moves size (λ e c v.
    with_places e (splice_place (is_active e v pg) (lanes e v)) zdn zm 0 zdn v)
row (Ext imm8h imm8l zm zdn) = by_registers (λ c v.
    leaves c (with_places 8 (ext_place (imm8h * 8 + imm8l) (lanes 8 v)) zdn zm 0 zdn v))
row (CopyReg op size pg rn zd) = moves size (λ e c v.
    with_places e (copy_place (is_active e v pg)) zd zd (copied_scalar op e rn c v) zd v)
row (Last op size pg zn rd) = by_registers (λ c v. after_last op (lane_bits size) pg zn rd c v)
row (CondLast op size pg zm zdn) = by_registers (λ c v. after_cond_last op (lane_bits size) pg zm zdn c v)
row (CmpVec op size zm pg zn pd) = compares size pg pd (λ e z v k. lane_test (vector_test op) e (z zn k) (z zm k))
row (CmpWide op size zm pg zn pd) = compares size pg pd (λ e z v k.
    lane_test (wide_test op) 64 (extended_by (not (is_unsigned (wide_test op))) 64 e (z zn k)) (covering_lane e v zm k))
row (CmpUImm op size imm7 pg zn pd) = compares size pg pd (λ e z v k. lane_test (unsigned_test op) e (z zn k) imm7)
row (CmpSImm op size imm5 pg zn pd) = compares size pg pd (λ e z v k.
    lane_test (signed_test op) e (z zn k) (sign_extended e 5 imm5))
row (LogicP op s pm pg pn pd) = bitwise s pg pd (λ n p. logic (logic_of op) n (p pg) (p pn) (p pm))
row (SelectP pm pg pn pd) = bitwise false pg pd (λ n p. logic Sel n (p pg) (p pn) (p pm))
row (Break op s pg pn merges pd) = bitwise s pg pd (λ n p. broken (break_after op) merges n (p pg) (p pn) (p pd))
row (BreakPair op s pm pg pn pd) = bitwise s pg pd (λ n p. broken_pair (pair_after op) n (p pg) (p pn) (p pm))
-- of the breaks, brkn alone has its flags by the test of all bits, also of those that aren't active
row (BreakNext s pg pn pdm) = by_registers (λ c v.
    let n = predicate_bits v in
    with_result s 8 (ones n) pdm (broken_next n (read_p v pg) (read_p v pn) (read_p v pdm)) c v)
row (Ptest pg pn) = by_registers (λ c v. leaves (after_test true 8 (predicate_bits v) (read_p v pg) (read_p v pn) c) v)
row (First pg pdn) = bitwise true pg pdn (λ n p. with_first_active n (p pg) (p pdn))
row (Next size pg pdn) = by_registers (λ c v.
    let e = lane_bits size in
    with_result_and_flags e (read_p v pg) pdn (only_next e (predicate_bits v) (read_p v pg) (read_p v pdn)) c v)
row (Ptrue op size pattern pd) = by_registers (λ c v.
    let e = lane_bits size in let result = lanes_below e (predicate_bits v) (pattern_count pattern (v.bits / e)) in
    with_result (ptrue_flags op) e result pd result c v)
row (Pfalse pd) = by_registers (λ c v. leaves c (with_p v pd (replicate (predicate_bits v) false)))
row (ReadFfr op pg pd) = by_registers (λ c v.
    with_result (read_ffr_flags op) 8 (read_p v pg) pd (logic And (predicate_bits v) (read_p v pg) v.ffr v.ffr) c v)
row (ReadFfrAll pd) = by_registers (λ c v. leaves c (with_p v pd v.ffr))
row (WriteFfr op pn) = by_registers (λ c v. leaves c (with_ffr v (written_ffr op pn v)))
row (CountP size pg pn rd) = by_registers (λ c v.
    leaves (with_x c rd 64 (count_lanes (lane_bits size) (predicate_bits v) (read_p v pg) (read_p v pn))) v)
row (IncP op size pm rdn) = by_registers (λ c v.
    leaves (with_x c rdn 64 (lane_op (counted_by op) 64 (read_x c rdn) (set_lanes_of (lane_bits size) pm v))) v)
row (IncPZ op size pm zdn) = by_registers (λ c v.
    let e = lane_bits size in
    leaves c (with_lanes e (λ k. lane_op (counted_by op) e (lane_of e v zdn k) (set_lanes_of e pm v)) zdn v))
row (While op size rm sf rn pd) = by_registers (λ c v.
    let e = lane_bits size in with_result_and_flags e (ones (predicate_bits v)) pd (while_result op e sf rn rm c v) c v)
row (Cterm op sf rm rn) = by_registers (λ c v.
    leaves (record c { flags = termination_flags (terminates op (width_of sf) (read_x c rn) (read_x c rm)) c.flags }) v)
row (LoadImm dtype imm4 pg rn zt) = memory (from_base loads (by_dtype dtype) zt pg rn (lengths imm4))
row (LoadReg dtype rm pg rn zt) = memory (from_base loads (by_dtype dtype) zt pg rn (by_register rm))
row (LoadFf dtype rm pg rn zt) = memory (from_base first_faults (by_dtype dtype) zt pg rn (by_register rm))
row (LoadNf dtype imm4 pg rn zt) = memory (from_base non_faults (by_dtype dtype) zt pg rn (lengths imm4))
row (LoadNtImm msz imm4 pg rn zt) = memory (from_base loads (full_width msz) zt pg rn (lengths imm4))
row (LoadNtReg msz rm pg rn zt) = memory (from_base loads (full_width msz) zt pg rn (by_register rm))
row (LoadQuadImm msz imm4 pg rn zt) =
    memory (record (from_base loads (full_width msz) zt pg rn (quadwords imm4)) { choice = each_repeated pg })
row (LoadQuadReg msz rm pg rn zt) =
    memory (record (from_base loads (full_width msz) zt pg rn (by_register rm)) { choice = each_repeated pg })
row (LoadManyImm op msz imm4 pg rn zt) =
    memory (record (from_base loads (full_width msz) zt pg rn (lengths imm4)) { registers = load_registers op })
row (LoadManyReg op msz rm pg rn zt) =
    memory (record (from_base loads (full_width msz) zt pg rn (by_register rm)) { registers = load_registers op })
row (LoadOne dtypeh imm6 dtypel pg rn zt) =
    memory (record (from_base loads (by_dtype (dtypeh * 4 + dtypel)) zt pg rn (single imm6))
    { choice = replicated pg })
row (LoadZ imm9h imm9l rn zt) = memory (whole_register loads zt whole_z rn (imm9h * 8 + imm9l))
row (LoadP imm9h imm9l rn pt) = memory (whole_register loads pt whole_p rn (imm9h * 8 + imm9l))
row (StoreImm msz size imm4 pg rn zt) =
    memory (from_base stores (low_part (lane_bits size) msz) zt pg rn (lengths imm4))
row (StoreReg msz size rm pg rn zt) =
    memory (from_base stores (low_part (lane_bits size) msz) zt pg rn (by_register rm))
row (StoreNtImm msz imm4 pg rn zt) = memory (from_base stores (full_width msz) zt pg rn (lengths imm4))
row (StoreNtReg msz rm pg rn zt) = memory (from_base stores (full_width msz) zt pg rn (by_register rm))
row (StoreManyImm op msz imm4 pg rn zt) =
    memory (record (from_base stores (full_width msz) zt pg rn (lengths imm4)) { registers = store_registers op })
row (StoreManyReg op msz rm pg rn zt) =
    memory (record (from_base stores (full_width msz) zt pg rn (by_register rm)) { registers = store_registers op })
row (StoreZ imm9h imm9l rn zt) = memory (whole_register stores zt whole_z rn (imm9h * 8 + imm9l))
row (StoreP imm9h imm9l rn pt) = memory (whole_register stores pt whole_p rn (imm9h * 8 + imm9l))
row (GatherSx msz xs zm u ff pg rn zt) =
    memory (from_base (gathering ff) (extending 32 msz u) zt pg rn (by_words xs zm 0))
row (GatherSxScaled msz xs zm u ff pg rn zt) =
    memory (from_base (gathering ff) (extending 32 msz u) zt pg rn (by_words xs zm msz))
row (GatherDx msz xs zm u ff pg rn zt) =
    memory (from_base (gathering ff) (extending 64 msz u) zt pg rn (by_words xs zm 0))
row (GatherDxScaled msz xs zm u ff pg rn zt) =
    memory (from_base (gathering ff) (extending 64 msz u) zt pg rn (by_words xs zm msz))
row (GatherD msz zm u ff pg rn zt) =
    memory (from_base (gathering ff) (extending 64 msz u) zt pg rn (by_doublewords zm 0))
row (GatherDScaled msz zm u ff pg rn zt) =
    memory (from_base (gathering ff) (extending 64 msz u) zt pg rn (by_doublewords zm msz))
row (GatherSv msz imm5 u ff pg zn zt) = memory (from_vector (gathering ff) (extending 32 msz u) zt pg zn imm5)
row (GatherDv msz imm5 u ff pg zn zt) = memory (from_vector (gathering ff) (extending 64 msz u) zt pg zn imm5)
row (ScatterSx msz zm xs pg rn zt) = memory (from_base stores (low_part 32 msz) zt pg rn (by_words xs zm 0))
row (ScatterSxScaled msz zm xs pg rn zt) = memory (from_base stores (low_part 32 msz) zt pg rn (by_words xs zm msz))
row (ScatterDx msz zm xs pg rn zt) = memory (from_base stores (low_part 64 msz) zt pg rn (by_words xs zm 0))
row (ScatterDxScaled msz zm xs pg rn zt) = memory (from_base stores (low_part 64 msz) zt pg rn (by_words xs zm msz))
row (ScatterD msz zm pg rn zt) = memory (from_base stores (low_part 64 msz) zt pg rn (by_doublewords zm 0))
row (ScatterDScaled msz zm pg rn zt) = memory (from_base stores (low_part 64 msz) zt pg rn (by_doublewords zm msz))
row (ScatterSv msz imm5 pg zn zt) = memory (from_vector stores (low_part 32 msz) zt pg zn imm5)
row (ScatterDv msz imm5 pg zn zt) = memory (from_vector stores (low_part 64 msz) zt pg zn imm5)

-- What an SVE instruction does: what its row does.
abbrev pub performed : SveForm → Core → Vectors → Memory → Done
performed form c v m = performed_by (row form) c v m
