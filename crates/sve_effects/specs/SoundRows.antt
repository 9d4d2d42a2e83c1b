-- What the rows leave that reach no memory is sound.
use Rattle.std.proofs.Common.{arith}
use Rattle.std.proofs.lemmas.List.{length-replicate}
use Rattle.std.specs.Prelude.{ℕ, ◌/◌, ◌%◌, ◌^◌, Bool, true, false, if◌then◌else◌, unwrap_or, pos, ◌+ℤ◌, ◌*ℤ◌, ◌+◌, ◌*◌, List, replicate}
use Rattle.sve_insn.specs.declared.form.SveForm.{SveForm}
use Rattle.sve_insn.specs.declared.form.SveForm.TheVariants.{Binary, BinaryWide, ShiftImm, Unary, MulAddZ, MulAddD, Plain, LogicZ, PlainWide, PlainShift, Index, Dot, DotIndexed, WideImm, MinMaxImm, DupImm, BitmaskZ, CopyImm, PrefixP, Prefix, SelectZ, Reduce, Count, IncX, IncZ, SatX, SatZ, AddLength, ReadLength, DupReg, DupLane, Insert, RevZ, Unpack, Table, Interleave, InterleaveP, UnpackP, RevP, Compact, Splice, Ext, CopyReg, Last, CondLast, CmpVec, CmpWide, CmpUImm, CmpSImm, LogicP, SelectP, Break, BreakPair, BreakNext, Ptest, First, Next, Ptrue, Pfalse, ReadFfr, ReadFfrAll, WriteFfr, CountP, IncP, IncPZ, While, Cterm}
use Rattle.sve_insn.specs.declared.ops.AddLengthOp.TheVariants.{Addvl}
use Rattle.sve_insn.specs.declared.ops.CondLastOp.{CondLastOp}
use Rattle.sve_insn.specs.declared.ops.CondLastOp.TheVariants.{ClastaR, ClastbR, ClastaV, ClastbV, ClastaZ, ClastbZ}
use Rattle.sve_insn.specs.declared.ops.LastOp.{LastOp}
use Rattle.sve_insn.specs.declared.ops.LastOp.TheVariants.{LastaR, LastbR, LastaV, LastbV}
use Rattle.sve_insn.specs.declared.ops.WriteFfrOp.{WriteFfrOp}
use Rattle.sve_insn.specs.declared.ops.WriteFfrOp.TheVariants.{Setffr, Wrffr}
use Rattle.emu_bits.specs.Bitmask.{bitmask_of}
use Rattle.emu_bits.specs.Fields.{bit}
use Rattle.emu_bits.specs.Numbers.{unsigned_int, width_of}
use Rattle.emu_model.specs.Lists.{each}
use Rattle.emu_model.specs.ListLaws.{length-each}
use Rattle.emu_model.specs.Sound.{with_x_sound, with_x_sp_sound, flags_sound}
use Rattle.emu_model.specs.SoundDone.{IsSoundRegisters}
use Rattle.emu_model.specs.State.{Core, Vectors, read_x, read_x_sp, with_x}
use Rattle.emu_model.specs.SoundState.{IsSoundVectors, IsSoundCore, HasLength}
use Rattle.sve_effects.specs.Counts.{count_of, inc_lane_op, saturating, sat_counted, length_of, multiple}
use Rattle.sve_effects.specs.Effects.{after_data}
use Rattle.sve_effects.specs.Lane.{unary_lane, multiply_z, multiply_d, dot_product, dot_signed, binary_lane, shift_lane_op, shift_imm_lane_op, plain_lane_op, logic_lane_op, wide_imm_lane, min_max, bitmask_lane_op, extended_by, lane_op}
use Rattle.sve_effects.specs.LaneLoop.{lane_bits, lane_of, covering_lane, is_active, every_lane, merging, zeroing, folding}
use Rattle.sve_effects.specs.Fold.{reduce_step, reduce_start, reduce_bits}
use Rattle.lane_model.specs.Permute.{taken, ext_place, rev_place, insr_place, indexed_place, half_place, copy_place, compact_place, splice_place}
use Rattle.sve_effects.specs.PermuteRows.{interleave_place, lanes, with_places, bit_of_field, with_p_places, inserted_scalar, copied_scalar, unpacks, is_high_p, dup_bits, dup_index, any_active, last_value, last_value_or, after_last, after_cond_last}
use Rattle.lane_model.specs.Predicate.{pred_test, count_lanes}
use Rattle.sve_effects.specs.PredicateRows.{predicate_bits, after_test, with_result, counted_by, set_lanes_of, terminates, termination_flags, written_ffr}
use Rattle.sve_effects.specs.VectorData.{tsz_of, shift_bits, shifted_by, wide_unsigned, wide_signed, index_start, index_step, dot_of, indexed_lane, dot_indexed_lanes, merging_or_zeroing}
use Rattle.lane_model.specs.declared.places.LaneSource.{LaneSource}
use Rattle.lane_model.specs.declared.places.LaneSource.TheVariants.{Scalar}
use Rattle.emu_model.specs.Lanes.{read_p, with_lanes, with_low}
use Rattle.emu_model.specs.SoundLanes.{sound_lanes, sound_low, sound_fields, sound_p, sound_ffr_bits}

plain_sound : (e : ℕ) (f : ℕ → ℕ) (zd : ℕ) (v : Vectors) → IsSoundVectors v → IsSoundVectors (every_lane e f zd v)
plain_sound e f zd v s = sound_lanes e f zd v s

merging_sound : (e pg : ℕ) (f : ℕ → ℕ) (zd : ℕ) (v : Vectors) → IsSoundVectors v → IsSoundVectors (merging e pg f zd v)
merging_sound e pg f zd v s = sound_lanes e (λ k. if is_active e v pg k then f k else lane_of e v zd k) zd v s

zeroing_sound : (e pg : ℕ) (f : ℕ → ℕ) (zd : ℕ) (v : Vectors) → IsSoundVectors v → IsSoundVectors (zeroing e pg f zd v)
zeroing_sound e pg f zd v s = sound_lanes e (λ k. if is_active e v pg k then f k else 0) zd v s

copied_sound : (m : Bool) (e pg : ℕ) (f : ℕ → ℕ) (zd : ℕ) (v : Vectors) → IsSoundVectors v → IsSoundVectors (merging_or_zeroing m e pg f zd v)
copied_sound true e pg f zd v s = merging_sound e pg f zd v s
copied_sound false e pg f zd v s = zeroing_sound e pg f zd v s

dot_indexed_sound : (is_signed : Bool) (e i zm zn zda : ℕ) (v : Vectors) → IsSoundVectors v → IsSoundVectors (dot_indexed_lanes is_signed e i zm zn zda v)
dot_indexed_sound is_signed e i zm zn zda v s = plain_sound e (λ k. dot_product is_signed e (lane_of e v zda k) (lane_of e v zn k) (lane_of e v zm (indexed_lane e i k))) zda v s

-- ---- FFR

written_ffr_length : (op : WriteFfrOp) (pn : ℕ) (v : Vectors) → HasLength (predicate_bits v) (written_ffr op pn v)
written_ffr_length Setffr pn v = length-each (predicate_bits v) _
written_ffr_length Wrffr pn v = length-each (predicate_bits v) _

-- ---- the rows

module _ (c : Core) (v : Vectors) (s : IsSoundCore c) (u : IsSoundVectors v) where
  moved_sound : (e : ℕ) (place : ℕ → LaneSource) (zn zm scalar zd : ℕ) → IsSoundRegisters (record { core = c; vectors = with_places e place zn zm scalar zd v })
  moved_sound e place zn zm scalar zd = record { core = s; vectors = sound_lanes e (λ k. taken (lane_of e v zn) (lane_of e v zm) scalar 0 (place k)) zd v u }

  moved_fields_sound : (e : ℕ) (place : ℕ → LaneSource) (pn pm pd : ℕ) → IsSoundRegisters (record { core = c; vectors = with_p_places e place pn pm pd v })
  moved_fields_sound e place pn pm pd =
      let w : ℕ = e / 8 in
      record { core = s; vectors = sound_fields 8 (λ j. taken (bit_of_field w (j % w) (read_p v pn)) (bit_of_field w (j % w) (read_p v pm)) false false (place (j / w))) pd v u }

  x_sound : (r x : ℕ) → IsSoundRegisters (record { core = with_x c r 64 x; vectors = v })
  x_sound r x = record { core = with_x_sound c r 64 x (omega arith) s; vectors = u }

  low_sound : (e x r : ℕ) → IsSoundRegisters (record { core = c; vectors = with_low e x r v })
  low_sound e x r = record { core = s; vectors = sound_low e x r v u }

  lanes_sound : (e : ℕ) (f : ℕ → ℕ) (zd : ℕ) → IsSoundRegisters (record { core = c; vectors = with_lanes e f zd v })
  lanes_sound e f zd = record { core = s; vectors = sound_lanes e f zd v u }

  last_sound : (op : LastOp) (e pg zn rd : ℕ) → IsSoundRegisters (after_last op e pg zn rd c v)
  last_sound LastaR e pg zn rd = x_sound rd (last_value true e pg zn v)
  last_sound LastbR e pg zn rd = x_sound rd (last_value false e pg zn v)
  last_sound LastaV e pg zn rd = low_sound e (last_value true e pg zn v) rd
  last_sound LastbV e pg zn rd = low_sound e (last_value false e pg zn v) rd

  filled_sound : (any : Bool) (e x zd : ℕ) → IsSoundRegisters (record { core = c; vectors = if any then with_lanes e (λ k. x) zd v else v })
  filled_sound true e x zd = lanes_sound e (λ k. x) zd
  filled_sound false e x zd = record { core = s; vectors = u }

  cond_last_sound : (op : CondLastOp) (e pg zm zdn : ℕ) → IsSoundRegisters (after_cond_last op e pg zm zdn c v)
  cond_last_sound ClastaR e pg zm zdn = x_sound zdn (last_value_or (read_x c zdn % 2 ^ e) true e pg zm v)
  cond_last_sound ClastbR e pg zm zdn = x_sound zdn (last_value_or (read_x c zdn % 2 ^ e) false e pg zm v)
  cond_last_sound ClastaV e pg zm zdn = low_sound e (last_value_or (lane_of e v zdn 0) true e pg zm v) zdn
  cond_last_sound ClastbV e pg zm zdn = low_sound e (last_value_or (lane_of e v zdn 0) false e pg zm v) zdn
  cond_last_sound ClastaZ e pg zm zdn = filled_sound (any_active (is_active e v pg) (lanes e v)) e (last_value true e pg zm v) zdn
  cond_last_sound ClastbZ e pg zm zdn = filled_sound (any_active (is_active e v pg) (lanes e v)) e (last_value false e pg zm v) zdn

  after_test_sound : (sets : Bool) (e : ℕ) (g result : List Bool) → IsSoundCore (after_test sets e (predicate_bits v) g result c)
  after_test_sound true e g result = flags_sound c (pred_test e (predicate_bits v) g result) s
  after_test_sound false e g result = s

  put_sound : (sets : Bool) (e : ℕ) (g : List Bool) (pd : ℕ) (f : ℕ → Bool) → IsSoundRegisters (with_result sets e g pd (each (predicate_bits v) f) c v)
  put_sound sets e g pd f = record { core = after_test_sound sets e g (each (predicate_bits v) f); vectors = sound_p (each (predicate_bits v) f) pd v (length-each (predicate_bits v) f) u }

  pub registers_sound : (form : SveForm) → IsSoundRegisters (after_data form c v)
  registers_sound (Binary op size pg zm zdn) = let e = lane_bits size in let a = lane_of e v zdn in let b = lane_of e v zm in record { core = s; vectors = merging_sound e pg (λ k. binary_lane op e (a k) (b k)) zdn v u }
  registers_sound (BinaryWide op size pg zm zdn) = let e = lane_bits size in let a = lane_of e v zdn in let b = covering_lane e v zm in record { core = s; vectors = merging_sound e pg (λ k. lane_op (shift_lane_op op) e (a k) (b k)) zdn v u }
  registers_sound (ShiftImm op tszh pg tszl imm3 zdn) = let tsz = tsz_of tszh tszl in record { core = s; vectors = merging_sound (shift_bits tsz) pg (shifted_by (shift_imm_lane_op op) tsz imm3 zdn v) zdn v u }
  registers_sound (Unary op size pg zn zd) = let e = lane_bits size in let a = lane_of e v zn in record { core = s; vectors = merging_sound e pg (λ k. unary_lane op e (a k)) zd v u }
  registers_sound (MulAddZ op size zm pg zn zda) = let e = lane_bits size in let sum = lane_of e v zda in let a = lane_of e v zn in let b = lane_of e v zm in record { core = s; vectors = merging_sound e pg (λ k. multiply_z op e (sum k) (a k) (b k)) zda v u }
  registers_sound (MulAddD op size zm pg za zdn) = let e = lane_bits size in let sum = lane_of e v za in let a = lane_of e v zdn in let b = lane_of e v zm in record { core = s; vectors = merging_sound e pg (λ k. multiply_d op e (sum k) (a k) (b k)) zdn v u }
  registers_sound (Plain op size zm zn zd) = let e = lane_bits size in let a = lane_of e v zn in let b = lane_of e v zm in record { core = s; vectors = plain_sound e (λ k. lane_op (plain_lane_op op) e (a k) (b k)) zd v u }
  registers_sound (LogicZ op zm zn zd) = let a = lane_of 64 v zn in let b = lane_of 64 v zm in record { core = s; vectors = plain_sound 64 (λ k. lane_op (logic_lane_op op) 64 (a k) (b k)) zd v u }
  registers_sound (PlainWide op size zm zn zd) = let e = lane_bits size in let a = lane_of e v zn in let b = covering_lane e v zm in record { core = s; vectors = plain_sound e (λ k. lane_op (shift_lane_op op) e (a k) (b k)) zd v u }
  registers_sound (PlainShift op tszh tszl imm3 zn zd) = let tsz = tsz_of tszh tszl in record { core = s; vectors = plain_sound (shift_bits tsz) (shifted_by (shift_lane_op op) tsz imm3 zn v) zd v u }
  registers_sound (Index op size y x zd) = let e = lane_bits size in record { core = s; vectors = plain_sound e (λ k. unsigned_int (index_start op c x +ℤ pos k *ℤ index_step op c y) e) zd v u }
  registers_sound (Dot op size zm zn zda) = let e = lane_bits size in let sum = lane_of e v zda in let a = lane_of e v zn in let b = lane_of e v zm in record { core = s; vectors = plain_sound e (λ k. dot_product (dot_signed op) e (sum k) (a k) (b k)) zda v u }
  registers_sound (DotIndexed op i_zm zn zda) = let dot = dot_of op in record { core = s; vectors = dot_indexed_sound dot.is_signed dot.bits (i_zm / 2 ^ dot.zm_bits) (i_zm % 2 ^ dot.zm_bits) zn zda v u }
  registers_sound (WideImm op size sh imm8 zdn) = let e = lane_bits size in let a = lane_of e v zdn in record { core = s; vectors = plain_sound e (λ k. wide_imm_lane op e (a k) (wide_unsigned sh imm8)) zdn v u }
  registers_sound (MinMaxImm op size imm8 zdn) = let e = lane_bits size in let a = lane_of e v zdn in record { core = s; vectors = plain_sound e (λ k. min_max op e (a k) imm8) zdn v u }
  registers_sound (DupImm size sh imm8 zd) = let e = lane_bits size in record { core = s; vectors = plain_sound e (λ k. wide_signed e sh imm8) zd v u }
  registers_sound (BitmaskZ op n immr imms zdn) = let a = lane_of 64 v zdn in record { core = s; vectors = plain_sound 64 (λ k. bitmask_lane_op op (a k) (unwrap_or (bitmask_of 64 (bit n) immr imms) 0)) zdn v u }
  registers_sound (CopyImm size pg m sh imm8 zd) = let e = lane_bits size in record { core = s; vectors = copied_sound m e pg (λ k. wide_signed e sh imm8) zd v u }
  registers_sound (PrefixP size m pg zn zd) = let e = lane_bits size in record { core = s; vectors = copied_sound m e pg (lane_of e v zn) zd v u }
  registers_sound (Prefix zn zd) = record { core = s; vectors = plain_sound 64 (lane_of 64 v zn) zd v u }
  registers_sound (SelectZ size zm pg zn zd) = let e = lane_bits size in let a = lane_of e v zn in let b = lane_of e v zm in record { core = s; vectors = plain_sound e (λ k. if is_active e v pg k then a k else b k) zd v u }
  registers_sound (Reduce op size pg zn vd) =
      let e : ℕ = lane_bits size in
      low_sound (reduce_bits op e) (folding e pg (reduce_step op e) (reduce_start op e) zn v) vd
  registers_sound (Count size imm4 pattern rd) = x_sound rd (count_of size imm4 pattern v)
  registers_sound (IncX op size imm4 pattern rdn) = x_sound rdn (lane_op (inc_lane_op op) 64 (read_x c rdn) (count_of size imm4 pattern v))
  registers_sound (IncZ op size imm4 pattern zdn) = lanes_sound (lane_bits size) (λ k. lane_op (inc_lane_op op) (lane_bits size) (lane_of (lane_bits size) v zdn k) (count_of size imm4 pattern v)) zdn
  registers_sound (SatX op size sf imm4 pattern rdn) = x_sound rdn (sat_counted op (width_of sf) (read_x c rdn) (count_of size imm4 pattern v))
  registers_sound (SatZ op size imm4 pattern zdn) = lanes_sound (lane_bits size) (λ k. lane_op (saturating op).0 (lane_bits size) (lane_of (lane_bits size) v zdn k) (count_of size imm4 pattern v)) zdn
  registers_sound (AddLength op rn imm6 rd) = record { core = with_x_sp_sound c rd 64 (unsigned_int (pos (read_x_sp c rn) +ℤ multiple imm6 (length_of op v)) 64) (omega arith) s; vectors = u }
  registers_sound (ReadLength imm6 rd) = x_sound rd (unsigned_int (multiple imm6 (length_of Addvl v)) 64)
  registers_sound (DupReg size rn zd) = moved_sound (lane_bits size) (λ k. Scalar) zd zd (read_x_sp c rn) zd
  registers_sound (DupLane imm2 tsz zn zd) = moved_sound (dup_bits tsz) (λ k. indexed_place (dup_index imm2 tsz) (lanes (dup_bits tsz) v)) zn zn 0 zd
  registers_sound (Insert op size src zdn) = moved_sound (lane_bits size) insr_place zdn zdn (inserted_scalar op (lane_bits size) src c v) zdn
  registers_sound (RevZ size zn zd) = moved_sound (lane_bits size) (rev_place (lanes (lane_bits size) v)) zn zn 0 zd
  registers_sound (Unpack op size zn zd) =
      let e : ℕ = lane_bits size in
      lanes_sound e (λ k. extended_by (unpacks op).1 e (e / 2) (taken (lane_of (e / 2) v zn) (lane_of (e / 2) v zn) 0 0 (half_place (unpacks op).0 (lanes e v) k))) zd
  registers_sound (Table size zm zn zd) = moved_sound (lane_bits size) (λ k. indexed_place (lane_of (lane_bits size) v zm k) (lanes (lane_bits size) v)) zn zn 0 zd
  registers_sound (Interleave op size zm zn zd) = moved_sound (lane_bits size) (interleave_place op (lanes (lane_bits size) v)) zn zm 0 zd
  registers_sound (InterleaveP op size pm pn pd) = moved_fields_sound (lane_bits size) (interleave_place op (lanes (lane_bits size) v)) pn pm pd
  registers_sound (UnpackP op pn pd) = record { core = s; vectors = sound_fields 16 (λ k. taken (is_active 8 v pn) (is_active 8 v pn) false false (half_place (is_high_p op) (lanes 16 v) k)) pd v u }
  registers_sound (RevP size pn pd) = moved_fields_sound (lane_bits size) (rev_place (lanes (lane_bits size) v)) pn pn pd
  registers_sound (Compact size pg zn zd) = moved_sound (lane_bits size) (compact_place (is_active (lane_bits size) v pg) (lanes (lane_bits size) v)) zn zn 0 zd
  registers_sound (Splice size pg zm zdn) = moved_sound (lane_bits size) (splice_place (is_active (lane_bits size) v pg) (lanes (lane_bits size) v)) zdn zm 0 zdn
  registers_sound (Ext imm8h imm8l zm zdn) = moved_sound 8 (ext_place (imm8h * 8 + imm8l) (lanes 8 v)) zdn zm 0 zdn
  registers_sound (CopyReg op size pg rn zd) = moved_sound (lane_bits size) (copy_place (is_active (lane_bits size) v pg)) zd zd (copied_scalar op (lane_bits size) rn c v) zd
  registers_sound (Last op size pg zn rd) = last_sound op (lane_bits size) pg zn rd
  registers_sound (CondLast op size pg zm zdn) = cond_last_sound op (lane_bits size) pg zm zdn
  registers_sound (CmpVec op size zm pg zn pd) = put_sound true (lane_bits size) (read_p v pg) pd _
  registers_sound (CmpWide op size zm pg zn pd) = put_sound true (lane_bits size) (read_p v pg) pd _
  registers_sound (CmpUImm op size imm7 pg zn pd) = put_sound true (lane_bits size) (read_p v pg) pd _
  registers_sound (CmpSImm op size imm5 pg zn pd) = put_sound true (lane_bits size) (read_p v pg) pd _
  registers_sound (LogicP op sets pm pg pn pd) = put_sound sets 8 (read_p v pg) pd _
  registers_sound (SelectP pm pg pn pd) = put_sound false 8 (read_p v pg) pd _
  registers_sound (Break op sets pg pn m pd) = put_sound sets 8 (read_p v pg) pd _
  registers_sound (BreakPair op sets pm pg pn pd) = put_sound sets 8 (read_p v pg) pd _
  registers_sound (BreakNext sets pg pn pdm) = put_sound sets 8 (each (predicate_bits v) (λ k. true)) pdm _
  registers_sound (Ptest pg pn) = record { core = after_test_sound true 8 (read_p v pg) (read_p v pn); vectors = u }
  registers_sound (First pg pdn) = put_sound true 8 (read_p v pg) pdn _
  registers_sound (Next size pg pdn) = put_sound true (lane_bits size) (read_p v pg) pdn _
  registers_sound (Ptrue op size pattern pd) = put_sound _ (lane_bits size) _ pd _
  registers_sound (Pfalse pd) = record { core = s; vectors = sound_p (replicate (predicate_bits v) false) pd v (length-replicate (predicate_bits v) false) u }
  registers_sound (ReadFfr op pg pd) = put_sound _ 8 (read_p v pg) pd _
  registers_sound (ReadFfrAll pd) = record { core = s; vectors = sound_p v.ffr pd v u.ffr u }
  registers_sound (WriteFfr op pn) = record { core = s; vectors = sound_ffr_bits (written_ffr op pn v) v (written_ffr_length op pn v) u }
  registers_sound (CountP size pg pn rd) = record { core = with_x_sound c rd 64 (count_lanes (lane_bits size) (predicate_bits v) (read_p v pg) (read_p v pn)) (omega arith) s; vectors = u }
  registers_sound (IncP op size pm rdn) = record { core = with_x_sound c rdn 64 (lane_op (counted_by op) 64 (read_x c rdn) (set_lanes_of (lane_bits size) pm v)) (omega arith) s; vectors = u }
  registers_sound (IncPZ op size pm zdn) = record { core = s; vectors = sound_lanes (lane_bits size) (λ k. lane_op (counted_by op) (lane_bits size) (lane_of (lane_bits size) v zdn k) (set_lanes_of (lane_bits size) pm v)) zdn v u }
  registers_sound (While op size rm sf rn pd) = put_sound true (lane_bits size) (each (predicate_bits v) (λ k. true)) pd _
  registers_sound (Cterm op sf rm rn) = record { core = flags_sound c (termination_flags (terminates op (width_of sf) (read_x c rn) (read_x c rm)) c.flags) s; vectors = u }
  -- the others reach memory
  registers_sound form = record { core = s; vectors = u }
