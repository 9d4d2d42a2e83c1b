-- Each row leaves sound registers, and goes on at a word.
use Rattle.std.specs.Prelude.{◌*◌, ◌^◌, if◌then◌else◌, unwrap_or, pos, ◌*ℤ◌}
use Rattle.std.proofs.Common.{arith}
use Rattle.a64_insn.specs.declared.form.A64Form.{A64Form}
use Rattle.a64_insn.specs.declared.form.A64Form.TheVariants.{Adr, AddImm, LogicImm, MoveWide, Bitfield, Extract, LogicReg, AddReg, AddExt, AddCarry, CondReg, CondImm, Select, MulAdd, MulLong, MulHigh, TwoSource, OneSource, Rev, Branch, BranchCond, Compare, Test, BranchReg, Except, Hint, Barrier, ReadSys, WriteSys, LsUnsigned, LsUnscaled, LsPost, LsPre, LsReg, LsLiteral, Pair, StoreEx, LoadEx, Ordered, Atomic, CompareSwap, FMove, MoveImm}
use Rattle.emu_bits.specs.Bitmask.{bitmask_of}
use Rattle.emu_bits.specs.Fields.{bit, field}
use Rattle.emu_bits.specs.Flags.{cond_of, cond_holds, flags_of_number}
use Rattle.emu_bits.specs.Numbers.{width_of, signed, extended}
use Rattle.emu_bits.specs.Operations.{lsl, shifted, extracted, field_from, field_bits, field_to}
use Rattle.emu_model.specs.Sound.{with_x_sound, flags_sound}
use Rattle.emu_model.specs.SoundDone.{IsSoundEffect, IsSoundRegisters}
use Rattle.emu_model.specs.State.{Core, Vectors, read_x, read_x_sp}
use Rattle.emu_model.specs.SoundState.{IsSoundCore, IsSoundVectors}
use Rattle.a64_effects.specs.BitMoves.{immediate, move_value}
use Rattle.a64_effects.specs.Flow.{branch_target, is_taken, tested_bit, digit, is_taken_by, system_value}
use Rattle.a64_effects.specs.LoadStore.{base_and_imm9, pair_near, pair_bytes, writes_back, is_kept}
use Rattle.a64_effects.specs.Operations.{Operation, computes, flows, transfers, exchanges, copies, operation_of}
use Rattle.a64_effects.specs.Scalar.{operand, operand_sp, adr_offset, adr_target, shifted_12, wide_moved, bitfield_moved, flags_of_compare, selected_else, multiplied, multiplied_long, multiplied_high, of_two_sources, of_one_source, rev_width, byte_reversed}
use Rattle.a64_effects.specs.SoundBitMoves.{copied_sound, immediate_sound}
use Rattle.a64_effects.specs.SoundFlow.{offset_is_word, read_x_is_word, read_x_sp_is_word, barrier_sound, system_sound, branch_sound, branch_to_sound, branches_if_sound, excepted_sound}
use Rattle.a64_effects.specs.SoundLoadStore.{IsSoundTransferring, IsSoundExchanging, written_back_sound, written_back_if_sound, keeping_sound, after_exclusive_sound, multiple_is_word}
use Rattle.a64_effects.specs.SoundScalar.{width_in_word, rev_width_in_word, add_sound, add_sp_sound, add_carry_sound, logic_reg_sound, logic_imm_sound}

abbrev pub IsSoundOperation : Operation → Type 0
IsSoundOperation (computes after) = (c : Core) → IsSoundCore c → IsSoundCore (after c)
IsSoundOperation (flows after effect) = (c : Core) → IsSoundCore c → IsSoundCore (after c) × IsSoundEffect (effect c)
IsSoundOperation (transfers row) = (c : Core) → IsSoundCore c → IsSoundTransferring (row c)
IsSoundOperation (exchanges row) = (c : Core) → IsSoundCore c → IsSoundExchanging (row c)
IsSoundOperation (copies after) = (c : Core) (v : Vectors) → IsSoundCore c → IsSoundVectors v → IsSoundRegisters (after c v)

pub operation_sound : (form : A64Form) → IsSoundOperation (operation_of form)
operation_sound (Adr op immlo immhi rd) = λ c s. with_x_sound c rd 64 (adr_target op c.pc (adr_offset immlo immhi)) (omega arith) s
operation_sound (AddImm op sf sh imm rn rd) = λ c s. add_sp_sound (width_of sf) rd (width_in_word sf) c s op (operand_sp (width_of sf) c rn) (shifted_12 sh imm)
operation_sound (LogicImm op sf n immr imms rn rd) = λ c s. logic_imm_sound (width_of sf) rd (width_in_word sf) c s op (operand (width_of sf) c rn) (unwrap_or (bitmask_of (width_of sf) (bit n) immr imms) 0)
operation_sound (MoveWide op sf hw imm rd) = λ c s. with_x_sound c rd (width_of sf) (wide_moved op (width_of sf) imm (16 * hw) (read_x c rd)) (width_in_word sf) s
operation_sound (Bitfield op sf n r s rn rd) = λ c t. with_x_sound c rd (width_of sf) (bitfield_moved op (width_of sf) (field_to (width_of sf) r s) (field_bits r s) (field (operand (width_of sf) c rn) (field_from r s) (field_bits r s)) (operand (width_of sf) c rd)) (width_in_word sf) t
operation_sound (Extract sf n rm s rn rd) = λ c t. with_x_sound c rd (width_of sf) (extracted (width_of sf) (operand (width_of sf) c rn) (operand (width_of sf) c rm) s) (width_in_word sf) t
operation_sound (LogicReg op sf shift rm amount rn rd) = λ c s. logic_reg_sound (width_of sf) rd (width_in_word sf) c s op (operand (width_of sf) c rn) (shifted (width_of sf) shift (operand (width_of sf) c rm) amount)
operation_sound (AddReg op sf shift rm amount rn rd) = λ c s. add_sound (width_of sf) rd (width_in_word sf) c s op (operand (width_of sf) c rn) (shifted (width_of sf) shift (operand (width_of sf) c rm) amount)
operation_sound (AddExt op sf rm ext a rn rd) = λ c s. add_sp_sound (width_of sf) rd (width_in_word sf) c s op (operand_sp (width_of sf) c rn) (lsl (width_of sf) (extended ext (read_x c rm)) a)
operation_sound (AddCarry op sf rm rn rd) = λ c s. add_carry_sound (width_of sf) rd (width_in_word sf) c s op (operand (width_of sf) c rn) (operand (width_of sf) c rm)
operation_sound (CondReg op sf rm cond rn f) = λ c s. flags_sound c (if cond_holds (cond_of cond) c.flags then flags_of_compare op (width_of sf) (operand (width_of sf) c rn) (operand (width_of sf) c rm) else flags_of_number f) s
operation_sound (CondImm op sf i cond rn f) = λ c s. flags_sound c (if cond_holds (cond_of cond) c.flags then flags_of_compare op (width_of sf) (operand (width_of sf) c rn) i else flags_of_number f) s
operation_sound (Select op sf rm cond rn rd) = λ c s. with_x_sound c rd (width_of sf) (if cond_holds (cond_of cond) c.flags then operand (width_of sf) c rn else selected_else op (width_of sf) (operand (width_of sf) c rm)) (width_in_word sf) s
operation_sound (MulAdd op sf rm ra rn rd) = λ c s. with_x_sound c rd (width_of sf) (multiplied op (width_of sf) (operand (width_of sf) c ra) (operand (width_of sf) c rn * operand (width_of sf) c rm)) (width_in_word sf) s
operation_sound (MulLong op rm ra rn rd) = λ c s. with_x_sound c rd 64 (multiplied_long op (operand 64 c ra) (operand 32 c rn) (operand 32 c rm)) (omega arith) s
operation_sound (MulHigh op rm rn rd) = λ c s. with_x_sound c rd 64 (multiplied_high op (operand 64 c rn) (operand 64 c rm)) (omega arith) s
operation_sound (TwoSource op sf rm rn rd) = λ c s. with_x_sound c rd (width_of sf) (of_two_sources op (width_of sf) (operand (width_of sf) c rn) (operand (width_of sf) c rm)) (width_in_word sf) s
operation_sound (OneSource op sf rn rd) = λ c s. with_x_sound c rd (width_of sf) (of_one_source op (width_of sf) (operand (width_of sf) c rn)) (width_in_word sf) s
operation_sound (Rev op rn rd) = λ c s. with_x_sound c rd (rev_width op) (byte_reversed op (operand (rev_width op) c rn)) (rev_width_in_word op) s
operation_sound (Branch op imm26) = λ c s. (branch_sound op c s, offset_is_word c.pc (pos 4 *ℤ signed imm26 26))
operation_sound (BranchCond imm19 cond) = λ c s. (s, branches_if_sound (cond_holds (cond_of cond) c.flags) (branch_target c 19 imm19) (offset_is_word c.pc (pos 4 *ℤ signed imm19 19)))
operation_sound (Compare op sf imm19 rt) = λ c s. (s, branches_if_sound (is_taken op (operand (width_of sf) c rt)) (branch_target c 19 imm19) (offset_is_word c.pc (pos 4 *ℤ signed imm19 19)))
operation_sound (Test op b5 b40 imm14 rt) = λ c s. (s, branches_if_sound (is_taken_by op (digit (read_x c rt) (tested_bit b5 b40))) (branch_target c 14 imm14) (offset_is_word c.pc (pos 4 *ℤ signed imm14 14)))
operation_sound (BranchReg op rn) = λ c s. (branch_to_sound op c s, read_x_is_word c rn s)
operation_sound (Except op imm16) = λ c s. (s, excepted_sound op c.pc s.pc)
operation_sound (Hint n) = λ c s. (s, tt)
operation_sound (Barrier op n) = λ c s. (barrier_sound op c s, tt)
operation_sound (ReadSys op rt) = λ c s. (with_x_sound c rt 64 (system_value op c) (omega arith) s, tt)
operation_sound (WriteSys op rt) = λ c s. (system_sound op (read_x c rt) c (read_x_is_word c rt s) s, tt)
operation_sound (LsUnsigned size v opc imm12 rn rt) = λ c s. record { address = tt; behind = λ d t. t }
operation_sound (LsUnscaled size v opc imm9 rn rt) = λ c s. record { address = tt; behind = λ d t. t }
operation_sound (LsPost size v opc imm9 rn rt) = λ c s. record { address = tt; behind = written_back_sound rn (base_and_imm9 c rn imm9) }
operation_sound (LsPre size v opc imm9 rn rt) = λ c s. record { address = tt; behind = written_back_sound rn (base_and_imm9 c rn imm9) }
operation_sound (LsReg size v opc rm ext s rn rt) = λ c t. record { address = tt; behind = λ d u. u }
operation_sound (LsLiteral opc v imm19 rt) = λ c s. record { address = tt; behind = λ d t. t }
operation_sound (Pair opc v mode l imm7 rt2 rn rt) = λ c s. record { address = tt; behind = written_back_if_sound (writes_back mode) rn (pair_near c rn (pair_bytes v opc) imm7) }
operation_sound (StoreEx op size rs rn rt) = λ c s. record {
  address = multiple_is_word (read_x_sp c rn) (2 ^ size) (read_x_sp_is_word c rn s);
  behind = after_exclusive_sound rs (is_kept c.monitor (read_x_sp c rn) (2 ^ size));
}
operation_sound (LoadEx op size rn rt) = λ c s. record {
  address = multiple_is_word (read_x_sp c rn) (2 ^ size) (read_x_sp_is_word c rn s);
  behind = keeping_sound (read_x_sp c rn) (2 ^ size) (read_x_sp_is_word c rn s);
}
operation_sound (Ordered op size rn rt) = λ c s. record { address = multiple_is_word (read_x_sp c rn) (2 ^ size) (read_x_sp_is_word c rn s); behind = λ d t. t }
operation_sound (Atomic op size acquires releases rs rn rt) = λ c s. record { address = read_x_sp_is_word c rn s; behind = λ o. with_x_sound c rt 64 o (omega arith) s }
operation_sound (CompareSwap size acquires releases rs rn rt) = λ c s. record { address = read_x_sp_is_word c rn s; behind = λ o. with_x_sound c rs 64 o (omega arith) s }
operation_sound (FMove op rn rd) = λ c v s u. copied_sound c v s u op rn rd
operation_sound (MoveImm q op abc cmode defgh rd) = λ c v s u. immediate_sound c v s u q (move_value op cmode (immediate abc defgh)) rd
