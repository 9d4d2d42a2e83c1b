-- What an A64 instruction does: one operation for each form. From the Arm Architecture Reference Manual for A-profile
-- (DDI 0487), C6.2 'Alphabetical list of A64 base instructions', the operation of each entry, and of vector registers
-- C7.2. The kinds of operations are this project's own.
use Rattle.std.specs.Prelude.{ℕ, ◌+◌, ◌*◌, ◌^◌, ◌==◌, Bool, true, false, List, [], ◌∷◌, Some, nat_eq, unwrap_or, if◌then◌else◌}
use Rattle.a64_insn.specs.declared.form.A64Form.{A64Form}
use Rattle.a64_insn.specs.declared.form.A64Form.TheVariants.{Adr, AddImm, LogicImm, MoveWide, Bitfield, Extract, LogicReg, AddReg, AddExt, AddCarry, CondReg, CondImm, Select, MulAdd, MulLong, MulHigh, TwoSource, OneSource, Rev, Branch, BranchCond, Compare, Test, BranchReg, Except, Hint, Barrier, ReadSys, WriteSys, LsUnsigned, LsUnscaled, LsPost, LsPre, LsReg, LsLiteral, Pair, StoreEx, LoadEx, Ordered, Atomic, CompareSwap, FMove, MoveImm}
use Rattle.emu_bits.specs.Bitmask.{bitmask_of}
use Rattle.emu_bits.specs.Fields.{bit}
use Rattle.emu_bits.specs.Flags.{cond_of, cond_holds}
use Rattle.emu_bits.specs.Numbers.{width_of, extended}
use Rattle.emu_bits.specs.Operations.{lsl, shifted, extracted}
use Rattle.emu_model.specs.declared.trap.Effect.{Effect}
use Rattle.emu_model.specs.declared.trap.Effect.TheVariants.{Next, Branch as Branching}
use Rattle.emu_model.specs.Access.{address}
use Rattle.emu_model.specs.Done.{Registers, leaves}
use Rattle.emu_model.specs.State.{Core, Vectors, read_x, read_x_sp, with_x}
use Rattle.a64_effects.specs.declared.transfer.Transfer.{Transfer}
use Rattle.a64_effects.specs.declared.transfer.Transfer.TheVariants.{Store, Load}
use Rattle.a64_effects.specs.Atomic.{low_bytes, updated, swapped}
use Rattle.a64_effects.specs.BitMoves.{after_fmov, immediate, move_value, with_immediate}
use Rattle.a64_effects.specs.Flow.{branch_target, after_branch, after_branch_to, branches_if, is_taken, tested_bit, digit, is_taken_by, system_value, with_system_value, excepted, after_barrier}
use Rattle.a64_effects.specs.LoadStore.{Transferring, Exchanging, transfer, access_bytes, literal_transfer, literal_bytes, pair_transfer, pair_bytes, ordered_transfer, base_and_imm9, indexed, pair_near, pair_address, writes_back, registers_of, is_kept, has_sp, unchanged, written_back, written_back_if, keeping, after_exclusive}
use Rattle.a64_effects.specs.Scalar.{operand, operand_sp, adr_offset, adr_target, after_add, after_add_sp, shifted_12, after_add_carry, after_logic_reg, after_logic_imm, wide_moved, after_bitfield, selected_else, after_compare, multiplied, multiplied_long, multiplied_high, of_two_sources, of_one_source, rev_width, byte_reversed}

-- What an instruction does, by the registers before it.
pub data Operation : Type 0 where
  -- leaves these scalar registers, and goes on behind the instruction
  computes : (Core → Core) → Operation
  -- leaves these scalar registers, and the step goes on so
  flows : (Core → Core) → (Core → Effect) → Operation
  -- loads or stores elements one after the other
  transfers : (Core → Transferring) → Operation
  -- loads and stores the same bytes as one step
  exchanges : (Core → Exchanging) → Operation
  -- leaves these scalar and vector registers, and goes on behind the instruction
  copies : (Core → Vectors → Registers) → Operation

-- ---- loads and stores

-- one register at an address from a base
abbrev pub one_transfer : Bool → ℕ → ℕ → ℕ → ℕ → ℕ → (Core → Core) → Transferring
one_transfer vector size opc rn rt a behind =
    let t : Transfer = transfer vector size opc in
    record {
      transfer = t;
      registers = registers_of t rt;
      address = a;
      bytes = access_bytes vector size opc;
      tests_sp = has_sp t rn;
      is_aligned = false;
      behind = behind;
    }

-- the registers that are given, at an address that stands in a register
abbrev pub at_multiple : Transfer → List ℕ → Core → ℕ → ℕ → (Core → Core) → Transferring
at_multiple t rs c size rn behind =
    record {
      transfer = t;
      registers = rs;
      address = read_x_sp c rn;
      bytes = 2 ^ size;
      tests_sp = nat_eq rn 31;
      is_aligned = true;
      behind = behind;
    }

-- ---- the forms

-- scalar registers that are computed at the width w that sf tells, where r k is the value of register k at it
abbrev pub at_width : Bool → (ℕ → (ℕ → ℕ) → Core → Core) → Operation
at_width sf after = computes (λ c. after (width_of sf) (operand (width_of sf) c) c)

abbrev pub operation_of : A64Form → Operation
operation_of (Adr op immlo immhi rd) = computes (λ c. with_x c rd 64 (adr_target op c.pc (adr_offset immlo immhi)))
operation_of (AddImm op sf sh imm rn rd) = at_width sf (λ w r c.
    after_add_sp op w rd (operand_sp w c rn) (shifted_12 sh imm) c)
-- each instruction of the row has a bitmask
operation_of (LogicImm op sf n immr imms rn rd) = at_width sf (λ w r c.
    after_logic_imm op w rd (r rn) (unwrap_or (bitmask_of w (bit n) immr imms) 0) c)
operation_of (MoveWide op sf hw imm rd) = at_width sf (λ w r c.
    with_x c rd w (wide_moved op w imm (16 * hw) (read_x c rd)))
operation_of (Bitfield op sf n r s rn rd) = computes (λ c. after_bitfield op (width_of sf) r s rn rd c)
operation_of (Extract sf n rm s rn rd) = at_width sf (λ w r c. with_x c rd w (extracted w (r rn) (r rm) s))
operation_of (LogicReg op sf shift rm amount rn rd) = at_width sf (λ w r c.
    after_logic_reg op w rd (r rn) (shifted w shift (r rm) amount) c)
operation_of (AddReg op sf shift rm amount rn rd) = at_width sf (λ w r c.
    after_add op w rd (r rn) (shifted w shift (r rm) amount) c)
operation_of (AddExt op sf rm ext a rn rd) = at_width sf (λ w r c.
    after_add_sp op w rd (operand_sp w c rn) (lsl w (extended ext (read_x c rm)) a) c)
operation_of (AddCarry op sf rm rn rd) = at_width sf (λ w r c. after_add_carry op w rd (r rn) (r rm) c)
operation_of (CondReg op sf rm cond rn f) = at_width sf (λ w r c. after_compare op w (r rn) (r rm) cond f c)
operation_of (CondImm op sf i cond rn f) = at_width sf (λ w r c. after_compare op w (r rn) i cond f c)
operation_of (Select op sf rm cond rn rd) = at_width sf (λ w r c.
    with_x c rd w (if cond_holds (cond_of cond) c.flags then r rn else selected_else op w (r rm)))
operation_of (MulAdd op sf rm ra rn rd) = at_width sf (λ w r c. with_x c rd w (multiplied op w (r ra) (r rn * r rm)))
operation_of (MulLong op rm ra rn rd) = computes (λ c.
    with_x c rd 64 (multiplied_long op (operand 64 c ra) (operand 32 c rn) (operand 32 c rm)))
operation_of (MulHigh op rm rn rd) = computes (λ c.
    with_x c rd 64 (multiplied_high op (operand 64 c rn) (operand 64 c rm)))
operation_of (TwoSource op sf rm rn rd) = at_width sf (λ w r c. with_x c rd w (of_two_sources op w (r rn) (r rm)))
operation_of (OneSource op sf rn rd) = at_width sf (λ w r c. with_x c rd w (of_one_source op w (r rn)))
operation_of (Rev op rn rd) = computes (λ c.
    with_x c rd (rev_width op) (byte_reversed op (operand (rev_width op) c rn)))
operation_of (Branch op imm26) = flows (after_branch op) (λ c. Branching (branch_target c 26 imm26))
operation_of (BranchCond imm19 cond) = flows unchanged (λ c.
    branches_if (cond_holds (cond_of cond) c.flags) (branch_target c 19 imm19))
operation_of (Compare op sf imm19 rt) = flows unchanged (λ c.
    branches_if (is_taken op (operand (width_of sf) c rt)) (branch_target c 19 imm19))
operation_of (Test op b5 b40 imm14 rt) = flows unchanged (λ c.
    branches_if (is_taken_by op (digit (read_x c rt) (tested_bit b5 b40))) (branch_target c 14 imm14))
-- blr reads its register before it writes x30
operation_of (BranchReg op rn) = flows (after_branch_to op) (λ c. Branching (read_x c rn))
operation_of (Except op imm16) = flows unchanged (λ c. excepted op c.pc)
operation_of (Hint n) = flows unchanged (λ c. Next)
operation_of (Barrier op n) = flows (after_barrier op) (λ c. Next)
operation_of (ReadSys op rt) = flows (λ c. with_x c rt 64 (system_value op c)) (λ c. Next)
operation_of (WriteSys op rt) = flows (λ c. with_system_value op (read_x c rt) c) (λ c. Next)
operation_of (LsUnsigned size vector opc imm12 rn rt) = transfers (λ c.
    one_transfer vector size opc rn rt (address (read_x_sp c rn + access_bytes vector size opc * imm12)) unchanged)
operation_of (LsUnscaled size vector opc imm9 rn rt) = transfers (λ c.
    one_transfer vector size opc rn rt (base_and_imm9 c rn imm9) unchanged)
operation_of (LsPost size vector opc imm9 rn rt) = transfers (λ c.
    one_transfer vector size opc rn rt (read_x_sp c rn) (written_back rn (base_and_imm9 c rn imm9)))
operation_of (LsPre size vector opc imm9 rn rt) = transfers (λ c.
    one_transfer vector size opc rn rt (base_and_imm9 c rn imm9) (written_back rn (base_and_imm9 c rn imm9)))
operation_of (LsReg size vector opc rm ext s rn rt) = transfers (λ c.
    one_transfer vector size opc rn rt (indexed c rn rm ext s (access_bytes vector size opc)) unchanged)
operation_of (LsLiteral opc vector imm19 rt) = transfers (λ c. record {
  transfer = literal_transfer vector opc;
  registers = registers_of (literal_transfer vector opc) rt;
  address = branch_target c 19 imm19;
  bytes = literal_bytes vector opc;
  tests_sp = false;
  is_aligned = false;
  behind = unchanged;
})
operation_of (Pair opc vector mode l imm7 rt2 rn rt) = transfers (λ c. record {
  transfer = pair_transfer vector opc l;
  registers = rt ∷ rt2 ∷ [];
  address = pair_address c mode rn (pair_bytes vector opc) imm7;
  bytes = pair_bytes vector opc;
  tests_sp = nat_eq rn 31;
  is_aligned = false;
  behind = written_back_if (writes_back mode) rn (pair_near c rn (pair_bytes vector opc) imm7);
})
-- an exclusive store whose monitor keeps another address or size has no element
operation_of (StoreEx op size rs rn rt) = transfers (λ c.
    let kept : Bool = is_kept c.monitor (read_x_sp c rn) (2 ^ size) in
    at_multiple Store (if kept then rt ∷ [] else []) c size rn (after_exclusive rs kept))
operation_of (LoadEx op size rn rt) = transfers (λ c.
    at_multiple Load (rt ∷ []) c size rn (keeping (read_x_sp c rn) (2 ^ size)))
operation_of (Ordered op size rn rt) = transfers (λ c.
    at_multiple (ordered_transfer op) (registers_of (ordered_transfer op) rt) c size rn unchanged)
-- Rt gets the old value
operation_of (Atomic op size acquires releases rs rn rt) = exchanges (λ c. record {
  address = read_x_sp c rn;
  bytes = 2 ^ size;
  tests_sp = nat_eq rn 31;
  new = λ o. Some (updated op (2 ^ size) o (low_bytes (2 ^ size) c rs));
  behind = with_x c rt 64;
})
-- Rs gets the old value
operation_of (CompareSwap size acquires releases rs rn rt) = exchanges (λ c. record {
  address = read_x_sp c rn;
  bytes = 2 ^ size;
  tests_sp = nat_eq rn 31;
  new = λ o. swapped (o == low_bytes (2 ^ size) c rs) (low_bytes (2 ^ size) c rt);
  behind = with_x c rs 64;
})
operation_of (FMove op rn rd) = copies (after_fmov op rn rd)
operation_of (MoveImm q op abc cmode defgh rd) = copies (λ c v.
    leaves c (with_immediate q (move_value op cmode (immediate abc defgh)) rd v))
