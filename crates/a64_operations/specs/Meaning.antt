-- What an operation with its operands made ready does, in the words of the definitions of A64 instructions. Register 31
-- is SP exactly where the operation's type says so.
use Rattle.std.specs.Prelude.{ℕ, ◌+◌, ◌*◌, ◌^◌, [], ◌∷◌, false, nat_eq, if◌then◌else◌, ℤ}
use Rattle.a64_insn.specs.declared.ops.AdrOp.{AdrOp}
use Rattle.a64_insn.specs.declared.ops.AdrOp.TheVariants.{Adr as AdrByte, Adrp as AdrPage}
use Rattle.a64_insn.specs.declared.ops.AddOp.{AddOp}
use Rattle.a64_insn.specs.declared.ops.AddOp.TheVariants.{Add, Adds, Sub, Subs}
use Rattle.a64_insn.specs.declared.ops.LogicRegOp.{LogicRegOp}
use Rattle.a64_insn.specs.declared.ops.LogicRegOp.TheVariants.{And, Bic, Orr, Orn, Eor, Ands}
use Rattle.a64_insn.specs.declared.ops.LogicImmOp.{LogicImmOp}
use Rattle.a64_insn.specs.declared.ops.LogicImmOp.TheVariants.{And as AndImm, Orr as OrrImm, Eor as EorImm, Ands as AndsImm}
use Rattle.a64_insn.specs.declared.ops.SelectOp.{SelectOp}
use Rattle.a64_insn.specs.declared.ops.SelectOp.TheVariants.{Csel, Csinc, Csinv, Csneg}
use Rattle.a64_insn.specs.declared.ops.MulAddOp.{MulAddOp}
use Rattle.a64_insn.specs.declared.ops.MulAddOp.TheVariants.{Madd, Msub}
use Rattle.a64_insn.specs.declared.ops.TwoSourceOp.{TwoSourceOp}
use Rattle.a64_insn.specs.declared.ops.TwoSourceOp.TheVariants.{Udiv, Lslv, Lsrv}
use Rattle.a64_insn.specs.declared.ops.CompareOp.{CompareOp}
use Rattle.a64_insn.specs.declared.ops.CompareOp.TheVariants.{Cbz, Cbnz}
use Rattle.a64_insn.specs.declared.ops.TestOp.{TestOp}
use Rattle.a64_insn.specs.declared.ops.TestOp.TheVariants.{Tbz as TestZero, Tbnz as TestOne}
use Rattle.emu_bits.specs.declared.flags.Cond.{Cond}
use Rattle.emu_bits.specs.declared.flags.Cond.TheVariants.{Eq, Ne, Cs, Cc, Mi, Hi, Ls, Ge, Lt, Gt, Le}
use Rattle.emu_bits.specs.Flags.{cond_holds}
use Rattle.emu_bits.specs.Numbers.{extended, width_of}
use Rattle.emu_bits.specs.Operations.{lsl, lsr, asr, shifted, replaced}
use Rattle.emu_model.specs.declared.trap.Effect.TheVariants.{Next, Branch as Branching}
use Rattle.emu_model.specs.Access.{address}
use Rattle.emu_model.specs.State.{read_x, read_x_sp, with_x}
use Rattle.a64_effects.specs.declared.transfer.Transfer.{Transfer}
use Rattle.a64_effects.specs.declared.transfer.Transfer.TheVariants.{Store, Load}
use Rattle.a64_effects.specs.Flow.{moved_address, linked, branches_if, is_taken, is_taken_by, digit}
use Rattle.a64_effects.specs.LoadStore.{unchanged, written_back, written_back_if, writes_back}
use Rattle.a64_effects.specs.Operations.{Operation, computes, flows, transfers, one_transfer}
use Rattle.a64_effects.specs.Scalar.{operand, operand_sp, adr_target, after_add, after_add_sp, after_logic_reg}
use Rattle.a64_effects.specs.Scalar.{after_logic_imm, selected_else, multiplied, of_two_sources}
use Rattle.a64_operations.specs.declared.operation.Operation.{Operation as Ready}
use Rattle.a64_operations.specs.declared.operation.Operation.TheVariants.{ByForm, Nothing}
use Rattle.a64_operations.specs.declared.operation.Operation.TheVariants.{AddImmX, SubImmX, AddsImmX, SubsImmX}
use Rattle.a64_operations.specs.declared.operation.Operation.TheVariants.{AddRegX, SubRegX, AddsRegX, SubsRegX}
use Rattle.a64_operations.specs.declared.operation.Operation.TheVariants.{AddImmW, SubImmW, AddsImmW, SubsImmW}
use Rattle.a64_operations.specs.declared.operation.Operation.TheVariants.{AddRegW, SubRegW, AddsRegW, SubsRegW}
use Rattle.a64_operations.specs.declared.operation.Operation.TheVariants.{AddLsr, AddUxtw, AddSxtw}
use Rattle.a64_operations.specs.declared.operation.Operation.TheVariants.{AndImmX, AndImmW, OrrImmX, OrrImmW}
use Rattle.a64_operations.specs.declared.operation.Operation.TheVariants.{EorImmX, EorImmW, AndsImmX, AndsImmW}
use Rattle.a64_operations.specs.declared.operation.Operation.TheVariants.{AndRegX, BicRegX, OrrRegX, OrnRegX, EorRegX}
use Rattle.a64_operations.specs.declared.operation.Operation.TheVariants.{AndsRegX, AndRegW, BicRegW, OrrRegW, OrnRegW}
use Rattle.a64_operations.specs.declared.operation.Operation.TheVariants.{EorRegW, AndsRegW, EorLsrW}
use Rattle.a64_operations.specs.declared.operation.Operation.TheVariants.{Mov, Movk, Adr, Adrp}
use Rattle.a64_operations.specs.declared.operation.Operation.TheVariants.{UbfmX, SbfmX, UbfmW, SbfmW}
use Rattle.a64_operations.specs.declared.operation.Operation.TheVariants.{LslvX, LsrvX, UdivX, MaddX, MsubX}
use Rattle.a64_operations.specs.declared.operation.Operation.TheVariants.{CselX, CsincX, CsinvX, CsnegX}
use Rattle.a64_operations.specs.declared.operation.Operation.TheVariants.{LslvW, LsrvW, UdivW, MaddW, MsubW}
use Rattle.a64_operations.specs.declared.operation.Operation.TheVariants.{CselW, CsincW, CsinvW, CsnegW}
use Rattle.a64_operations.specs.declared.operation.Operation.TheVariants.{B, Bl, BEq, BNe, BCs, BCc, BMi}
use Rattle.a64_operations.specs.declared.operation.Operation.TheVariants.{BHi, BLs, BGe, BLt, BGt, BLe, BCond}
use Rattle.a64_operations.specs.declared.operation.Operation.TheVariants.{CbzX, CbnzX, CbzW, CbnzW, Tbz, Tbnz}
use Rattle.a64_operations.specs.declared.operation.Operation.TheVariants.{Br, Blr}
use Rattle.a64_operations.specs.declared.operation.Operation.TheVariants.{LdrB, StrB, LdrH, StrH, LdrW, StrW}
use Rattle.a64_operations.specs.declared.operation.Operation.TheVariants.{LdrX, StrX, Ldrsw}
use Rattle.a64_operations.specs.declared.operation.Operation.TheVariants.{LdrBLsl, LdrBUxtw, LdrBSxtw, StrBLsl}
use Rattle.a64_operations.specs.declared.operation.Operation.TheVariants.{LdrHLsl, StrHLsl}
use Rattle.a64_operations.specs.declared.operation.Operation.TheVariants.{LdrWLsl, LdrWUxtw, LdrWSxtw, StrWLsl}
use Rattle.a64_operations.specs.declared.operation.Operation.TheVariants.{LdrXLsl, LdrXUxtw, LdrXSxtw, StrXLsl}
use Rattle.a64_operations.specs.declared.operation.Operation.TheVariants.{LdrswLsl}
use Rattle.a64_operations.specs.declared.operation.Operation.TheVariants.{LdrBPost, StrBPost, LdrWPost, StrWPost}
use Rattle.a64_operations.specs.declared.operation.Operation.TheVariants.{LdrXPost, StrXPost, LdrXPre, StrXPre}
use Rattle.a64_operations.specs.declared.operation.Operation.TheVariants.{Ldp, Stp, LdpPost, StpPost, LdpPre, StpPre}

-- ---- on registers alone

-- a sum with an immediate, or its difference
abbrev pub sum_imm : AddOp → ℕ → ℕ → ℕ → ℕ → Operation
sum_imm op w d n imm = computes (λ c. after_add_sp op w d (operand_sp w c n) imm c)

-- a sum with a register that is shifted, or its difference
abbrev pub sum_reg : AddOp → ℕ → ℕ → ℕ → ℕ → ℕ → ℕ → Operation
sum_reg op w shift d n m k = computes (λ c. after_add op w d (operand w c n) (shifted w shift (operand w c m) k) c)

-- a sum with an extended register that is moved left
abbrev pub sum_ext : ℕ → ℕ → ℕ → ℕ → ℕ → Operation
sum_ext ext d n m k = computes (λ c. after_add_sp Add 64 d (operand_sp 64 c n) (lsl 64 (extended ext (read_x c m)) k) c)

abbrev pub logic_imm : LogicImmOp → ℕ → ℕ → ℕ → ℕ → Operation
logic_imm op w d n mask = computes (λ c. after_logic_imm op w d (operand w c n) mask c)

abbrev pub logic_reg : LogicRegOp → ℕ → ℕ → ℕ → ℕ → ℕ → ℕ → Operation
logic_reg op w shift d n m k = computes (λ c. after_logic_reg op w d (operand w c n) (shifted w shift (operand w c m) k) c)

-- a number by its low and its high 32 bits
abbrev pub joined : ℕ → ℕ → ℕ
joined low high = low + high * 2 ^ 32

abbrev pub address_near : AdrOp → ℕ → ℤ → Operation
address_near op d by = computes (λ c. with_x c d 64 (adr_target op c.pc by))

abbrev pub of_two : TwoSourceOp → ℕ → ℕ → ℕ → ℕ → Operation
of_two op w d n m = computes (λ c. with_x c d w (of_two_sources op w (operand w c n) (operand w c m)))

abbrev pub multiply : MulAddOp → ℕ → ℕ → ℕ → ℕ → ℕ → Operation
multiply op w d n m a = computes (λ c. with_x c d w (multiplied op w (operand w c a) (operand w c n * operand w c m)))

abbrev pub selection : SelectOp → ℕ → ℕ → ℕ → ℕ → Cond → Operation
selection op w d n m cond = computes (λ c.
    with_x c d w (if cond_holds cond c.flags then operand w c n else selected_else op w (operand w c m)))

-- ---- branches

abbrev pub branch_if_flags : Cond → ℤ → Operation
branch_if_flags cond by = flows unchanged (λ c. branches_if (cond_holds cond c.flags) (moved_address c.pc by))

abbrev pub branch_if_operand : CompareOp → ℕ → ℕ → ℤ → Operation
branch_if_operand op w t by = flows unchanged (λ c. branches_if (is_taken op (operand w c t)) (moved_address c.pc by))

abbrev pub branch_if_bit : TestOp → ℕ → ℕ → ℤ → Operation
branch_if_bit op t place by = flows unchanged (λ c. branches_if (is_taken_by op (digit (read_x c t) place)) (moved_address c.pc by))

-- ---- loads and stores of general registers, by size and opc

-- so many bytes from a base
abbrev pub at_offset : ℕ → ℕ → ℕ → ℕ → ℤ → Operation
at_offset size opc t n by = transfers (λ c. one_transfer false size opc n t (moved_address (read_x_sp c n) by) unchanged)

-- an extended register from a base, moved left
abbrev pub at_index : ℕ → ℕ → ℕ → ℕ → ℕ → ℕ → ℕ → Operation
at_index size opc ext t n m k = transfers (λ c.
    one_transfer false size opc n t (address (read_x_sp c n + extended ext (read_x c m) * 2 ^ k)) unchanged)

-- the base itself, which is then so many bytes on
abbrev pub at_base : ℕ → ℕ → ℕ → ℕ → ℤ → Operation
at_base size opc t n by = transfers (λ c.
    one_transfer false size opc n t (read_x_sp c n) (written_back n (moved_address (read_x_sp c n) by)))

-- so many bytes from a base, which is then there
abbrev pub before_access : ℕ → ℕ → ℕ → ℕ → ℤ → Operation
before_access size opc t n by = transfers (λ c.
    one_transfer false size opc n t (moved_address (read_x_sp c n) by) (written_back n (moved_address (read_x_sp c n) by)))

-- two registers of 64 bits, by the mode
abbrev pub two_registers : Transfer → ℕ → ℕ → ℕ → ℕ → ℤ → Operation
two_registers transfer mode t u n by = transfers (λ c.
    let there : ℕ = moved_address (read_x_sp c n) by in
    record {
      transfer = transfer;
      registers = t ∷ u ∷ [];
      address = if nat_eq mode 1 then read_x_sp c n else there;
      bytes = 8;
      tests_sp = nat_eq n 31;
      is_aligned = false;
      behind = written_back_if (writes_back mode) n there;
    })

-- ---- each operation

abbrev pub meaning_of : Ready → Operation
meaning_of ByForm = flows unchanged (λ c. Next)
meaning_of Nothing = flows unchanged (λ c. Next)
meaning_of (AddImmX d n imm) = sum_imm Add 64 d n imm
meaning_of (SubImmX d n imm) = sum_imm Sub 64 d n imm
meaning_of (AddsImmX d n imm) = sum_imm Adds 64 d n imm
meaning_of (SubsImmX d n imm) = sum_imm Subs 64 d n imm
meaning_of (AddRegX d n m amount) = sum_reg Add 64 0 d n m amount
meaning_of (SubRegX d n m amount) = sum_reg Sub 64 0 d n m amount
meaning_of (AddsRegX d n m amount) = sum_reg Adds 64 0 d n m amount
meaning_of (SubsRegX d n m amount) = sum_reg Subs 64 0 d n m amount
meaning_of (AddImmW d n imm) = sum_imm Add 32 d n imm
meaning_of (SubImmW d n imm) = sum_imm Sub 32 d n imm
meaning_of (AddsImmW d n imm) = sum_imm Adds 32 d n imm
meaning_of (SubsImmW d n imm) = sum_imm Subs 32 d n imm
meaning_of (AddRegW d n m amount) = sum_reg Add 32 0 d n m amount
meaning_of (SubRegW d n m amount) = sum_reg Sub 32 0 d n m amount
meaning_of (AddsRegW d n m amount) = sum_reg Adds 32 0 d n m amount
meaning_of (SubsRegW d n m amount) = sum_reg Subs 32 0 d n m amount
meaning_of (AddLsr sf d n m amount) = sum_reg Add (width_of sf) 1 d n m amount
meaning_of (AddUxtw d n m amount) = sum_ext 2 d n m amount
meaning_of (AddSxtw d n m amount) = sum_ext 6 d n m amount
meaning_of (AndImmX d n low high) = logic_imm AndImm 64 d n (joined low high)
meaning_of (AndImmW d n mask) = logic_imm AndImm 32 d n mask
meaning_of (OrrImmX d n low high) = logic_imm OrrImm 64 d n (joined low high)
meaning_of (OrrImmW d n mask) = logic_imm OrrImm 32 d n mask
meaning_of (EorImmX d n low high) = logic_imm EorImm 64 d n (joined low high)
meaning_of (EorImmW d n mask) = logic_imm EorImm 32 d n mask
meaning_of (AndsImmX d n low high) = logic_imm AndsImm 64 d n (joined low high)
meaning_of (AndsImmW d n mask) = logic_imm AndsImm 32 d n mask
meaning_of (AndRegX d n m amount) = logic_reg And 64 0 d n m amount
meaning_of (BicRegX d n m amount) = logic_reg Bic 64 0 d n m amount
meaning_of (OrrRegX d n m amount) = logic_reg Orr 64 0 d n m amount
meaning_of (OrnRegX d n m amount) = logic_reg Orn 64 0 d n m amount
meaning_of (EorRegX d n m amount) = logic_reg Eor 64 0 d n m amount
meaning_of (AndsRegX d n m amount) = logic_reg Ands 64 0 d n m amount
meaning_of (AndRegW d n m amount) = logic_reg And 32 0 d n m amount
meaning_of (BicRegW d n m amount) = logic_reg Bic 32 0 d n m amount
meaning_of (OrrRegW d n m amount) = logic_reg Orr 32 0 d n m amount
meaning_of (OrnRegW d n m amount) = logic_reg Orn 32 0 d n m amount
meaning_of (EorRegW d n m amount) = logic_reg Eor 32 0 d n m amount
meaning_of (AndsRegW d n m amount) = logic_reg Ands 32 0 d n m amount
meaning_of (EorLsrW d n m amount) = logic_reg Eor 32 1 d n m amount
meaning_of (Mov d low high) = computes (λ c. with_x c d 64 (joined low high))
meaning_of (Movk sf d old hw imm) = computes (λ c. with_x c d (width_of sf) (replaced (read_x c old) (16 * hw) 16 imm))
meaning_of (Adr d by) = address_near AdrByte d by
meaning_of (Adrp d by) = address_near AdrPage d by
meaning_of (UbfmX d n left right) = computes (λ c. with_x c d 64 (lsr (lsl 64 (operand 64 c n) left) right))
meaning_of (SbfmX d n left right) = computes (λ c. with_x c d 64 (asr 64 (lsl 64 (operand 64 c n) left) right))
meaning_of (UbfmW d n left right) = computes (λ c. with_x c d 32 (lsr (lsl 32 (operand 32 c n) left) right))
meaning_of (SbfmW d n left right) = computes (λ c. with_x c d 32 (asr 32 (lsl 32 (operand 32 c n) left) right))
meaning_of (LslvX d n m) = of_two Lslv 64 d n m
meaning_of (LsrvX d n m) = of_two Lsrv 64 d n m
meaning_of (UdivX d n m) = of_two Udiv 64 d n m
meaning_of (MaddX d n m a) = multiply Madd 64 d n m a
meaning_of (MsubX d n m a) = multiply Msub 64 d n m a
meaning_of (CselX d n m cond) = selection Csel 64 d n m cond
meaning_of (CsincX d n m cond) = selection Csinc 64 d n m cond
meaning_of (CsinvX d n m cond) = selection Csinv 64 d n m cond
meaning_of (CsnegX d n m cond) = selection Csneg 64 d n m cond
meaning_of (LslvW d n m) = of_two Lslv 32 d n m
meaning_of (LsrvW d n m) = of_two Lsrv 32 d n m
meaning_of (UdivW d n m) = of_two Udiv 32 d n m
meaning_of (MaddW d n m a) = multiply Madd 32 d n m a
meaning_of (MsubW d n m a) = multiply Msub 32 d n m a
meaning_of (CselW d n m cond) = selection Csel 32 d n m cond
meaning_of (CsincW d n m cond) = selection Csinc 32 d n m cond
meaning_of (CsinvW d n m cond) = selection Csinv 32 d n m cond
meaning_of (CsnegW d n m cond) = selection Csneg 32 d n m cond
meaning_of (B by) = flows unchanged (λ c. Branching (moved_address c.pc by))
meaning_of (Bl by) = flows linked (λ c. Branching (moved_address c.pc by))
meaning_of (BEq by) = branch_if_flags Eq by
meaning_of (BNe by) = branch_if_flags Ne by
meaning_of (BCs by) = branch_if_flags Cs by
meaning_of (BCc by) = branch_if_flags Cc by
meaning_of (BMi by) = branch_if_flags Mi by
meaning_of (BHi by) = branch_if_flags Hi by
meaning_of (BLs by) = branch_if_flags Ls by
meaning_of (BGe by) = branch_if_flags Ge by
meaning_of (BLt by) = branch_if_flags Lt by
meaning_of (BGt by) = branch_if_flags Gt by
meaning_of (BLe by) = branch_if_flags Le by
meaning_of (BCond cond by) = branch_if_flags cond by
meaning_of (CbzX t by) = branch_if_operand Cbz 64 t by
meaning_of (CbnzX t by) = branch_if_operand Cbnz 64 t by
meaning_of (CbzW t by) = branch_if_operand Cbz 32 t by
meaning_of (CbnzW t by) = branch_if_operand Cbnz 32 t by
meaning_of (Tbz t place by) = branch_if_bit TestZero t place by
meaning_of (Tbnz t place by) = branch_if_bit TestOne t place by
meaning_of (Br n) = flows unchanged (λ c. Branching (read_x c n))
meaning_of (Blr n) = flows linked (λ c. Branching (read_x c n))
meaning_of (LdrB t n by) = at_offset 0 1 t n by
meaning_of (StrB t n by) = at_offset 0 0 t n by
meaning_of (LdrH t n by) = at_offset 1 1 t n by
meaning_of (StrH t n by) = at_offset 1 0 t n by
meaning_of (LdrW t n by) = at_offset 2 1 t n by
meaning_of (StrW t n by) = at_offset 2 0 t n by
meaning_of (LdrX t n by) = at_offset 3 1 t n by
meaning_of (StrX t n by) = at_offset 3 0 t n by
meaning_of (Ldrsw t n by) = at_offset 2 2 t n by
meaning_of (LdrBLsl t n m amount) = at_index 0 1 3 t n m amount
meaning_of (LdrBUxtw t n m amount) = at_index 0 1 2 t n m amount
meaning_of (LdrBSxtw t n m amount) = at_index 0 1 6 t n m amount
meaning_of (StrBLsl t n m amount) = at_index 0 0 3 t n m amount
meaning_of (LdrHLsl t n m amount) = at_index 1 1 3 t n m amount
meaning_of (StrHLsl t n m amount) = at_index 1 0 3 t n m amount
meaning_of (LdrWLsl t n m amount) = at_index 2 1 3 t n m amount
meaning_of (LdrWUxtw t n m amount) = at_index 2 1 2 t n m amount
meaning_of (LdrWSxtw t n m amount) = at_index 2 1 6 t n m amount
meaning_of (StrWLsl t n m amount) = at_index 2 0 3 t n m amount
meaning_of (LdrXLsl t n m amount) = at_index 3 1 3 t n m amount
meaning_of (LdrXUxtw t n m amount) = at_index 3 1 2 t n m amount
meaning_of (LdrXSxtw t n m amount) = at_index 3 1 6 t n m amount
meaning_of (StrXLsl t n m amount) = at_index 3 0 3 t n m amount
meaning_of (LdrswLsl t n m amount) = at_index 2 2 3 t n m amount
meaning_of (LdrBPost t n by) = at_base 0 1 t n by
meaning_of (StrBPost t n by) = at_base 0 0 t n by
meaning_of (LdrWPost t n by) = at_base 2 1 t n by
meaning_of (StrWPost t n by) = at_base 2 0 t n by
meaning_of (LdrXPost t n by) = at_base 3 1 t n by
meaning_of (StrXPost t n by) = at_base 3 0 t n by
meaning_of (LdrXPre t n by) = before_access 3 1 t n by
meaning_of (StrXPre t n by) = before_access 3 0 t n by
meaning_of (Ldp t u n by) = two_registers Load 2 t u n by
meaning_of (Stp t u n by) = two_registers Store 2 t u n by
meaning_of (LdpPost t u n by) = two_registers Load 1 t u n by
meaning_of (StpPost t u n by) = two_registers Store 1 t u n by
meaning_of (LdpPre t u n by) = two_registers Load 3 t u n by
meaning_of (StpPre t u n by) = two_registers Store 3 t u n by
