-- The table's lines of predicates. From the Arm Architecture Reference Manual for A-profile (DDI 0487), C4 'A64
-- Instruction Set Encoding', 'SVE encodings', and the encodings of the entries of C8.2. A line's rows, its fields'
-- order and its number are this project's own.
use Rattle.std.specs.Prelude.{◌==◌, [], ◌∷◌}
use Rattle.emu_bits.specs.Rows.{◌to◌, Line, line_of, line_if, of_one, of_two, of_three, of_four, of_five}
use Rattle.sve_insn.specs.declared.form.SveForm.{SveForm}
use Rattle.sve_insn.specs.declared.form.SveForm.TheVariants.{CmpVec, CmpWide, CmpUImm, CmpSImm, LogicP, SelectP, Break, BreakPair, BreakNext, Ptest, First, Next, Ptrue, Pfalse, ReadFfr, ReadFfrAll, WriteFfr, CountP, IncP, IncPZ, While, Cterm}
use Rattle.sve_insn.specs.Names.{break_named, break_pair_named, cmp_s_imm_named, cmp_u_imm_named, cmp_vec_named, cmp_wide_named, cterm_named, inc_p_named, logic_p_named, ptrue_named, read_ffr_named, while_named, write_ffr_named}
use Rattle.sve_insn.specs.Conditions.{is_no_byte, is_no_doubleword, break_first_holds_for, write_ffr_holds_for}

-- `cmphs`, `cmphi`, `cmpge`, `cmpgt`, `cmpeq`, `cmpne Pd.T, Pg/z, Zn.T, Zm.T`
unfoldable pub cmp_vec : Line SveForm
cmp_vec = line_of (0x24000000 ∷ 0x24000010 ∷ 0x24008000 ∷ 0x24008010 ∷ 0x2400A000 ∷ 0x2400A010 ∷ [])
    ((23 to 22) ∷ (20 to 16) ∷ (12 to 10) ∷ (9 to 5) ∷ (3 to 0) ∷ [])
    (λ k. of_five (λ size zm pg zn pd. CmpVec (cmp_vec_named k) size zm pg zn pd))

-- `cmpeq`, `cmpne`, `cmpge`, `cmpgt`, `cmplt`, `cmple`, `cmphs`, `cmphi`, `cmplo`, `cmpls Pd.T, Pg/z, Zn.T, Zm.d`
unfoldable pub cmp_wide : Line SveForm
cmp_wide =
    line_if (0x24002000 ∷ 0x24002010 ∷ 0x24004000 ∷ 0x24004010 ∷ 0x24006000 ∷ 0x24006010 ∷ 0x2400C000 ∷ 0x2400C010
    ∷ 0x2400E000 ∷ 0x2400E010 ∷ [])
    ((23 to 22) ∷ (20 to 16) ∷ (12 to 10) ∷ (9 to 5) ∷ (3 to 0) ∷ [])
    (λ k. of_five (λ size zm pg zn pd. (is_no_doubleword size, CmpWide (cmp_wide_named k) size zm pg zn pd)))

-- `cmphs`, `cmphi`, `cmplo`, `cmpls Pd.T, Pg/z, Zn.T, #i`
unfoldable pub cmp_u_imm : Line SveForm
cmp_u_imm = line_of (0x24200000 ∷ 0x24200010 ∷ 0x24202000 ∷ 0x24202010 ∷ [])
    ((23 to 22) ∷ (20 to 14) ∷ (12 to 10) ∷ (9 to 5) ∷ (3 to 0) ∷ [])
    (λ k. of_five (λ size imm7 pg zn pd. CmpUImm (cmp_u_imm_named k) size imm7 pg zn pd))

-- `cmpge`, `cmpgt`, `cmplt`, `cmple`, `cmpeq`, `cmpne Pd.T, Pg/z, Zn.T, #i`
unfoldable pub cmp_s_imm : Line SveForm
cmp_s_imm = line_of (0x25000000 ∷ 0x25000010 ∷ 0x25002000 ∷ 0x25002010 ∷ 0x25008000 ∷ 0x25008010 ∷ [])
    ((23 to 22) ∷ (20 to 16) ∷ (12 to 10) ∷ (9 to 5) ∷ (3 to 0) ∷ [])
    (λ k. of_five (λ size imm5 pg zn pd. CmpSImm (cmp_s_imm_named k) size imm5 pg zn pd))

-- `and`, `bic`, `eor`, `orr`, `orn`, `nor`, `nand Pd.b, Pg/z, Pn.b, Pm.b`
unfoldable pub logic_p : Line SveForm
logic_p = line_of (0x25004000 ∷ 0x25004010 ∷ 0x25004200 ∷ 0x25804000 ∷ 0x25804010 ∷ 0x25804200 ∷ 0x25804210 ∷ [])
    ((22 to 22) ∷ (19 to 16) ∷ (13 to 10) ∷ (8 to 5) ∷ (3 to 0) ∷ [])
    (λ k. of_five (λ s pm pg pn pd. LogicP (logic_p_named k) (s == 1) pm pg pn pd))

-- `sel Pd.b, Pg, Pn.b, Pm.b`
unfoldable pub select_p : Line SveForm
select_p = line_of (0x25004210 ∷ []) ((19 to 16) ∷ (13 to 10) ∷ (8 to 5) ∷ (3 to 0) ∷ [])
    (λ k. of_four (λ pm pg pn pd. SelectP pm pg pn pd))

-- `brka`, `brkb Pd.b, Pg/z, Pn.b`, `brka`, `brkb Pd.b, Pg/m, Pn.b`
unfoldable pub break_first : Line SveForm
break_first = line_if (0x25104000 ∷ 0x25904000 ∷ []) ((22 to 22) ∷ (13 to 10) ∷ (8 to 5) ∷ (4 to 4) ∷ (3 to 0) ∷ [])
    (λ k. of_five (λ s pg pn m pd. (break_first_holds_for s m, Break (break_named k) (s == 1) pg pn (m == 1) pd)))

-- `brkpa`, `brkpb Pd.b, Pg/z, Pn.b, Pm.b`
unfoldable pub break_pair : Line SveForm
break_pair = line_of (0x2500C000 ∷ 0x2500C010 ∷ []) ((22 to 22) ∷ (19 to 16) ∷ (13 to 10) ∷ (8 to 5) ∷ (3 to 0) ∷ [])
    (λ k. of_five (λ s pm pg pn pd. BreakPair (break_pair_named k) (s == 1) pm pg pn pd))

-- `brkn Pdm.b, Pg/z, Pn.b, Pdm.b`
unfoldable pub break_next : Line SveForm
break_next = line_of (0x25184000 ∷ []) ((22 to 22) ∷ (13 to 10) ∷ (8 to 5) ∷ (3 to 0) ∷ [])
    (λ k. of_four (λ s pg pn pdm. BreakNext (s == 1) pg pn pdm))

-- `ptest Pg, Pn.b`
unfoldable pub ptest : Line SveForm
ptest = line_of (0x2550C000 ∷ []) ((13 to 10) ∷ (8 to 5) ∷ []) (λ k. of_two (λ pg pn. Ptest pg pn))

-- `pfirst Pdn.b, Pg, Pdn.b`
unfoldable pub first_active : Line SveForm
first_active = line_of (0x2558C000 ∷ []) ((8 to 5) ∷ (3 to 0) ∷ []) (λ k. of_two (λ pg pdn. First pg pdn))

-- `pnext Pdn.T, Pg, Pdn.T`
unfoldable pub next_active : Line SveForm
next_active = line_of (0x2519C400 ∷ []) ((23 to 22) ∷ (8 to 5) ∷ (3 to 0) ∷ [])
    (λ k. of_three (λ size pg pdn. Next size pg pdn))

-- `ptrue`, `ptrues Pd.T{, all}`
unfoldable pub ptrue : Line SveForm
ptrue = line_of (0x2518E000 ∷ 0x2519E000 ∷ []) ((23 to 22) ∷ (9 to 5) ∷ (3 to 0) ∷ [])
    (λ k. of_three (λ size pattern pd. Ptrue (ptrue_named k) size pattern pd))

-- `pfalse Pd.b`
unfoldable pub pfalse : Line SveForm
pfalse = line_of (0x2518E400 ∷ []) ((3 to 0) ∷ []) (λ k. of_one (λ pd. Pfalse pd))

-- `rdffr`, `rdffrs Pd.b, Pg/z`
unfoldable pub read_ffr : Line SveForm
read_ffr = line_of (0x2518F000 ∷ 0x2558F000 ∷ []) ((8 to 5) ∷ (3 to 0) ∷ [])
    (λ k. of_two (λ pg pd. ReadFfr (read_ffr_named k) pg pd))

-- `rdffr Pd.b`
unfoldable pub read_ffr_all : Line SveForm
read_ffr_all = line_of (0x2519F000 ∷ []) ((3 to 0) ∷ []) (λ k. of_one (λ pd. ReadFfrAll pd))

-- `setffr`, `wrffr Pn.b`
unfoldable pub write_ffr : Line SveForm
write_ffr = line_if (0x252C9000 ∷ 0x25289000 ∷ []) ((8 to 5) ∷ [])
    (λ k. of_one (λ pn. (write_ffr_holds_for (write_ffr_named k) pn, WriteFfr (write_ffr_named k) pn)))

-- `cntp Xd, Pg, Pn.T`
unfoldable pub count_p : Line SveForm
count_p = line_of (0x25208000 ∷ []) ((23 to 22) ∷ (13 to 10) ∷ (8 to 5) ∷ (4 to 0) ∷ [])
    (λ k. of_four (λ size pg pn rd. CountP size pg pn rd))

-- `incp`, `decp Xdn, Pm.T`
unfoldable pub inc_p : Line SveForm
inc_p = line_of (0x252C8800 ∷ 0x252D8800 ∷ []) ((23 to 22) ∷ (8 to 5) ∷ (4 to 0) ∷ [])
    (λ k. of_three (λ size pm rdn. IncP (inc_p_named k) size pm rdn))

-- `incp`, `decp Zdn.T, Pm.T`
unfoldable pub inc_p_z : Line SveForm
inc_p_z = line_if (0x252C8000 ∷ 0x252D8000 ∷ []) ((23 to 22) ∷ (8 to 5) ∷ (4 to 0) ∷ [])
    (λ k. of_three (λ size pm zdn. (is_no_byte size, IncPZ (inc_p_named k) size pm zdn)))

-- `whilelt`, `whilele`, `whilelo`, `whilels Pd.T, Rn, Rm`
unfoldable pub while_compare : Line SveForm
while_compare = line_of (0x25200400 ∷ 0x25200410 ∷ 0x25200C00 ∷ 0x25200C10 ∷ [])
    ((23 to 22) ∷ (20 to 16) ∷ (12 to 12) ∷ (9 to 5) ∷ (3 to 0) ∷ [])
    (λ k. of_five (λ size rm sf rn pd. While (while_named k) size rm (sf == 1) rn pd))

-- `ctermeq`, `ctermne Rn, Rm`
unfoldable pub cterm : Line SveForm
cterm = line_of (0x25A02000 ∷ 0x25A02010 ∷ []) ((22 to 22) ∷ (20 to 16) ∷ (9 to 5) ∷ [])
    (λ k. of_three (λ sf rm rn. Cterm (cterm_named k) (sf == 1) rm rn))
