-- The table's lines whose results are lane by lane. From the Arm Architecture Reference Manual for A-profile
-- (DDI 0487), C4 'A64 Instruction Set Encoding', 'SVE encodings', and the encodings of the entries of C8.2. A line's
-- rows, its fields' order and its number are this project's own.
use Rattle.std.specs.Prelude.{◌==◌, [], ◌∷◌}
use Rattle.emu_bits.specs.Rows.{◌to◌, Line, line_of, line_if, of_two, of_three, of_four, of_five, of_six}
use Rattle.sve_insn.specs.declared.form.SveForm.{SveForm}
use Rattle.sve_insn.specs.declared.form.SveForm.TheVariants.{Binary, BinaryWide, ShiftImm, Unary, MulAddZ, MulAddD, Plain, LogicZ, PlainWide, PlainShift, Index, Dot, DotIndexed, WideImm, MinMaxImm, DupImm, BitmaskZ, CopyImm, PrefixP, Prefix, SelectZ}
use Rattle.sve_insn.specs.Names.{binary_named, bitmask_z_named, dot_named, dot_indexed_named, index_named, logic_z_named, min_max_imm_named, mul_add_d_named, mul_add_z_named, plain_named, shift_named, shift_imm_named, unary_named, wide_imm_named}
use Rattle.sve_insn.specs.Conditions.{is_no_doubleword, is_word_or_doubleword, binary_holds_for, has_tsz, unary_holds_for, shifts_no_byte, has_bitmask}

-- `add`, `sub`, `subr`, `smax`, `umax`, `smin`, `umin`, `sabd`, `uabd`, `mul`, `smulh`, `umulh`, `sdiv`, `udiv`,
-- `sdivr`, `udivr`, `orr`, `eor`, `and`, `bic`, `asr`, `lsr`, `lsl`, `asrr`, `lsrr`, `lslr Zdn.T, Pg/m, Zdn.T, Zm.T`
unfoldable pub binary : Line SveForm
binary =
    line_if (0x04000000 ∷ 0x04010000 ∷ 0x04030000 ∷ 0x04080000 ∷ 0x04090000 ∷ 0x040A0000 ∷ 0x040B0000 ∷ 0x040C0000
    ∷ 0x040D0000 ∷ 0x04100000 ∷ 0x04120000 ∷ 0x04130000 ∷ 0x04140000 ∷ 0x04150000 ∷ 0x04160000 ∷ 0x04170000 ∷ 0x04180000
    ∷ 0x04190000 ∷ 0x041A0000 ∷ 0x041B0000 ∷ 0x04108000 ∷ 0x04118000 ∷ 0x04138000 ∷ 0x04148000 ∷ 0x04158000
    ∷ 0x04178000 ∷ [])
    ((23 to 22) ∷ (12 to 10) ∷ (9 to 5) ∷ (4 to 0) ∷ [])
    (λ k. of_four (λ size pg zm zdn. (binary_holds_for (binary_named k) size, Binary (binary_named k) size pg zm zdn)))

-- `asr`, `lsr`, `lsl Zdn.T, Pg/m, Zdn.T, Zm.d`
unfoldable pub binary_wide : Line SveForm
binary_wide = line_if (0x04188000 ∷ 0x04198000 ∷ 0x041B8000 ∷ []) ((23 to 22) ∷ (12 to 10) ∷ (9 to 5) ∷ (4 to 0) ∷ [])
    (λ k. of_four (λ size pg zm zdn. (is_no_doubleword size, BinaryWide (shift_named k) size pg zm zdn)))

-- `asr`, `lsr`, `lsl`, `asrd Zdn.T, Pg/m, Zdn.T, #n`
unfoldable pub shift_imm : Line SveForm
shift_imm = line_if (0x04008000 ∷ 0x04018000 ∷ 0x04038000 ∷ 0x04048000 ∷ [])
    ((23 to 22) ∷ (12 to 10) ∷ (9 to 8) ∷ (7 to 5) ∷ (4 to 0) ∷ [])
    (λ k. of_five (λ tszh pg tszl imm3 zdn. (has_tsz tszh tszl, ShiftImm (shift_imm_named k) tszh pg tszl imm3 zdn)))

-- `sxtb`, `uxtb`, `sxth`, `uxth`, `sxtw`, `uxtw`, `abs`, `neg`, `cls`, `clz`, `cnt`, `cnot`, `not`, `revb`, `revh`,
-- `revw`, `rbit Zd.T, Pg/m, Zn.T`
unfoldable pub unary : Line SveForm
unary =
    line_if (0x0410A000 ∷ 0x0411A000 ∷ 0x0412A000 ∷ 0x0413A000 ∷ 0x0414A000 ∷ 0x0415A000 ∷ 0x0416A000 ∷ 0x0417A000
    ∷ 0x0418A000 ∷ 0x0419A000 ∷ 0x041AA000 ∷ 0x041BA000 ∷ 0x041EA000 ∷ 0x05248000 ∷ 0x05258000 ∷ 0x05268000
    ∷ 0x05278000 ∷ [])
    ((23 to 22) ∷ (12 to 10) ∷ (9 to 5) ∷ (4 to 0) ∷ [])
    (λ k. of_four (λ size pg zn zd. (unary_holds_for (unary_named k) size, Unary (unary_named k) size pg zn zd)))

-- `mla`, `mls Zda.T, Pg/m, Zn.T, Zm.T`
unfoldable pub mul_add_z : Line SveForm
mul_add_z = line_of (0x04004000 ∷ 0x04006000 ∷ []) ((23 to 22) ∷ (20 to 16) ∷ (12 to 10) ∷ (9 to 5) ∷ (4 to 0) ∷ [])
    (λ k. of_five (λ size zm pg zn zda. MulAddZ (mul_add_z_named k) size zm pg zn zda))

-- `mad`, `msb Zdn.T, Pg/m, Zm.T, Za.T`
unfoldable pub mul_add_d : Line SveForm
mul_add_d = line_of (0x0400C000 ∷ 0x0400E000 ∷ []) ((23 to 22) ∷ (20 to 16) ∷ (12 to 10) ∷ (9 to 5) ∷ (4 to 0) ∷ [])
    (λ k. of_five (λ size zm pg za zdn. MulAddD (mul_add_d_named k) size zm pg za zdn))

-- `add`, `sub`, `sqadd`, `uqadd`, `sqsub`, `uqsub Zd.T, Zn.T, Zm.T`
unfoldable pub plain : Line SveForm
plain = line_of (0x04200000 ∷ 0x04200400 ∷ 0x04201000 ∷ 0x04201400 ∷ 0x04201800 ∷ 0x04201C00 ∷ [])
    ((23 to 22) ∷ (20 to 16) ∷ (9 to 5) ∷ (4 to 0) ∷ [])
    (λ k. of_four (λ size zm zn zd. Plain (plain_named k) size zm zn zd))

-- `and`, `orr`, `eor`, `bic Zd.d, Zn.d, Zm.d`
unfoldable pub logic_z : Line SveForm
logic_z = line_of (0x04203000 ∷ 0x04603000 ∷ 0x04A03000 ∷ 0x04E03000 ∷ []) ((20 to 16) ∷ (9 to 5) ∷ (4 to 0) ∷ [])
    (λ k. of_three (λ zm zn zd. LogicZ (logic_z_named k) zm zn zd))

-- `asr`, `lsr`, `lsl Zd.T, Zn.T, Zm.d`
unfoldable pub plain_wide : Line SveForm
plain_wide = line_if (0x04208000 ∷ 0x04208400 ∷ 0x04208C00 ∷ []) ((23 to 22) ∷ (20 to 16) ∷ (9 to 5) ∷ (4 to 0) ∷ [])
    (λ k. of_four (λ size zm zn zd. (is_no_doubleword size, PlainWide (shift_named k) size zm zn zd)))

-- `asr`, `lsr`, `lsl Zd.T, Zn.T, #n`
unfoldable pub plain_shift : Line SveForm
plain_shift = line_if (0x04209000 ∷ 0x04209400 ∷ 0x04209C00 ∷ [])
    ((23 to 22) ∷ (20 to 19) ∷ (18 to 16) ∷ (9 to 5) ∷ (4 to 0) ∷ [])
    (λ k. of_five (λ tszh tszl imm3 zn zd. (has_tsz tszh tszl, PlainShift (shift_named k) tszh tszl imm3 zn zd)))

-- `index Zd.T, #i, #j`, `index Zd.T, Rn, #j`, `index Zd.T, #i, Rm`, `index Zd.T, Rn, Rm`
unfoldable pub index_z : Line SveForm
index_z = line_of (0x04204000 ∷ 0x04204400 ∷ 0x04204800 ∷ 0x04204C00 ∷ [])
    ((23 to 22) ∷ (20 to 16) ∷ (9 to 5) ∷ (4 to 0) ∷ [])
    (λ k. of_four (λ size y x zd. Index (index_named k) size y x zd))

-- `sdot`, `udot Zda.T, Zn.Tq, Zm.Tq`
unfoldable pub dot : Line SveForm
dot = line_if (0x44000000 ∷ 0x44000400 ∷ []) ((23 to 22) ∷ (20 to 16) ∷ (9 to 5) ∷ (4 to 0) ∷ [])
    (λ k. of_four (λ size zm zn zda. (is_word_or_doubleword size, Dot (dot_named k) size zm zn zda)))

-- `sdot`, `udot Zda.s, Zn.b, Zm.b[i]`, `sdot`, `udot Zda.d, Zn.h, Zm.h[i]`
unfoldable pub dot_indexed : Line SveForm
dot_indexed = line_of (0x44A00000 ∷ 0x44A00400 ∷ 0x44E00000 ∷ 0x44E00400 ∷ []) ((20 to 16) ∷ (9 to 5) ∷ (4 to 0) ∷ [])
    (λ k. of_three (λ i_zm zn zda. DotIndexed (dot_indexed_named k) i_zm zn zda))

-- `add`, `sub`, `subr`, `sqadd`, `uqadd`, `sqsub`, `uqsub Zdn.T, Zdn.T, #i{, lsl #0}`
unfoldable pub wide_imm : Line SveForm
wide_imm = line_if (0x2520C000 ∷ 0x2521C000 ∷ 0x2523C000 ∷ 0x2524C000 ∷ 0x2525C000 ∷ 0x2526C000 ∷ 0x2527C000 ∷ [])
    ((23 to 22) ∷ (13 to 13) ∷ (12 to 5) ∷ (4 to 0) ∷ [])
    (λ k. of_four (λ size sh imm8 zdn. (shifts_no_byte size sh, WideImm (wide_imm_named k) size (sh == 1) imm8 zdn)))

-- `smax`, `smin`, `mul`, `umax`, `umin Zdn.T, Zdn.T, #i`
unfoldable pub min_max_imm : Line SveForm
min_max_imm = line_of (0x2528C000 ∷ 0x252AC000 ∷ 0x2530C000 ∷ 0x2529C000 ∷ 0x252BC000 ∷ [])
    ((23 to 22) ∷ (12 to 5) ∷ (4 to 0) ∷ [])
    (λ k. of_three (λ size imm8 zdn. MinMaxImm (min_max_imm_named k) size imm8 zdn))

-- `dup Zd.T, #i{, lsl #0}`
unfoldable pub dup_imm : Line SveForm
dup_imm = line_if (0x2538C000 ∷ []) ((23 to 22) ∷ (13 to 13) ∷ (12 to 5) ∷ (4 to 0) ∷ [])
    (λ k. of_four (λ size sh imm8 zd. (shifts_no_byte size sh, DupImm size (sh == 1) imm8 zd)))

-- `orr`, `eor`, `and Zdn.d, Zdn.d, #m`, `dupm Zd.d, #m`
unfoldable pub bitmask_z : Line SveForm
bitmask_z = line_if (0x05000000 ∷ 0x05400000 ∷ 0x05800000 ∷ 0x05C00000 ∷ [])
    ((17 to 17) ∷ (16 to 11) ∷ (10 to 5) ∷ (4 to 0) ∷ [])
    (λ k. of_four (λ n immr imms zdn. (has_bitmask n immr imms, BitmaskZ (bitmask_z_named k) (n == 1) immr imms zdn)))

-- `cpy Zd.T, Pg/m, #i{, lsl #0}`, `cpy Zd.T, Pg/z, #i{, lsl #0}`
unfoldable pub copy_imm : Line SveForm
copy_imm = line_if (0x05100000 ∷ []) ((23 to 22) ∷ (19 to 16) ∷ (14 to 14) ∷ (13 to 13) ∷ (12 to 5) ∷ (4 to 0) ∷ [])
    (λ k. of_six (λ size pg m sh imm8 zd. (shifts_no_byte size sh, CopyImm size pg (m == 1) (sh == 1) imm8 zd)))

-- `movprfx Zd.T, Pg/m, Zn.T`, `movprfx Zd.T, Pg/z, Zn.T`
unfoldable pub prefix_p : Line SveForm
prefix_p = line_of (0x04102000 ∷ []) ((23 to 22) ∷ (16 to 16) ∷ (12 to 10) ∷ (9 to 5) ∷ (4 to 0) ∷ [])
    (λ k. of_five (λ size m pg zn zd. PrefixP size (m == 1) pg zn zd))

-- `movprfx Zd, Zn`
unfoldable pub prefix : Line SveForm
prefix = line_of (0x0420BC00 ∷ []) ((9 to 5) ∷ (4 to 0) ∷ []) (λ k. of_two (λ zn zd. Prefix zn zd))

-- `sel Zd.T, Pg, Zn.T, Zm.T`
unfoldable pub select_z : Line SveForm
select_z = line_of (0x0520C000 ∷ []) ((23 to 22) ∷ (20 to 16) ∷ (13 to 10) ∷ (9 to 5) ∷ (4 to 0) ∷ [])
    (λ k. of_five (λ size zm pg zn zd. SelectZ size zm pg zn zd))
