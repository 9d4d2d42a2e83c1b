-- The table's lines of folds, counts and permutes. From the Arm Architecture Reference Manual for A-profile (DDI 0487),
-- C4 'A64 Instruction Set Encoding', 'SVE encodings', and the encodings of the entries of C8.2. A line's rows, its
-- fields' order and its number are this project's own.
use Rattle.std.specs.Prelude.{◌==◌, [], ◌∷◌}
use Rattle.emu_bits.specs.Rows.{◌to◌, Line, line_of, line_if, of_two, of_three, of_four, of_five}
use Rattle.sve_insn.specs.declared.form.SveForm.{SveForm}
use Rattle.sve_insn.specs.declared.form.SveForm.TheVariants.{Reduce, Count, IncX, IncZ, SatX, SatZ, AddLength, ReadLength, DupReg, DupLane, Insert, RevZ, Unpack, Table, Interleave, InterleaveP, UnpackP, RevP, Compact, Splice, Ext, CopyReg, Last, CondLast}
use Rattle.sve_insn.specs.Names.{add_length_named, cond_last_named, copy_reg_named, inc_named, insert_named, interleave_named, last_named, reduce_named, sat_named, unpack_named, unpack_p_named}
use Rattle.sve_insn.specs.Conditions.{is_no_byte, is_word_or_doubleword, reduce_holds_for, has_lane_size}

-- `saddv`, `uaddv`, `smaxv`, `umaxv`, `sminv`, `uminv`, `orv`, `eorv`, `andv Vd, Pg, Zn.T`
unfoldable pub reduce : Line SveForm
reduce =
    line_if (0x04002000 ∷ 0x04012000 ∷ 0x04082000 ∷ 0x04092000 ∷ 0x040A2000 ∷ 0x040B2000 ∷ 0x04182000 ∷ 0x04192000
    ∷ 0x041A2000 ∷ [])
    ((23 to 22) ∷ (12 to 10) ∷ (9 to 5) ∷ (4 to 0) ∷ [])
    (λ k. of_four (λ size pg zn vd. (reduce_holds_for (reduce_named k) size, Reduce (reduce_named k) size pg zn vd)))

-- `cntb Xd{, all, mul #1}` and with h, w, d by size
unfoldable pub count_elements : Line SveForm
count_elements = line_of (0x0420E000 ∷ []) ((23 to 22) ∷ (19 to 16) ∷ (9 to 5) ∷ (4 to 0) ∷ [])
    (λ k. of_four (λ size imm4 pattern rd. Count size imm4 pattern rd))

-- `incb`, `decb Xdn{, all, mul #1}` and with h, w, d by size
unfoldable pub inc_x : Line SveForm
inc_x = line_of (0x0430E000 ∷ 0x0430E400 ∷ []) ((23 to 22) ∷ (19 to 16) ∷ (9 to 5) ∷ (4 to 0) ∷ [])
    (λ k. of_four (λ size imm4 pattern rdn. IncX (inc_named k) size imm4 pattern rdn))

-- `inch`, `dech Zdn.T{, all, mul #1}` and with w, d by size
unfoldable pub inc_z : Line SveForm
inc_z = line_if (0x0430C000 ∷ 0x0430C400 ∷ []) ((23 to 22) ∷ (19 to 16) ∷ (9 to 5) ∷ (4 to 0) ∷ [])
    (λ k. of_four (λ size imm4 pattern zdn. (is_no_byte size, IncZ (inc_named k) size imm4 pattern zdn)))

-- `sqincb`, `uqincb`, `sqdecb`, `uqdecb Xdn{, all, mul #1}`, with sf false `Xdn, Wdn` or for uq `Wdn`, and with h, w, d
-- by size
unfoldable pub sat_x : Line SveForm
sat_x = line_of (0x0420F000 ∷ 0x0420F400 ∷ 0x0420F800 ∷ 0x0420FC00 ∷ [])
    ((23 to 22) ∷ (20 to 20) ∷ (19 to 16) ∷ (9 to 5) ∷ (4 to 0) ∷ [])
    (λ k. of_five (λ size sf imm4 pattern rdn. SatX (sat_named k) size (sf == 1) imm4 pattern rdn))

-- `sqinch`, `uqinch`, `sqdech`, `uqdech Zdn.T{, all, mul #1}` and with w, d by size
unfoldable pub sat_z : Line SveForm
sat_z = line_if (0x0420C000 ∷ 0x0420C400 ∷ 0x0420C800 ∷ 0x0420CC00 ∷ [])
    ((23 to 22) ∷ (19 to 16) ∷ (9 to 5) ∷ (4 to 0) ∷ [])
    (λ k. of_four (λ size imm4 pattern zdn. (is_no_byte size, SatZ (sat_named k) size imm4 pattern zdn)))

-- `addvl`, `addpl Xd|SP, Xn|SP, #i`
unfoldable pub add_length : Line SveForm
add_length = line_of (0x04205000 ∷ 0x04605000 ∷ []) ((20 to 16) ∷ (10 to 5) ∷ (4 to 0) ∷ [])
    (λ k. of_three (λ rn imm6 rd. AddLength (add_length_named k) rn imm6 rd))

-- `rdvl Xd, #i`
unfoldable pub read_length : Line SveForm
read_length = line_of (0x04BF5000 ∷ []) ((10 to 5) ∷ (4 to 0) ∷ []) (λ k. of_two (λ imm6 rd. ReadLength imm6 rd))

-- `dup Zd.T, Rn|SP`
unfoldable pub dup_reg : Line SveForm
dup_reg = line_of (0x05203800 ∷ []) ((23 to 22) ∷ (9 to 5) ∷ (4 to 0) ∷ [])
    (λ k. of_three (λ size rn zd. DupReg size rn zd))

-- `dup Zd.T, Zn.T[i]`
unfoldable pub dup_lane : Line SveForm
dup_lane = line_if (0x05202000 ∷ []) ((23 to 22) ∷ (20 to 16) ∷ (9 to 5) ∷ (4 to 0) ∷ [])
    (λ k. of_four (λ imm2 tsz zn zd. (has_lane_size tsz, DupLane imm2 tsz zn zd)))

-- `insr Zdn.T, Rm`, `insr Zdn.T, Vm`
unfoldable pub insert_scalar : Line SveForm
insert_scalar = line_of (0x05243800 ∷ 0x05343800 ∷ []) ((23 to 22) ∷ (9 to 5) ∷ (4 to 0) ∷ [])
    (λ k. of_three (λ size src zdn. Insert (insert_named k) size src zdn))

-- `rev Zd.T, Zn.T`
unfoldable pub rev_z : Line SveForm
rev_z = line_of (0x05383800 ∷ []) ((23 to 22) ∷ (9 to 5) ∷ (4 to 0) ∷ [])
    (λ k. of_three (λ size zn zd. RevZ size zn zd))

-- `sunpklo`, `sunpkhi`, `uunpklo`, `uunpkhi Zd.T, Zn.Th`
unfoldable pub unpack : Line SveForm
unpack = line_if (0x05303800 ∷ 0x05313800 ∷ 0x05323800 ∷ 0x05333800 ∷ []) ((23 to 22) ∷ (9 to 5) ∷ (4 to 0) ∷ [])
    (λ k. of_three (λ size zn zd. (is_no_byte size, Unpack (unpack_named k) size zn zd)))

-- `tbl Zd.T, {Zn.T}, Zm.T`
unfoldable pub table_lookup : Line SveForm
table_lookup = line_of (0x05203000 ∷ []) ((23 to 22) ∷ (20 to 16) ∷ (9 to 5) ∷ (4 to 0) ∷ [])
    (λ k. of_four (λ size zm zn zd. Table size zm zn zd))

-- `zip1`, `zip2`, `uzp1`, `uzp2`, `trn1`, `trn2 Zd.T, Zn.T, Zm.T`
unfoldable pub interleave : Line SveForm
interleave = line_of (0x05206000 ∷ 0x05206400 ∷ 0x05206800 ∷ 0x05206C00 ∷ 0x05207000 ∷ 0x05207400 ∷ [])
    ((23 to 22) ∷ (20 to 16) ∷ (9 to 5) ∷ (4 to 0) ∷ [])
    (λ k. of_four (λ size zm zn zd. Interleave (interleave_named k) size zm zn zd))

-- `zip1`, `zip2`, `uzp1`, `uzp2`, `trn1`, `trn2 Pd.T, Pn.T, Pm.T`
unfoldable pub interleave_p : Line SveForm
interleave_p = line_of (0x05204000 ∷ 0x05204400 ∷ 0x05204800 ∷ 0x05204C00 ∷ 0x05205000 ∷ 0x05205400 ∷ [])
    ((23 to 22) ∷ (19 to 16) ∷ (8 to 5) ∷ (3 to 0) ∷ [])
    (λ k. of_four (λ size pm pn pd. InterleaveP (interleave_named k) size pm pn pd))

-- `punpklo`, `punpkhi Pd.h, Pn.b`
unfoldable pub unpack_p : Line SveForm
unpack_p = line_of (0x05304000 ∷ 0x05314000 ∷ []) ((8 to 5) ∷ (3 to 0) ∷ [])
    (λ k. of_two (λ pn pd. UnpackP (unpack_p_named k) pn pd))

-- `rev Pd.T, Pn.T`
unfoldable pub rev_p : Line SveForm
rev_p = line_of (0x05344000 ∷ []) ((23 to 22) ∷ (8 to 5) ∷ (3 to 0) ∷ [])
    (λ k. of_three (λ size pn pd. RevP size pn pd))

-- `compact Zd.T, Pg, Zn.T`
unfoldable pub compact : Line SveForm
compact = line_if (0x05218000 ∷ []) ((23 to 22) ∷ (12 to 10) ∷ (9 to 5) ∷ (4 to 0) ∷ [])
    (λ k. of_four (λ size pg zn zd. (is_word_or_doubleword size, Compact size pg zn zd)))

-- `splice Zdn.T, Pg, Zdn.T, Zm.T`
unfoldable pub splice : Line SveForm
splice = line_of (0x052C8000 ∷ []) ((23 to 22) ∷ (12 to 10) ∷ (9 to 5) ∷ (4 to 0) ∷ [])
    (λ k. of_four (λ size pg zm zdn. Splice size pg zm zdn))

-- `ext Zdn.b, Zdn.b, Zm.b, #i`
unfoldable pub ext : Line SveForm
ext = line_of (0x05200000 ∷ []) ((20 to 16) ∷ (12 to 10) ∷ (9 to 5) ∷ (4 to 0) ∷ [])
    (λ k. of_four (λ imm8h imm8l zm zdn. Ext imm8h imm8l zm zdn))

-- `cpy Zd.T, Pg/m, Rn|SP`, `cpy Zd.T, Pg/m, Vn`
unfoldable pub copy_reg : Line SveForm
copy_reg = line_of (0x0528A000 ∷ 0x05208000 ∷ []) ((23 to 22) ∷ (12 to 10) ∷ (9 to 5) ∷ (4 to 0) ∷ [])
    (λ k. of_four (λ size pg rn zd. CopyReg (copy_reg_named k) size pg rn zd))

-- `lasta`, `lastb Rd, Pg, Zn.T`, `lasta`, `lastb Vd, Pg, Zn.T`
unfoldable pub last_active : Line SveForm
last_active = line_of (0x0520A000 ∷ 0x0521A000 ∷ 0x05228000 ∷ 0x05238000 ∷ [])
    ((23 to 22) ∷ (12 to 10) ∷ (9 to 5) ∷ (4 to 0) ∷ [])
    (λ k. of_four (λ size pg zn rd. Last (last_named k) size pg zn rd))

-- `clasta`, `clastb Rdn, Pg, Rdn, Zm.T`, `clasta`, `clastb Vdn, Pg, Vdn, Zm.T`, `clasta`, `clastb Zdn.T, Pg, Zdn.T,
-- Zm.T`
unfoldable pub cond_last : Line SveForm
cond_last = line_of (0x0530A000 ∷ 0x0531A000 ∷ 0x052A8000 ∷ 0x052B8000 ∷ 0x05288000 ∷ 0x05298000 ∷ [])
    ((23 to 22) ∷ (12 to 10) ∷ (9 to 5) ∷ (4 to 0) ∷ [])
    (λ k. of_four (λ size pg zm zdn. CondLast (cond_last_named k) size pg zm zdn))
