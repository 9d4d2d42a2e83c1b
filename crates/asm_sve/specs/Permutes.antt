-- The texts of lines of permutes. They are the assembler syntax of the entries DUP, INSR, REV, SUNPKLO and its kin,
-- TBL, ZIP1, UZP1, TRN1 and their kin, PUNPKLO, COMPACT, SPLICE, EXT, CPY, LASTA, CLASTA and their kin of the Arm
-- Architecture Reference Manual for A-profile (DDI 0487), C8.2 'Alphabetical list of SVE instructions'.
use Rattle.std.specs.Prelude.{ℕ, ◌+◌, ◌^◌, List, [], ◌∷◌, ◌++◌, get_or, codes}
use Rattle.sve_insn.specs.Folds.{dup_reg, dup_lane, insert_scalar, rev_z, unpack, table_lookup, interleave, interleave_p, unpack_p, rev_p, compact, splice, ext, copy_reg, last_active, cond_last}
use Rattle.text_model.specs.declared.classes.Class.TheVariants.{Zb, P, Pb, Ph}
use Rattle.text_model.specs.declared.classes.Group.TheVariants.{HalfLanes}
use Rattle.text_model.specs.declared.slots.Parts.{Parts}
use Rattle.text_model.specs.declared.slots.Parts.TheVariants.{Nowhere, At, Two}
use Rattle.text_model.specs.Reading.{Pattern}
use Rattle.text_model.specs.Writing.{◌to◌, times, braced, row, rows}
use Rattle.asm_sve.specs.Operands.{separated, z_class, sized, zd, zdn, zn, zm, zm_9_5, rd, rn, pd, pn, pm, pg, register, z_at, z_by, p_at, r_at, r_sp_at, v_at, p_merging, immediate_slots, index}

unfoldable pub dup_reg_texts : List Pattern
dup_reg_texts = row dup_reg 0 0 (codes "dup") (separated (z_at zd ∷ r_sp_at rn ∷ [])) ∷ []

-- The lowest set bit of tsz, bits 20 to 16, tells the size, 4 being q; those above it, with imm2, bits 23 to 22, above
-- them, the lane.
abbrev pub lane_bits : ℕ → Parts
lane_bits s =
    get_or (Two (23 to 22) (20 to 17) ∷ Two (23 to 22) (20 to 18) ∷ Two (23 to 22) (20 to 19)
    ∷ Two (23 to 22) (20 to 20) ∷ At (23 to 22) ∷ []) s Nowhere

unfoldable pub dup_lane_texts : List Pattern
dup_lane_texts = sized (0 ∷ 1 ∷ 2 ∷ 3 ∷ 4 ∷ []) (λ s.
    row dup_lane 0 (2 ^ (16 + s)) (codes "dup")
    (separated (register (z_class s) zd ∷ (register (z_class s) zn ++ index (times 1 (lane_bits s))) ∷ [])) ∷ [])

unfoldable pub insert_texts : List Pattern
insert_texts =
    let src = 9 to 5 in
    row insert_scalar 0 0 (codes "insr") (separated (z_at zdn ∷ r_at src ∷ []))
    ∷ row insert_scalar 1 0 (codes "insr") (separated (z_at zdn ∷ v_at src ∷ [])) ∷ []

unfoldable pub rev_z_texts : List Pattern
rev_z_texts = row rev_z 0 0 (codes "rev") (separated (z_at zd ∷ z_at zn ∷ [])) ∷ []

unfoldable pub unpack_texts : List Pattern
unpack_texts =
    rows unpack 0 0 (codes "sunpklo" ∷ codes "sunpkhi" ∷ codes "uunpklo" ∷ codes "uunpkhi" ∷ [])
    (separated (z_at zd ∷ z_by HalfLanes zn ∷ []))

unfoldable pub table_texts : List Pattern
table_texts = row table_lookup 0 0 (codes "tbl") (separated (z_at zd ∷ braced (z_at zn) ∷ z_at zm ∷ [])) ∷ []

abbrev pub interleavings : List (List ℕ)
interleavings = codes "zip1" ∷ codes "zip2" ∷ codes "uzp1" ∷ codes "uzp2" ∷ codes "trn1" ∷ codes "trn2" ∷ []

unfoldable pub interleave_texts : List Pattern
interleave_texts = rows interleave 0 0 interleavings (separated (z_at zd ∷ z_at zn ∷ z_at zm ∷ []))

unfoldable pub interleave_p_texts : List Pattern
interleave_p_texts = rows interleave_p 0 0 interleavings (separated (p_at pd ∷ p_at pn ∷ p_at pm ∷ []))

unfoldable pub unpack_p_texts : List Pattern
unpack_p_texts =
    rows unpack_p 0 0 (codes "punpklo" ∷ codes "punpkhi" ∷ []) (separated (register Ph pd ∷ register Pb pn ∷ []))

unfoldable pub rev_p_texts : List Pattern
rev_p_texts = row rev_p 0 0 (codes "rev") (separated (p_at pd ∷ p_at pn ∷ [])) ∷ []

unfoldable pub compact_texts : List Pattern
compact_texts = row compact 0 0 (codes "compact") (separated (z_at zd ∷ register P pg ∷ z_at zn ∷ [])) ∷ []

unfoldable pub splice_texts : List Pattern
splice_texts = row splice 0 0 (codes "splice") (separated (z_at zdn ∷ register P pg ∷ z_at zdn ∷ z_at zm_9_5 ∷ [])) ∷ []

unfoldable pub ext_texts : List Pattern
ext_texts = row ext 0 0 (codes "ext")
    (separated (register Zb zdn ∷ register Zb zdn ∷ register Zb zm_9_5
    ∷ immediate_slots (times 1 (Two (20 to 16) (12 to 10))) ∷ [])) ∷ []

unfoldable pub copy_reg_texts : List Pattern
copy_reg_texts =
    row copy_reg 0 0 (codes "cpy") (separated (z_at zd ∷ p_merging pg ∷ r_sp_at rn ∷ []))
    ∷ row copy_reg 1 0 (codes "cpy") (separated (z_at zd ∷ p_merging pg ∷ v_at rn ∷ [])) ∷ []

unfoldable pub last_texts : List Pattern
last_texts =
    rows last_active 0 0 (codes "lasta" ∷ codes "lastb" ∷ []) (separated (r_at rd ∷ register P pg ∷ z_at zn ∷ []))
    ++ rows last_active 2 0 (codes "lasta" ∷ codes "lastb" ∷ []) (separated (v_at rd ∷ register P pg ∷ z_at zn ∷ []))

unfoldable pub cond_last_texts : List Pattern
cond_last_texts =
    rows cond_last 0 0 (codes "clasta" ∷ codes "clastb" ∷ [])
    (separated (r_at zdn ∷ register P pg ∷ r_at zdn ∷ z_at zm_9_5 ∷ []))
    ++ (rows cond_last 2 0 (codes "clasta" ∷ codes "clastb" ∷ [])
    (separated (v_at zdn ∷ register P pg ∷ v_at zdn ∷ z_at zm_9_5 ∷ []))
    ++ rows cond_last 4 0 (codes "clasta" ∷ codes "clastb" ∷ [])
    (separated (z_at zdn ∷ register P pg ∷ z_at zdn ∷ z_at zm_9_5 ∷ [])))
