-- The texts of lines of predicates. They are the assembler syntax of the entries of compares, of logic, breaks and
-- counts of predicates, of FFR and of loops (WHILELT and its kin, CTERMEQ) of the Arm Architecture Reference Manual for
-- A-profile (DDI 0487), C8.2 'Alphabetical list of SVE instructions'.
use Rattle.std.specs.Prelude.{ℕ, List, [], ◌∷◌, ◌++◌, codes}
use Rattle.sve_insn.specs.Predicates.{cmp_vec, cmp_wide, cmp_u_imm, cmp_s_imm, logic_p, select_p, break_first, break_pair, break_next, ptest, first_active, next_active, ptrue, pfalse, read_ffr, read_ffr_all, write_ffr, count_p, inc_p, inc_p_z, while_compare, cterm}
use Rattle.text_model.specs.declared.classes.Class.TheVariants.{X, Zd, P, Pb}
use Rattle.text_model.specs.declared.classes.Group.TheVariants.{General}
use Rattle.text_model.specs.declared.slots.Bits.{Bits}
use Rattle.text_model.specs.declared.slots.Shape.TheVariants.{Told}
use Rattle.text_model.specs.declared.slots.Slot.{Slot}
use Rattle.text_model.specs.Reading.{Pattern}
use Rattle.text_model.specs.Writing.{◌to◌, bits, of, then, perhaps, inside, row, rows, put_at}
use Rattle.asm_sve.specs.Operands.{separated, all_sizes, z_class, p_class, ended, sized, zdn, zn, zm, rd, rdn, rn, rm, pd, pn, pm, pg, pg_13_10, register, z_at, p_at, p_zeroing, p_either, unsigned_at, signed_at, named_pattern, pattern_number}

-- Comparisons of vectors are written size by size: lanes of 64 bits have the operands of the wide ones.
abbrev pub compare_slots : ℕ → List Slot → List Slot
compare_slots s y = separated (register (p_class s) pd ∷ p_zeroing pg ∷ register (z_class s) zn ∷ y ∷ [])

unfoldable pub cmp_vec_texts : List Pattern
cmp_vec_texts = sized all_sizes (λ s. rows cmp_vec 0 (put_at 22 s)
    (codes "cmphs" ∷ codes "cmphi" ∷ codes "cmpge" ∷ codes "cmpgt" ∷ codes "cmpeq" ∷ codes "cmpne" ∷ [])
    (compare_slots s (register (z_class s) zm)))

-- those that compare with wide lanes alone have no other operands
unfoldable pub cmp_wide_texts : List Pattern
cmp_wide_texts =
    sized (0 ∷ 1 ∷ 2 ∷ []) (λ s.
    rows cmp_wide 0 (put_at 22 s) (codes "cmpeq" ∷ codes "cmpne" ∷ codes "cmpge" ∷ codes "cmpgt" ∷ [])
    (compare_slots s (register Zd zm))
    ++ rows cmp_wide 6 (put_at 22 s) (codes "cmphs" ∷ codes "cmphi" ∷ []) (compare_slots s (register Zd zm)))
    ++ (rows cmp_wide 4 0 (codes "cmplt" ∷ codes "cmple" ∷ [])
    (separated (p_at pd ∷ p_zeroing pg ∷ z_at zn ∷ register Zd zm ∷ []))
    ++ rows cmp_wide 8 0 (codes "cmplo" ∷ codes "cmpls" ∷ [])
    (separated (p_at pd ∷ p_zeroing pg ∷ z_at zn ∷ register Zd zm ∷ [])))

unfoldable pub cmp_u_imm_texts : List Pattern
cmp_u_imm_texts =
    let imm7 = 20 to 14 in
    rows cmp_u_imm 0 0 (codes "cmphs" ∷ codes "cmphi" ∷ codes "cmplo" ∷ codes "cmpls" ∷ [])
    (separated (p_at pd ∷ p_zeroing pg ∷ z_at zn ∷ unsigned_at imm7 ∷ []))

unfoldable pub cmp_s_imm_texts : List Pattern
cmp_s_imm_texts =
    let imm5 = 20 to 16 in
    rows cmp_s_imm 0 0 (codes "cmpge" ∷ codes "cmpgt" ∷ codes "cmplt" ∷ codes "cmple" ∷ codes "cmpeq" ∷ codes "cmpne"
    ∷ [])
    (separated (p_at pd ∷ p_zeroing pg ∷ z_at zn ∷ signed_at imm5 ∷ []))

-- rows whose name has an s behind it where S, bit 22, is 1
abbrev pub logic_names : List (List ℕ)
logic_names = codes "and" ∷ codes "bic" ∷ codes "eor" ∷ codes "orr" ∷ codes "orn" ∷ codes "nor" ∷ codes "nand" ∷ []

abbrev pub sets_flags : List (List ℕ) → List (List ℕ)
sets_flags names = ended (codes "s") names

unfoldable pub logic_p_texts : List Pattern
logic_p_texts =
    rows logic_p 0 0 logic_names
    (separated (register Pb pd ∷ p_zeroing pg_13_10 ∷ register Pb pn ∷ register Pb pm ∷ []))
    ++ rows logic_p 0 (put_at 22 1) (sets_flags logic_names)
    (separated (register Pb pd ∷ p_zeroing pg_13_10 ∷ register Pb pn ∷ register Pb pm ∷ []))

unfoldable pub select_p_texts : List Pattern
select_p_texts =
    row select_p 0 0 (codes "sel")
    (separated (register Pb pd ∷ register P pg_13_10 ∷ register Pb pn ∷ register Pb pm ∷ [])) ∷ []

abbrev pub break_names : List (List ℕ)
break_names = codes "brka" ∷ codes "brkb" ∷ []

unfoldable pub break_first_texts : List Pattern
break_first_texts =
    let m = 4 to 4 in
    let slots = separated (register Pb pd ∷ p_either pg_13_10 m ∷ register Pb pn ∷ []) in
    rows break_first 0 0 break_names slots ++ rows break_first 0 (put_at 22 1) (sets_flags break_names) slots

abbrev pub break_pair_names : List (List ℕ)
break_pair_names = codes "brkpa" ∷ codes "brkpb" ∷ []

unfoldable pub break_pair_texts : List Pattern
break_pair_texts =
    rows break_pair 0 0 break_pair_names
    (separated (register Pb pd ∷ p_zeroing pg_13_10 ∷ register Pb pn ∷ register Pb pm ∷ []))
    ++ rows break_pair 0 (put_at 22 1) (sets_flags break_pair_names)
    (separated (register Pb pd ∷ p_zeroing pg_13_10 ∷ register Pb pn ∷ register Pb pm ∷ []))

unfoldable pub break_next_texts : List Pattern
break_next_texts =
    let pdm = 3 to 0 in
    let slots = separated (register Pb pdm ∷ p_zeroing pg_13_10 ∷ register Pb pn ∷ register Pb pdm ∷ []) in
    row break_next 0 0 (codes "brkn") slots ∷ row break_next 0 (put_at 22 1) (codes "brkns") slots ∷ []

unfoldable pub ptest_texts : List Pattern
ptest_texts = row ptest 0 0 (codes "ptest") (separated (register P pg_13_10 ∷ register Pb pn ∷ [])) ∷ []

unfoldable pub first_texts : List Pattern
first_texts =
    let pg_8_5 = 8 to 5 in let pdn = 3 to 0 in
    row first_active 0 0 (codes "pfirst") (separated (register Pb pdn ∷ register P pg_8_5 ∷ register Pb pdn ∷ [])) ∷ []

unfoldable pub next_texts : List Pattern
next_texts =
    let pg_8_5 = 8 to 5 in let pdn = 3 to 0 in
    row next_active 0 0 (codes "pnext") (separated (p_at pdn ∷ register P pg_8_5 ∷ p_at pdn ∷ [])) ∷ []

abbrev pub ptrue_names : List (List ℕ)
ptrue_names = codes "ptrue" ∷ codes "ptrues" ∷ []

unfoldable pub ptrue_texts : List Pattern
ptrue_texts =
    rows ptrue 0 0 ptrue_names (p_at pd ++ (perhaps ∷ inside 31 named_pattern ∷ []))
    ++ rows ptrue 0 0 ptrue_names (p_at pd ++ (then ∷ pattern_number ∷ []))

unfoldable pub pfalse_texts : List Pattern
pfalse_texts = row pfalse 0 0 (codes "pfalse") (register Pb pd) ∷ []

unfoldable pub read_ffr_texts : List Pattern
read_ffr_texts =
    let pg_8_5 = 8 to 5 in
    rows read_ffr 0 0 (codes "rdffr" ∷ codes "rdffrs" ∷ []) (separated (register Pb pd ∷ p_zeroing pg_8_5 ∷ []))

unfoldable pub read_ffr_all_texts : List Pattern
read_ffr_all_texts = row read_ffr_all 0 0 (codes "rdffr") (register Pb pd) ∷ []

unfoldable pub write_ffr_texts : List Pattern
write_ffr_texts = row write_ffr 0 0 (codes "setffr") [] ∷ row write_ffr 1 0 (codes "wrffr") (register Pb pn) ∷ []

unfoldable pub count_p_texts : List Pattern
count_p_texts = row count_p 0 0 (codes "cntp") (separated (register X rd ∷ register P pg_13_10 ∷ p_at pn ∷ [])) ∷ []

abbrev pub steps : List (List ℕ)
steps = codes "incp" ∷ codes "decp" ∷ []

unfoldable pub inc_p_texts : List Pattern
inc_p_texts = let pm_8_5 = 8 to 5 in rows inc_p 0 0 steps (separated (register X rdn ∷ p_at pm_8_5 ∷ []))

unfoldable pub inc_p_z_texts : List Pattern
inc_p_z_texts = let pm_8_5 = 8 to 5 in rows inc_p_z 0 0 steps (separated (z_at zdn ∷ p_at pm_8_5 ∷ []))

-- R, x where this bit is 1, else w
abbrev pub r_by : Bits → Bits → List Slot
r_by sf b = of (Told sf General) (bits b) ∷ []

unfoldable pub while_texts : List Pattern
while_texts = rows while_compare 0 0 (codes "whilelt" ∷ codes "whilele" ∷ codes "whilelo" ∷ codes "whilels" ∷ [])
    (let sf = 12 to 12 in separated (p_at pd ∷ r_by sf rn ∷ r_by sf rm ∷ []))

unfoldable pub cterm_texts : List Pattern
cterm_texts =
    rows cterm 0 0 (codes "ctermeq" ∷ codes "ctermne" ∷ [])
    (let sf = 22 to 22 in separated (r_by sf rn ∷ r_by sf rm ∷ []))
