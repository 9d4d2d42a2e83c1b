-- The texts of lines whose results are lane by lane. They are the assembler syntax of the entries of integer
-- arithmetic, logic, shifts, moves and copies of the Arm Architecture Reference Manual for A-profile (DDI 0487), C8.2
-- 'Alphabetical list of SVE instructions'.
use Rattle.std.specs.Prelude.{ℕ, ◌+◌, ◌^◌, List, [], ◌∷◌, ◌++◌, get_or, codes}
use Rattle.sve_insn.specs.Lanes.{binary, binary_wide, shift_imm, unary, mul_add_z, mul_add_d, plain, logic_z, plain_wide, plain_shift, index_z, dot, dot_indexed, wide_imm, min_max_imm, dup_imm, bitmask_z, copy_imm, prefix_p, prefix, select_z}
use Rattle.text_model.specs.declared.classes.Class.TheVariants.{Z, Zb, Zh, Zs, Zd, P}
use Rattle.text_model.specs.declared.classes.Group.TheVariants.{QuarterLanes}
use Rattle.text_model.specs.declared.slots.Parts.{Parts}
use Rattle.text_model.specs.declared.slots.Parts.TheVariants.{Nowhere, At, Two}
use Rattle.text_model.specs.declared.slots.Kind.TheVariants.{Falling, Bitmask}
use Rattle.text_model.specs.declared.slots.Slot.{Slot}
use Rattle.text_model.specs.Reading.{Pattern}
use Rattle.text_model.specs.Writing.{◌to◌, coded, times, signed_times, counted, hexadecimal, row, rows, put_at}
use Rattle.asm_sve.specs.Operands.{separated, all_sizes, z_class, sized, zd, zdn, zda, zn, zm, zm_9_5, pg, pg_13_10, imm8, register, z_at, z_by, r_at, p_merging, p_either, unsigned_at, signed_at, shifted, index}

-- Shifts by vectors are written size by size: lanes of 64 bits have the operands of the wide ones.
abbrev pub binary_vectors : List (List ℕ)
binary_vectors =
    codes "add" ∷ codes "sub" ∷ codes "subr" ∷ codes "smax" ∷ codes "umax" ∷ codes "smin" ∷ codes "umin" ∷ codes "sabd"
    ∷ codes "uabd"
    ∷ codes "mul" ∷ codes "smulh" ∷ codes "umulh" ∷ codes "sdiv" ∷ codes "udiv" ∷ codes "sdivr" ∷ codes "udivr"
    ∷ codes "orr" ∷ codes "eor" ∷ codes "and" ∷ codes "bic" ∷ []

abbrev pub shifts : List (List ℕ)
shifts = codes "asr" ∷ codes "lsr" ∷ codes "lsl" ∷ []

unfoldable pub binary_texts : List Pattern
binary_texts =
    rows binary 0 0 binary_vectors (separated (z_at zdn ∷ p_merging pg ∷ z_at zdn ∷ z_at zm_9_5 ∷ []))
    ++ (sized all_sizes (λ s. let z = z_class s in
    rows binary 20 (put_at 22 s) shifts
    (separated (register z zdn ∷ p_merging pg ∷ register z zdn ∷ register z zm_9_5 ∷ [])))
    ++ rows binary 23 0 (codes "asrr" ∷ codes "lsrr" ∷ codes "lslr" ∷ [])
    (separated (z_at zdn ∷ p_merging pg ∷ z_at zdn ∷ z_at zm_9_5 ∷ [])))

unfoldable pub binary_wide_texts : List Pattern
binary_wide_texts = sized (0 ∷ 1 ∷ 2 ∷ []) (λ s. let z = z_class s in
    rows binary_wide 0 (put_at 22 s) shifts
    (separated (register z zdn ∷ p_merging pg ∷ register z zdn ∷ register Zd zm_9_5 ∷ [])))

-- Immediate shifts: tszh stands at bits 23 to 22, tszl and imm3 from place p on. The highest set bit of tszh:tszl tells
-- the size, and those behind it, with imm3, the amount.
abbrev pub size_bit : ℕ → ℕ → ℕ
size_bit p s = get_or (2 ^ (p + 3) ∷ 2 ^ (p + 4) ∷ 2 ^ 22 ∷ 2 ^ 23 ∷ []) s 0

abbrev pub amount_bits : ℕ → ℕ → Parts
amount_bits p s =
    get_or (At ((p + 2) to p) ∷ At ((p + 3) to p) ∷ At ((p + 4) to p) ∷ Two (22 to 22) ((p + 4) to p) ∷ []) s Nowhere

abbrev pub right_amount : ℕ → ℕ → List Slot
right_amount p s = counted (coded Falling (amount_bits p s)) ∷ []

abbrev pub left_amount : ℕ → ℕ → List Slot
left_amount p s = counted (times 1 (amount_bits p s)) ∷ []

abbrev pub shift_imm_slots : ℕ → List Slot → List Slot
shift_imm_slots s amount = separated (register (z_class s) zdn ∷ p_merging pg ∷ register (z_class s) zdn ∷ amount ∷ [])

unfoldable pub shift_imm_texts : List Pattern
shift_imm_texts = sized all_sizes (λ s.
    rows shift_imm 0 (size_bit 5 s) (codes "asr" ∷ codes "lsr" ∷ []) (shift_imm_slots s (right_amount 5 s))
    ++ (row shift_imm 2 (size_bit 5 s) (codes "lsl") (shift_imm_slots s (left_amount 5 s))
    ∷ row shift_imm 3 (size_bit 5 s) (codes "asrd") (shift_imm_slots s (right_amount 5 s)) ∷ []))

unfoldable pub unary_texts : List Pattern
unary_texts = rows unary 0 0
    (codes "sxtb" ∷ codes "uxtb" ∷ codes "sxth" ∷ codes "uxth" ∷ codes "sxtw" ∷ codes "uxtw" ∷ codes "abs" ∷ codes "neg"
    ∷ codes "cls" ∷ codes "clz" ∷ codes "cnt" ∷ codes "cnot" ∷ codes "not" ∷ codes "revb" ∷ codes "revh" ∷ codes "revw"
    ∷ codes "rbit" ∷ [])
    (separated (z_at zd ∷ p_merging pg ∷ z_at zn ∷ []))

unfoldable pub mul_add_z_texts : List Pattern
mul_add_z_texts =
    rows mul_add_z 0 0 (codes "mla" ∷ codes "mls" ∷ []) (separated (z_at zda ∷ p_merging pg ∷ z_at zn ∷ z_at zm ∷ []))

unfoldable pub mul_add_d_texts : List Pattern
mul_add_d_texts =
    let za = 9 to 5 in
    rows mul_add_d 0 0 (codes "mad" ∷ codes "msb" ∷ []) (separated (z_at zdn ∷ p_merging pg ∷ z_at zm ∷ z_at za ∷ []))

unfoldable pub plain_texts : List Pattern
plain_texts =
    rows plain 0 0 (codes "add" ∷ codes "sub" ∷ codes "sqadd" ∷ codes "uqadd" ∷ codes "sqsub" ∷ codes "uqsub" ∷ [])
    (separated (z_at zd ∷ z_at zn ∷ z_at zm ∷ []))

unfoldable pub logic_z_texts : List Pattern
logic_z_texts = rows logic_z 0 0 (codes "and" ∷ codes "orr" ∷ codes "eor" ∷ codes "bic" ∷ [])
    (separated (register Zd zd ∷ register Zd zn ∷ register Zd zm ∷ []))

unfoldable pub plain_wide_texts : List Pattern
plain_wide_texts = rows plain_wide 0 0 shifts (separated (z_at zd ∷ z_at zn ∷ register Zd zm ∷ []))

abbrev pub plain_shift_slots : ℕ → List Slot → List Slot
plain_shift_slots s amount = separated (register (z_class s) zd ∷ register (z_class s) zn ∷ amount ∷ [])

unfoldable pub plain_shift_texts : List Pattern
plain_shift_texts = sized all_sizes (λ s.
    rows plain_shift 0 (size_bit 16 s) (codes "asr" ∷ codes "lsr" ∷ []) (plain_shift_slots s (right_amount 16 s))
    ++ (row plain_shift 2 (size_bit 16 s) (codes "lsl") (plain_shift_slots s (left_amount 16 s)) ∷ []))

unfoldable pub index_texts : List Pattern
index_texts =
    let y = 20 to 16 in let x = 9 to 5 in
    row index_z 0 0 (codes "index") (separated (z_at zd ∷ signed_at x ∷ signed_at y ∷ []))
    ∷ row index_z 1 0 (codes "index") (separated (z_at zd ∷ r_at x ∷ signed_at y ∷ []))
    ∷ row index_z 2 0 (codes "index") (separated (z_at zd ∷ signed_at x ∷ r_at y ∷ []))
    ∷ row index_z 3 0 (codes "index") (separated (z_at zd ∷ r_at x ∷ r_at y ∷ [])) ∷ []

unfoldable pub dot_texts : List Pattern
dot_texts =
    rows dot 0 0 (codes "sdot" ∷ codes "udot" ∷ [])
    (separated (z_at zda ∷ z_by QuarterLanes zn ∷ z_by QuarterLanes zm ∷ []))

-- i_zm is the lane above the number of Zm
unfoldable pub dot_indexed_texts : List Pattern
dot_indexed_texts =
    rows dot_indexed 0 0 (codes "sdot" ∷ codes "udot" ∷ [])
    (separated (register Zs zda ∷ register Zb zn ∷ (register Zb (18 to 16) ++ index (times 1 (At (20 to 19)))) ∷ []))
    ++ rows dot_indexed 2 0 (codes "sdot" ∷ codes "udot" ∷ [])
    (separated (register Zd zda ∷ register Zh zn ∷ (register Zh (19 to 16) ++ index (times 1 (At (20 to 20)))) ∷ []))

unfoldable pub wide_imm_texts : List Pattern
wide_imm_texts = rows wide_imm 0 0
    (codes "add" ∷ codes "sub" ∷ codes "subr" ∷ codes "sqadd" ∷ codes "uqadd" ∷ codes "sqsub" ∷ codes "uqsub" ∷ [])
    (separated (z_at zdn ∷ z_at zdn ∷ shifted (times 1 (At imm8)) ∷ []))

unfoldable pub min_max_imm_texts : List Pattern
min_max_imm_texts =
    rows min_max_imm 0 0 (codes "smax" ∷ codes "smin" ∷ codes "mul" ∷ [])
    (separated (z_at zdn ∷ z_at zdn ∷ signed_at imm8 ∷ []))
    ++ rows min_max_imm 3 0 (codes "umax" ∷ codes "umin" ∷ []) (separated (z_at zdn ∷ z_at zdn ∷ unsigned_at imm8 ∷ []))

unfoldable pub dup_imm_texts : List Pattern
dup_imm_texts = row dup_imm 0 0 (codes "dup") (separated (z_at zd ∷ shifted (signed_times 1 (At imm8)) ∷ [])) ∷ []

-- the fields N, immr and imms of a bitmask
abbrev pub bitmask : List Slot
bitmask = hexadecimal 64 (coded (Bitmask 64) (At (17 to 5))) ∷ []

unfoldable pub bitmask_z_texts : List Pattern
bitmask_z_texts =
    rows bitmask_z 0 0 (codes "orr" ∷ codes "eor" ∷ codes "and" ∷ [])
    (separated (register Zd zdn ∷ register Zd zdn ∷ bitmask ∷ []))
    ++ (row bitmask_z 3 0 (codes "dupm") (separated (register Zd zdn ∷ bitmask ∷ [])) ∷ [])

unfoldable pub copy_imm_texts : List Pattern
copy_imm_texts =
    let pg_19_16 = 19 to 16 in let m = 14 to 14 in
    row copy_imm 0 0 (codes "cpy") (separated (z_at zd ∷ p_either pg_19_16 m ∷ shifted (signed_times 1 (At imm8)) ∷ []))
    ∷ []

unfoldable pub prefix_p_texts : List Pattern
prefix_p_texts =
    let m = 16 to 16 in row prefix_p 0 0 (codes "movprfx") (separated (z_at zd ∷ p_either pg m ∷ z_at zn ∷ [])) ∷ []

unfoldable pub prefix_texts : List Pattern
prefix_texts = row prefix 0 0 (codes "movprfx") (separated (register Z zd ∷ register Z zn ∷ [])) ∷ []

unfoldable pub select_z_texts : List Pattern
select_z_texts =
    row select_z 0 0 (codes "sel") (separated (z_at zd ∷ register P pg_13_10 ∷ z_at zn ∷ z_at zm ∷ [])) ∷ []
