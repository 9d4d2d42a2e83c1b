-- Other names of instructions, which are read and never printed. From the Arm Architecture Reference Manual for
-- A-profile (DDI 0487), C6.2 'Alphabetical list of A64 base instructions': the entries of the aliases MOV, CMP, LSL
-- (immediate), LSR (immediate), ASR (immediate), MUL and CSET, and those of NOP and RET. Which of them are read is this
-- project's own choice.
use Rattle.std.specs.Prelude.{ℕ, ◌+◌, ◌-◌, List, [], ◌∷◌, ◌++◌, codes}
use Rattle.text_model.specs.declared.classes.Class.TheVariants.{W, X, Condition}
use Rattle.text_model.specs.declared.slots.Parts.TheVariants.{At}
use Rattle.text_model.specs.declared.slots.Shape.{Shape}
use Rattle.text_model.specs.declared.slots.Shape.TheVariants.{Only}
use Rattle.text_model.specs.declared.slots.Kind.TheVariants.{LeftShift, Inverted}
use Rattle.text_model.specs.Reading.{Pattern}
use Rattle.text_model.specs.Writing.{◌to◌, coded, times, of, then, counted, row, put_at}
use Rattle.a64_insn.specs.Data.{add_imm, logic_reg, move_wide, add_reg, bitfield, mul_add, select}
use Rattle.a64_insn.specs.Flow.{branch_reg, hint}
use Rattle.asm_a64.specs.Data.{r, rd, rn, rm, rd_sp, rn_sp, cond, imm12, imm16, sf_and_n}

-- the zero register as Rd, Rn, Ra and Rm
abbrev no_rd : ℕ
no_rd = put_at 0 31

abbrev no_rn : ℕ
no_rn = put_at 5 31

abbrev no_ra : ℕ
no_ra = put_at 10 31

abbrev no_rm : ℕ
no_rm = put_at 16 31

-- `mov Rd, Rm` is `orr Rd, zr, Rm`, or `add Rd, Rm, #0` where one of them is SP; `mov Rd, #i` is `movz Rd, #i`
abbrev moves : List Pattern
moves =
    row logic_reg 2 no_rn (codes "mov") (r rd ∷ then ∷ r rm ∷ [])
    ∷ row add_imm 0 0 (codes "mov") (r rd_sp ∷ then ∷ r rn_sp ∷ [])
    ∷ row move_wide 1 0 (codes "mov") (r rd ∷ then ∷ counted (times 1 (At imm16)) ∷ []) ∷ []

-- `cmp Rn, #i` is `subs zr, Rn, #i`, `cmp Rn, Rm` is `subs zr, Rn, Rm`
abbrev compares : List Pattern
compares =
    row add_imm 3 no_rd (codes "cmp") (r rn_sp ∷ then ∷ counted (times 1 (At imm12)) ∷ [])
    ∷ row add_reg 3 no_rd (codes "cmp") (r rn ∷ then ∷ r rm ∷ []) ∷ []

-- At a width: `lsl Rd, Rn, #s` is `ubfm` with the fields of a left shift; `lsr` and `asr Rd, Rn, #s` are `ubfm` and
-- `sbfm Rd, Rn, #s, #(width - 1)`.
abbrev shifts : ℕ → ℕ → Shape → List Pattern
shifts settled n k =
    let r = 21 to 16 in let right = of k rd ∷ then ∷ of k rn ∷ then ∷ counted (times 1 (At r)) ∷ [] in
    let last = put_at 10 (n - 1) in
    row bitfield 2 settled (codes "lsl")
    (of k rd ∷ then ∷ of k rn ∷ then ∷ counted (coded (LeftShift n) (At (21 to 10))) ∷ [])
    ∷ row bitfield 2 (settled + last) (codes "lsr") right ∷ row bitfield 0 (settled + last) (codes "asr") right ∷ []

-- `mul Rd, Rn, Rm` is `madd Rd, Rn, Rm, zr`; `cset Rd, cond` is `csinc Rd, zr, zr` with the condition that holds where
-- it doesn't; `ret` is `ret x30`, `nop` is `hint #0`
abbrev others : List Pattern
others =
    row mul_add 0 no_ra (codes "mul") (r rd ∷ then ∷ r rn ∷ then ∷ r rm ∷ [])
    ∷ row select 1 (no_rm + no_rn) (codes "cset") (r rd ∷ then ∷ of (Only Condition) (coded Inverted (At cond)) ∷ [])
    ∷ row branch_reg 2 (put_at 5 30) (codes "ret") [] ∷ row hint 0 0 (codes "nop") [] ∷ []

unfoldable pub aliases : List Pattern
aliases = moves ++ (compares ++ (shifts 0 32 (Only W) ++ (shifts sf_and_n 64 (Only X) ++ others)))
