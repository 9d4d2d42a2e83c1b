-- The texts of the table's lines of bit moves. They are the assembler syntax of the entries FMOV (general), MOVI and
-- MVNI of the Arm Architecture Reference Manual for A-profile (DDI 0487), C7.2 'Alphabetical list of A64 Advanced SIMD
-- and floating-point instructions'.
use Rattle.std.specs.Prelude.{ℕ, ◌+◌, List, [], ◌∷◌, ◌++◌, codes}
use Rattle.text_model.specs.declared.classes.Class.{Class}
use Rattle.text_model.specs.declared.classes.Class.TheVariants.{W, X, S, D, V2d, Shift, ShiftOnes}
use Rattle.text_model.specs.declared.classes.Group.{Group}
use Rattle.text_model.specs.declared.classes.Group.TheVariants.{WordVector, HalfwordVector, ByteVector}
use Rattle.text_model.specs.declared.slots.Bits.{Bits}
use Rattle.text_model.specs.declared.slots.Parts.{Parts}
use Rattle.text_model.specs.declared.slots.Parts.TheVariants.{At, Two}
use Rattle.text_model.specs.declared.slots.Shape.TheVariants.{Only, Told}
use Rattle.text_model.specs.declared.slots.Kind.TheVariants.{Scaled, Spread}
use Rattle.text_model.specs.declared.slots.Slot.{Slot}
use Rattle.text_model.specs.Reading.{Pattern}
use Rattle.text_model.specs.Writing.{◌to◌, coded, times, of, one, then, counted, hexadecimal, perhaps, inside, row, put_at}
use Rattle.a64_insn.specs.BitMoves.{f_move, move_imm}
use Rattle.asm_a64.specs.Data.{rd, rn}
use Rattle.asm_a64.specs.Aliases.{aliases}

abbrev between : ℕ → Class → Class → Pattern
between k c d = row f_move k 0 (codes "fmov") (of (Only c) rd ∷ then ∷ of (Only d) rn ∷ [])

-- `fmov Wd, Sn`, `Sd, Wn`, `Xd, Dn`, `Dd, Xn`
unfoldable pub f_move_texts : List Pattern
f_move_texts = between 0 W S ∷ between 1 S W ∷ between 2 X D ∷ between 3 D X ∷ []

-- the byte abcdefgh
abbrev byte : Parts
byte = Two (18 to 16) (9 to 5)

abbrev vector : Group → Slot
vector g = of (Told (30 to 30) g) rd

-- `Vd.T, #i{, lsl #0}`, the amount 8 times some bits of cmode
abbrev shifted : Group → Bits → List Slot
shifted g b =
    vector g ∷ then ∷ counted (times 1 byte) ∷ perhaps ∷ inside 0 (one Shift) ∷ inside 0 (counted (times 8 (At b))) ∷ []

-- `Vd.T, #i, msl #8` or `#16`
abbrev with_ones : List Slot
with_ones =
    vector WordVector ∷ then ∷ counted (times 1 byte) ∷ then ∷ one ShiftOnes
    ∷ counted (coded (Scaled 8 1) (At (12 to 12))) ∷ []

-- movi, or mvni where op is 1: cmode 0 to 6 in words, 8 and 10 in halfwords, 12 and 13 with ones
abbrev in_lanes : ℕ → List ℕ → List Pattern
in_lanes op name =
    row move_imm 0 (put_at 29 op) name (shifted WordVector (14 to 13))
    ∷ row move_imm 0 (put_at 29 op + put_at 12 8) name (shifted HalfwordVector (13 to 13))
    ∷ row move_imm 0 (put_at 29 op + put_at 12 12) name with_ones ∷ []

-- each bit of the byte is a byte of the value
abbrev spread_byte : Slot
spread_byte = hexadecimal 64 (coded Spread byte)

unfoldable pub move_imm_texts : List Pattern
move_imm_texts =
    in_lanes 0 (codes "movi") ++ (in_lanes 1 (codes "mvni")
    ++ (row move_imm 0 (put_at 12 14) (codes "movi") (vector ByteVector ∷ then ∷ counted (times 1 byte) ∷ [])
    ∷ row move_imm 0 (put_at 29 1 + put_at 12 14) (codes "movi") (of (Only D) rd ∷ then ∷ spread_byte ∷ [])
    ∷ row move_imm 0 (put_at 30 1 + (put_at 29 1 + put_at 12 14)) (codes "movi")
    (of (Only V2d) rd ∷ then ∷ spread_byte ∷ []) ∷ []))

-- the patterns of these lines, and behind them those of other names
unfoldable pub last_lines : List (List Pattern)
last_lines = f_move_texts ∷ move_imm_texts ∷ aliases ∷ []
