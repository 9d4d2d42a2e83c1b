-- The table's lines of data processing. From the Arm Architecture Reference Manual for A-profile (DDI 0487), C4 'A64
-- Instruction Set Encoding', 'Data Processing -- Immediate' and 'Data Processing -- Register', and the encodings of the
-- entries of C6.2; a condition leaves out what their decoding has as UNDEFINED. A line's rows, its fields' order and
-- its number are this project's own.
use Rattle.std.specs.Prelude.{ℕ, ◌==◌, ◌&&◌, ◌||◌, Bool, cond, not, [], ◌∷◌, nat_lt, nat_le, is_some}
use Rattle.emu_bits.specs.Bitmask.{bitmask_of}
use Rattle.emu_bits.specs.Rows.{◌to◌, Line, line_of, line_if, of_two, of_three, of_four, of_five, of_six}
use Rattle.a64_insn.specs.declared.form.A64Form.{A64Form}
use Rattle.a64_insn.specs.declared.form.A64Form.TheVariants.{Adr, AddImm, LogicImm, MoveWide, Bitfield, Extract, LogicReg, AddReg, AddExt, AddCarry, CondReg, CondImm, Select, MulAdd, MulLong, MulHigh, TwoSource, OneSource, Rev}
use Rattle.a64_insn.specs.Names.{add_carry_named, add_named, adr_named, bitfield_named, cond_compare_named, logic_imm_named, logic_reg_named, move_wide_named, mul_add_named, mul_high_named, mul_long_named, one_source_named, rev_named, select_named, two_source_named}

-- the fields of a bitmask immediate have a value, of 64 bits where sf is 1, else 32
unfoldable pub has_bitmask : ℕ → ℕ → ℕ → ℕ → Bool
has_bitmask sf n immr imms = is_some (bitmask_of (cond (sf == 1) 64 32) n immr imms)

-- a number is below the width of a register: 64 where sf is 1, else 32
unfoldable pub is_below_width : ℕ → ℕ → Bool
is_below_width sf v = nat_lt v (cond (sf == 1) 64 32)

-- `adr`, `adrp Xd, target`
unfoldable pub adr : Line A64Form
adr = line_of (0x10000000 ∷ 0x90000000 ∷ []) ((30 to 29) ∷ (23 to 5) ∷ (4 to 0) ∷ [])
    (λ k. of_three (λ immlo immhi rd. Adr (adr_named k) immlo immhi rd))

-- `add`, `adds`, `sub`, `subs Rd|SP, Rn|SP, #i{, lsl #0}`
unfoldable pub add_imm : Line A64Form
add_imm = line_of (0x11000000 ∷ 0x31000000 ∷ 0x51000000 ∷ 0x71000000 ∷ [])
    ((31 to 31) ∷ (22 to 22) ∷ (21 to 10) ∷ (9 to 5) ∷ (4 to 0) ∷ [])
    (λ k. of_five (λ sf sh imm rn rd. AddImm (add_named k) (sf == 1) (sh == 1) imm rn rd))

-- `and`, `orr`, `eor`, `ands Rd|SP, Rn, #m`
unfoldable pub logic_imm : Line A64Form
logic_imm = line_if (0x12000000 ∷ 0x32000000 ∷ 0x52000000 ∷ 0x72000000 ∷ [])
    ((31 to 31) ∷ (22 to 22) ∷ (21 to 16) ∷ (15 to 10) ∷ (9 to 5) ∷ (4 to 0) ∷ [])
    (λ k. of_six (λ sf n immr imms rn rd.
    (has_bitmask sf n immr imms, LogicImm (logic_imm_named k) (sf == 1) (n == 1) immr imms rn rd)))

-- hw is below 2 at 32 bits
unfoldable pub move_wide_holds_for : ℕ → ℕ → Bool
move_wide_holds_for sf hw = sf == 1 || nat_lt hw 2

-- `movn`, `movz`, `movk Rd, #i{, lsl #0}`
unfoldable pub move_wide : Line A64Form
move_wide = line_if (0x12800000 ∷ 0x52800000 ∷ 0x72800000 ∷ []) ((31 to 31) ∷ (22 to 21) ∷ (20 to 5) ∷ (4 to 0) ∷ [])
    (λ k. of_four (λ sf hw imm rd. (move_wide_holds_for sf hw, MoveWide (move_wide_named k) (sf == 1) hw imm rd)))

-- N is sf, and r and s are below the width
unfoldable pub bitfield_holds_for : ℕ → ℕ → ℕ → ℕ → Bool
bitfield_holds_for sf n r s = n == sf && (is_below_width sf r && is_below_width sf s)

-- `sbfm`, `bfm`, `ubfm Rd, Rn, #r, #s`
unfoldable pub bitfield : Line A64Form
bitfield = line_if (0x13000000 ∷ 0x33000000 ∷ 0x53000000 ∷ [])
    ((31 to 31) ∷ (22 to 22) ∷ (21 to 16) ∷ (15 to 10) ∷ (9 to 5) ∷ (4 to 0) ∷ [])
    (λ k. of_six (λ sf n r s rn rd.
    (bitfield_holds_for sf n r s, Bitfield (bitfield_named k) (sf == 1) (n == 1) r s rn rd)))

-- N is sf, and s is below the width
unfoldable pub extract_holds_for : ℕ → ℕ → ℕ → Bool
extract_holds_for sf n s = n == sf && is_below_width sf s

-- `extr Rd, Rn, Rm, #s`
unfoldable pub extract : Line A64Form
extract = line_if (0x13800000 ∷ []) ((31 to 31) ∷ (22 to 22) ∷ (20 to 16) ∷ (15 to 10) ∷ (9 to 5) ∷ (4 to 0) ∷ [])
    (λ k. of_six (λ sf n rm s rn rd. (extract_holds_for sf n s, Extract (sf == 1) (n == 1) rm s rn rd)))

-- `and`, `bic`, `orr`, `orn`, `eor`, `eon`, `ands`, `bics Rd, Rn, Rm{, lsl #0}`
unfoldable pub logic_reg : Line A64Form
logic_reg =
    line_if (0x0A000000 ∷ 0x0A200000 ∷ 0x2A000000 ∷ 0x2A200000 ∷ 0x4A000000 ∷ 0x4A200000 ∷ 0x6A000000 ∷ 0x6A200000 ∷ [])
    ((31 to 31) ∷ (23 to 22) ∷ (20 to 16) ∷ (15 to 10) ∷ (9 to 5) ∷ (4 to 0) ∷ [])
    (λ k. of_six (λ sf shift rm amount rn rd.
    (is_below_width sf amount, LogicReg (logic_reg_named k) (sf == 1) shift rm amount rn rd)))

-- the shift isn't ror, and the amount is below the width
unfoldable pub add_reg_holds_for : ℕ → ℕ → ℕ → Bool
add_reg_holds_for sf shift amount = not (shift == 3) && is_below_width sf amount

-- `add`, `adds`, `sub`, `subs Rd, Rn, Rm{, lsl #0}`
unfoldable pub add_reg : Line A64Form
add_reg = line_if (0x0B000000 ∷ 0x2B000000 ∷ 0x4B000000 ∷ 0x6B000000 ∷ [])
    ((31 to 31) ∷ (23 to 22) ∷ (20 to 16) ∷ (15 to 10) ∷ (9 to 5) ∷ (4 to 0) ∷ [])
    (λ k. of_six (λ sf shift rm amount rn rd.
    (add_reg_holds_for sf shift amount, AddReg (add_named k) (sf == 1) shift rm amount rn rd)))

-- the amount is at most 4
unfoldable pub add_ext_holds_for : ℕ → Bool
add_ext_holds_for a = nat_le a 4

-- `add`, `adds`, `sub`, `subs Rd|SP, Rn|SP, Rm, ext #a`
unfoldable pub add_ext : Line A64Form
add_ext = line_if (0x0B200000 ∷ 0x2B200000 ∷ 0x4B200000 ∷ 0x6B200000 ∷ [])
    ((31 to 31) ∷ (20 to 16) ∷ (15 to 13) ∷ (12 to 10) ∷ (9 to 5) ∷ (4 to 0) ∷ [])
    (λ k. of_six (λ sf rm ext a rn rd. (add_ext_holds_for a, AddExt (add_named k) (sf == 1) rm ext a rn rd)))

-- `adc`, `adcs`, `sbc`, `sbcs Rd, Rn, Rm`
unfoldable pub add_carry : Line A64Form
add_carry = line_of (0x1A000000 ∷ 0x3A000000 ∷ 0x5A000000 ∷ 0x7A000000 ∷ [])
    ((31 to 31) ∷ (20 to 16) ∷ (9 to 5) ∷ (4 to 0) ∷ [])
    (λ k. of_four (λ sf rm rn rd. AddCarry (add_carry_named k) (sf == 1) rm rn rd))

-- `ccmn`, `ccmp Rn, Rm, #f, cond`
unfoldable pub cond_reg : Line A64Form
cond_reg = line_of (0x3A400000 ∷ 0x7A400000 ∷ []) ((31 to 31) ∷ (20 to 16) ∷ (15 to 12) ∷ (9 to 5) ∷ (3 to 0) ∷ [])
    (λ k. of_five (λ sf rm cond rn f. CondReg (cond_compare_named k) (sf == 1) rm cond rn f))

-- `ccmn`, `ccmp Rn, #i, #f, cond`
unfoldable pub cond_imm : Line A64Form
cond_imm = line_of (0x3A400800 ∷ 0x7A400800 ∷ []) ((31 to 31) ∷ (20 to 16) ∷ (15 to 12) ∷ (9 to 5) ∷ (3 to 0) ∷ [])
    (λ k. of_five (λ sf i cond rn f. CondImm (cond_compare_named k) (sf == 1) i cond rn f))

-- `csel`, `csinc`, `csinv`, `csneg Rd, Rn, Rm, cond`
unfoldable pub select : Line A64Form
select = line_of (0x1A800000 ∷ 0x1A800400 ∷ 0x5A800000 ∷ 0x5A800400 ∷ [])
    ((31 to 31) ∷ (20 to 16) ∷ (15 to 12) ∷ (9 to 5) ∷ (4 to 0) ∷ [])
    (λ k. of_five (λ sf rm cond rn rd. Select (select_named k) (sf == 1) rm cond rn rd))

-- `madd`, `msub Rd, Rn, Rm, Ra`
unfoldable pub mul_add : Line A64Form
mul_add = line_of (0x1B000000 ∷ 0x1B008000 ∷ []) ((31 to 31) ∷ (20 to 16) ∷ (14 to 10) ∷ (9 to 5) ∷ (4 to 0) ∷ [])
    (λ k. of_five (λ sf rm ra rn rd. MulAdd (mul_add_named k) (sf == 1) rm ra rn rd))

-- `smaddl`, `smsubl`, `umaddl`, `umsubl Xd, Wn, Wm, Xa`
unfoldable pub mul_long : Line A64Form
mul_long = line_of (0x9B200000 ∷ 0x9B208000 ∷ 0x9BA00000 ∷ 0x9BA08000 ∷ [])
    ((20 to 16) ∷ (14 to 10) ∷ (9 to 5) ∷ (4 to 0) ∷ [])
    (λ k. of_four (λ rm ra rn rd. MulLong (mul_long_named k) rm ra rn rd))

-- `smulh`, `umulh Xd, Xn, Xm`
unfoldable pub mul_high : Line A64Form
mul_high = line_of (0x9B407C00 ∷ 0x9BC07C00 ∷ []) ((20 to 16) ∷ (9 to 5) ∷ (4 to 0) ∷ [])
    (λ k. of_three (λ rm rn rd. MulHigh (mul_high_named k) rm rn rd))

-- `udiv`, `sdiv`, `lslv`, `lsrv`, `asrv`, `rorv Rd, Rn, Rm`
unfoldable pub two_source : Line A64Form
two_source = line_of (0x1AC00800 ∷ 0x1AC00C00 ∷ 0x1AC02000 ∷ 0x1AC02400 ∷ 0x1AC02800 ∷ 0x1AC02C00 ∷ [])
    ((31 to 31) ∷ (20 to 16) ∷ (9 to 5) ∷ (4 to 0) ∷ [])
    (λ k. of_four (λ sf rm rn rd. TwoSource (two_source_named k) (sf == 1) rm rn rd))

-- `rbit`, `rev16`, `clz`, `cls Rd, Rn`
unfoldable pub one_source : Line A64Form
one_source = line_of (0x5AC00000 ∷ 0x5AC00400 ∷ 0x5AC01000 ∷ 0x5AC01400 ∷ []) ((31 to 31) ∷ (9 to 5) ∷ (4 to 0) ∷ [])
    (λ k. of_three (λ sf rn rd. OneSource (one_source_named k) (sf == 1) rn rd))

-- `rev Wd, Wn`, `rev Xd, Xn`, `rev32 Xd, Xn`
unfoldable pub rev : Line A64Form
rev = line_of (0x5AC00800 ∷ 0xDAC00C00 ∷ 0xDAC00800 ∷ []) ((9 to 5) ∷ (4 to 0) ∷ [])
    (λ k. of_two (λ rn rd. Rev (rev_named k) rn rd))
