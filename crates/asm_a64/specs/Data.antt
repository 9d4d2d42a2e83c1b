-- The texts of the table's lines of data processing. They are the assembler syntax of the entries of data processing of
-- the Arm Architecture Reference Manual for A-profile (DDI 0487), C6.2 'Alphabetical list of A64 base instructions'.
use Rattle.std.specs.Prelude.{ℕ, ◌+◌, List, [], ◌∷◌, ◌++◌, codes}
use Rattle.text_model.specs.declared.classes.Class.TheVariants.{W, X, Shift, Condition, ExtendDoubleword}
use Rattle.text_model.specs.declared.classes.Group.TheVariants.{General, Extend, NarrowExtend}
use Rattle.text_model.specs.declared.slots.Bits.{Bits}
use Rattle.text_model.specs.declared.slots.Parts.TheVariants.{At, Two}
use Rattle.text_model.specs.declared.slots.Shape.{Shape}
use Rattle.text_model.specs.declared.slots.Shape.TheVariants.{Only, Told}
use Rattle.text_model.specs.declared.slots.Kind.TheVariants.{Bitmask}
use Rattle.text_model.specs.declared.slots.Codec.{Codec}
use Rattle.text_model.specs.declared.slots.Slot.{Slot}
use Rattle.text_model.specs.Reading.{Pattern}
use Rattle.text_model.specs.Writing.{◌to◌, bits, stack, times, coded, of, one, then, counted, hexadecimal, target, perhaps, inside, row, rows, put_at}
use Rattle.a64_insn.specs.Data.{adr, add_imm, logic_imm, move_wide, bitfield, extract, logic_reg, add_reg, add_ext, add_carry, cond_reg, cond_imm, select, mul_add, mul_long, mul_high, two_source, one_source, rev}

-- ---- operands

-- a general register of the width that sf tells
abbrev pub r : Codec → Slot
r c = of (Told (31 to 31) General) c

abbrev pub w : Codec → Slot
w c = of (Only W) c

abbrev pub x : Codec → Slot
x c = of (Only X) c

-- registers, by their fields' names in the forms
abbrev pub rd : Codec
rd = bits (4 to 0)

abbrev pub rt : Codec
rt = bits (4 to 0)

abbrev pub rn : Codec
rn = bits (9 to 5)

abbrev pub rm : Codec
rm = bits (20 to 16)

abbrev pub ra : Codec
ra = bits (14 to 10)

-- Rd|SP and Rn|SP
abbrev pub rd_sp : Codec
rd_sp = stack (4 to 0)

abbrev pub rn_sp : Codec
rn_sp = stack (9 to 5)

-- sf, the width of 64 bits
abbrev pub sf : ℕ
sf = put_at 31 1

abbrev pub cond : Bits
cond = 15 to 12

-- ---- addresses and immediates

abbrev pub imm12 : Bits
imm12 = 21 to 10

abbrev pub imm16 : Bits
imm16 = 20 to 5

abbrev address_slots : Slot → List Slot
address_slots t = x rd ∷ then ∷ t ∷ []

-- `adr`, `adrp Xd, target`
unfoldable pub adr_texts : List Pattern
adr_texts =
    row adr 0 0 (codes "adr") (address_slots (target 1 1 (Two (23 to 5) (30 to 29))))
    ∷ row adr 1 0 (codes "adrp") (address_slots (target 4096 4096 (Two (23 to 5) (30 to 29)))) ∷ []

-- `{, lsl #0}`, n times the bits
abbrev shifted_by : ℕ → Codec → List Slot
shifted_by v c = perhaps ∷ inside v (one Shift) ∷ inside 0 (counted c) ∷ []

-- `Rd|SP, Rn|SP, #i{, lsl #0}`; Rd 31 is zero in the forms that set flags
abbrev add_imm_slots : Codec → List Slot
add_imm_slots d =
    let sh = 22 to 22 in r d ∷ then ∷ r rn_sp ∷ then ∷ counted (times 1 (At imm12)) ∷ shifted_by 0 (times 12 (At sh))

unfoldable pub add_imm_texts : List Pattern
add_imm_texts =
    row add_imm 0 0 (codes "add") (add_imm_slots rd_sp) ∷ row add_imm 1 0 (codes "adds") (add_imm_slots rd)
    ∷ row add_imm 2 0 (codes "sub") (add_imm_slots rd_sp) ∷ row add_imm 3 0 (codes "subs") (add_imm_slots rd) ∷ []

-- `Rd|SP, Rn, #m` at a width, with N, immr and imms; Rd 31 is zero in `ands`
abbrev logic_imm_slots : ℕ → Shape → Codec → List Slot
logic_imm_slots n k d = of k d ∷ then ∷ of k rn ∷ then ∷ hexadecimal n (coded (Bitmask n) (At (22 to 10))) ∷ []

abbrev logic_imm_at : ℕ → ℕ → Shape → List Pattern
logic_imm_at settled n k =
    rows logic_imm 0 settled (codes "and" ∷ codes "orr" ∷ codes "eor" ∷ []) (logic_imm_slots n k rd_sp)
    ++ rows logic_imm 3 settled (codes "ands" ∷ []) (logic_imm_slots n k rd)

unfoldable pub logic_imm_texts : List Pattern
logic_imm_texts = logic_imm_at 0 32 (Only W) ++ logic_imm_at sf 64 (Only X)

-- `movn`, `movz`, `movk Rd, #i{, lsl #0}`
unfoldable pub move_wide_texts : List Pattern
move_wide_texts =
    let hw = 22 to 21 in
    rows move_wide 0 0 (codes "movn" ∷ codes "movz" ∷ codes "movk" ∷ [])
    (r rd ∷ then ∷ counted (times 1 (At imm16)) ∷ shifted_by 0 (times 16 (At hw)))

-- N is 1 with sf
abbrev pub sf_and_n : ℕ
sf_and_n = sf + put_at 22 1

-- `sbfm`, `bfm`, `ubfm Rd, Rn, #r, #s`
abbrev bitfield_at : ℕ → Shape → List Pattern
bitfield_at settled k = let r = 21 to 16 in let s = 15 to 10 in
    rows bitfield 0 settled (codes "sbfm" ∷ codes "bfm" ∷ codes "ubfm" ∷ [])
    (of k rd ∷ then ∷ of k rn ∷ then ∷ counted (times 1 (At r)) ∷ then ∷ counted (times 1 (At s)) ∷ [])

unfoldable pub bitfield_texts : List Pattern
bitfield_texts = bitfield_at 0 (Only W) ++ bitfield_at sf_and_n (Only X)

-- `extr Rd, Rn, Rm, #s`
abbrev extract_at : ℕ → Shape → Pattern
extract_at settled k =
    let s = 15 to 10 in
    row extract 0 settled (codes "extr")
    (of k rd ∷ then ∷ of k rn ∷ then ∷ of k rm ∷ then ∷ counted (times 1 (At s)) ∷ [])

unfoldable pub extract_texts : List Pattern
extract_texts = extract_at 0 (Only W) ∷ extract_at sf_and_n (Only X) ∷ []

-- ---- registers

-- `Rd, Rn, Rm{, lsl #0}`
abbrev shifted_slots : List Slot
shifted_slots =
    let shift = 23 to 22 in let amount = 15 to 10 in
    r rd ∷ then ∷ r rn ∷ then ∷ r rm ∷ perhaps ∷ inside 0 (of (Only Shift) (bits shift))
    ∷ inside 0 (counted (times 1 (At amount))) ∷ []

unfoldable pub logic_reg_texts : List Pattern
logic_reg_texts =
    rows logic_reg 0 0 (codes "and" ∷ codes "bic" ∷ codes "orr" ∷ codes "orn" ∷ codes "eor" ∷ codes "eon" ∷ codes "ands"
    ∷ codes "bics" ∷ []) shifted_slots

unfoldable pub add_reg_texts : List Pattern
add_reg_texts = rows add_reg 0 0 (codes "add" ∷ codes "adds" ∷ codes "sub" ∷ codes "subs" ∷ []) shifted_slots

-- `ext #a` behind its register: of ext bits 14 to 13 are the width that is extended, bit 15 the sign
abbrev extended : Slot → Slot → List Slot
extended m e = let a = 12 to 10 in m ∷ then ∷ e ∷ counted (times 1 (At a)) ∷ []

-- `Rd|SP, Rn|SP, Rm, ext #a`; Rm is 64 bits wide with sf where the extension is uxtx or sxtx
abbrev add_ext_as : ℕ → List ℕ → Codec → List Pattern
add_ext_as k name d =
    row add_ext k 0 name (w d ∷ then ∷ w rn_sp ∷ then
    ∷ extended (w rm) (of (Told (14 to 13) Extend) (bits (15 to 15))))
    ∷ row add_ext k sf name (x d ∷ then ∷ x rn_sp ∷ then
    ∷ extended (w rm) (of (Told (14 to 13) NarrowExtend) (bits (15 to 15))))
    ∷ row add_ext k (sf + put_at 13 3) name
    (x d ∷ then ∷ x rn_sp ∷ then ∷ extended (x rm) (of (Only ExtendDoubleword) (bits (15 to 15)))) ∷ []

unfoldable pub add_ext_texts : List Pattern
add_ext_texts =
    add_ext_as 0 (codes "add") rd_sp
    ++ (add_ext_as 1 (codes "adds") rd ++ (add_ext_as 2 (codes "sub") rd_sp ++ add_ext_as 3 (codes "subs") rd))

-- `Rd, Rn, Rm`
abbrev three : List Slot
three = r rd ∷ then ∷ r rn ∷ then ∷ r rm ∷ []

unfoldable pub add_carry_texts : List Pattern
add_carry_texts = rows add_carry 0 0 (codes "adc" ∷ codes "adcs" ∷ codes "sbc" ∷ codes "sbcs" ∷ []) three

-- `ccmn`, `ccmp Rn, y, #f, cond`
abbrev cond_slots : Slot → List Slot
cond_slots y =
    let f = 3 to 0 in r rn ∷ then ∷ y ∷ then ∷ counted (times 1 (At f)) ∷ then ∷ of (Only Condition) (bits cond) ∷ []

unfoldable pub cond_reg_texts : List Pattern
cond_reg_texts = rows cond_reg 0 0 (codes "ccmn" ∷ codes "ccmp" ∷ []) (cond_slots (r rm))

unfoldable pub cond_imm_texts : List Pattern
cond_imm_texts =
    rows cond_imm 0 0 (codes "ccmn" ∷ codes "ccmp" ∷ []) (let i = 20 to 16 in cond_slots (counted (times 1 (At i))))

unfoldable pub select_texts : List Pattern
select_texts =
    rows select 0 0 (codes "csel" ∷ codes "csinc" ∷ codes "csinv" ∷ codes "csneg" ∷ [])
    (three ++ (then ∷ of (Only Condition) (bits cond) ∷ []))

unfoldable pub mul_add_texts : List Pattern
mul_add_texts = rows mul_add 0 0 (codes "madd" ∷ codes "msub" ∷ []) (three ++ (then ∷ r ra ∷ []))

unfoldable pub mul_long_texts : List Pattern
mul_long_texts =
    rows mul_long 0 0 (codes "smaddl" ∷ codes "smsubl" ∷ codes "umaddl" ∷ codes "umsubl" ∷ [])
    (x rd ∷ then ∷ w rn ∷ then ∷ w rm ∷ then ∷ x ra ∷ [])

unfoldable pub mul_high_texts : List Pattern
mul_high_texts = rows mul_high 0 0 (codes "smulh" ∷ codes "umulh" ∷ []) (x rd ∷ then ∷ x rn ∷ then ∷ x rm ∷ [])

unfoldable pub two_source_texts : List Pattern
two_source_texts =
    rows two_source 0 0 (codes "udiv" ∷ codes "sdiv" ∷ codes "lslv" ∷ codes "lsrv" ∷ codes "asrv" ∷ codes "rorv"
    ∷ []) three

unfoldable pub one_source_texts : List Pattern
one_source_texts =
    rows one_source 0 0 (codes "rbit" ∷ codes "rev16" ∷ codes "clz" ∷ codes "cls" ∷ []) (r rd ∷ then ∷ r rn ∷ [])

unfoldable pub rev_texts : List Pattern
rev_texts =
    row rev 0 0 (codes "rev") (w rd ∷ then ∷ w rn ∷ [])
    ∷ row rev 1 0 (codes "rev") (x rd ∷ then ∷ x rn ∷ []) ∷ row rev 2 0 (codes "rev32") (x rd ∷ then ∷ x rn ∷ []) ∷ []

-- the patterns of these lines, in the order of the table's
unfoldable pub data_lines : List (List Pattern)
data_lines =
    adr_texts ∷ add_imm_texts ∷ logic_imm_texts ∷ move_wide_texts ∷ bitfield_texts ∷ extract_texts ∷ logic_reg_texts
    ∷ add_reg_texts ∷ add_ext_texts ∷ add_carry_texts
    ∷ cond_reg_texts ∷ cond_imm_texts ∷ select_texts ∷ mul_add_texts ∷ mul_long_texts ∷ mul_high_texts
    ∷ two_source_texts ∷ one_source_texts ∷ rev_texts ∷ []
