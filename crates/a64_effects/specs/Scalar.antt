-- What instructions make of the values of scalar registers, and of the flags. From the Arm Architecture Reference
-- Manual for A-profile (DDI 0487), C6.2 'Alphabetical list of A64 base instructions': the operations of the entries of
-- data processing, with the shared pseudocode of J1 (AddWithCarry, ShiftReg, ExtendReg, DecodeBitMasks,
-- ConditionHolds).
use Rattle.std.specs.Prelude.{ℕ, ◌+◌, ◌*◌, ◌/◌, ◌%◌, ◌^◌, Bool, true, false, bit_and, bit_or, bit_xor, if◌then◌else◌, ℤ, pos, ◌+ℤ◌, ◌*ℤ◌}
use Rattle.a64_insn.specs.declared.ops.AdrOp.{AdrOp}
use Rattle.a64_insn.specs.declared.ops.AdrOp.TheVariants.{Adr as AdrByte, Adrp}
use Rattle.a64_insn.specs.declared.ops.AddOp.{AddOp}
use Rattle.a64_insn.specs.declared.ops.AddOp.TheVariants.{Add, Adds, Sub, Subs}
use Rattle.a64_insn.specs.declared.ops.MoveWideOp.{MoveWideOp}
use Rattle.a64_insn.specs.declared.ops.MoveWideOp.TheVariants.{Movn, Movz, Movk}
use Rattle.a64_insn.specs.declared.ops.BitfieldOp.{BitfieldOp}
use Rattle.a64_insn.specs.declared.ops.BitfieldOp.TheVariants.{Sbfm, Bfm, Ubfm}
use Rattle.a64_insn.specs.declared.ops.LogicRegOp.{LogicRegOp}
use Rattle.a64_insn.specs.declared.ops.LogicRegOp.TheVariants.{And, Bic, Orr, Orn, Eor, Eon, Ands, Bics}
use Rattle.a64_insn.specs.declared.ops.LogicImmOp.{LogicImmOp}
use Rattle.a64_insn.specs.declared.ops.LogicImmOp.TheVariants.{And as AndImm, Orr as OrrImm, Eor as EorImm, Ands as AndsImm}
use Rattle.a64_insn.specs.declared.ops.AddCarryOp.{AddCarryOp}
use Rattle.a64_insn.specs.declared.ops.AddCarryOp.TheVariants.{Adc, Adcs, Sbc, Sbcs}
use Rattle.a64_insn.specs.declared.ops.CondCompareOp.{CondCompareOp}
use Rattle.a64_insn.specs.declared.ops.CondCompareOp.TheVariants.{Ccmn, Ccmp}
use Rattle.a64_insn.specs.declared.ops.SelectOp.{SelectOp}
use Rattle.a64_insn.specs.declared.ops.SelectOp.TheVariants.{Csel, Csinc, Csinv, Csneg}
use Rattle.a64_insn.specs.declared.ops.MulAddOp.{MulAddOp}
use Rattle.a64_insn.specs.declared.ops.MulAddOp.TheVariants.{Madd, Msub}
use Rattle.a64_insn.specs.declared.ops.MulLongOp.{MulLongOp}
use Rattle.a64_insn.specs.declared.ops.MulLongOp.TheVariants.{Smaddl, Smsubl, Umaddl, Umsubl}
use Rattle.a64_insn.specs.declared.ops.MulHighOp.{MulHighOp}
use Rattle.a64_insn.specs.declared.ops.MulHighOp.TheVariants.{Smulh, Umulh}
use Rattle.a64_insn.specs.declared.ops.TwoSourceOp.{TwoSourceOp}
use Rattle.a64_insn.specs.declared.ops.TwoSourceOp.TheVariants.{Udiv, Sdiv, Lslv, Lsrv, Asrv, Rorv}
use Rattle.a64_insn.specs.declared.ops.OneSourceOp.{OneSourceOp}
use Rattle.a64_insn.specs.declared.ops.OneSourceOp.TheVariants.{Rbit, Rev16, Clz, Cls}
use Rattle.a64_insn.specs.declared.ops.RevOp.{RevOp}
use Rattle.a64_insn.specs.declared.ops.RevOp.TheVariants.{RevW, RevX, Rev32}
use Rattle.emu_bits.specs.Fields.{field}
use Rattle.emu_bits.specs.Flags.{cond_of, cond_holds, flags_of_number}
use Rattle.emu_bits.specs.Numbers.{signed, unsigned_int, sign_extended, sum_of, flags_of_sum}
use Rattle.emu_bits.specs.declared.flags.Flags.{Flags}
use Rattle.emu_model.specs.State.{Core, read_x, read_x_sp, with_x, with_x_sp}
use Rattle.emu_bits.specs.Operations.{complement, difference, flags_of_result, lsl, lsr, asr, ror, replaced, field_from, field_bits, field_to, signed_product, upper_product, signed_upper_product, unsigned_quotient, signed_quotient, reversed_bits, reversed_bytes, leading_zeros, leading_copies}

-- the low w bits of a register; register 31 reads 0
abbrev pub operand : ℕ → Core → ℕ → ℕ
operand w c r = read_x c r % 2 ^ w

-- the same where the table writes |SP: register 31 reads SP
abbrev pub operand_sp : ℕ → Core → ℕ → ℕ
operand_sp w c r = read_x_sp c r % 2 ^ w

-- the flags, where they are set
abbrev pub with_flags : Bool → Flags → Core → Core
with_flags true f c = record c { flags = f }
with_flags false f c = c

-- ---- addresses

-- immhi:immlo, signed
abbrev pub adr_offset : ℕ → ℕ → ℤ
adr_offset immlo immhi = signed (immhi * 4 + immlo) 21

-- PC + i; PC with its low 12 bits 0, plus 4096·i
abbrev pub adr_target : AdrOp → ℕ → ℤ → ℕ
adr_target AdrByte pc i = unsigned_int (pos pc +ℤ i) 64
adr_target Adrp pc i = unsigned_int (pos (pc / 4096 * 4096) +ℤ pos 4096 *ℤ i) 64

-- ---- sums

-- whether a name sets the flags, and whether it is of a difference
abbrev pub kind_of : AddOp → Bool × Bool
kind_of Add = (false, false)
kind_of Adds = (true, false)
kind_of Sub = (false, true)
kind_of Subs = (true, true)

-- the second operand of a sum, or its complement in a difference
abbrev pub addend : Bool → ℕ → ℕ → ℕ
addend false w b = b
addend true w b = complement w b

-- Rd is a sum with a carry, and the flags are the sum's, where they are set
abbrev pub after_sum : Bool → ℕ → ℕ → ℕ → ℕ → Bool → Core → Core
after_sum sets w rd a b carry c = with_flags sets (flags_of_sum w a b carry) (with_x c rd w (sum_of w a b carry))

-- an add is a + b, and a sub is a + NOT b + 1
abbrev pub after_add : AddOp → ℕ → ℕ → ℕ → ℕ → Core → Core
after_add op w rd a b c = after_sum (kind_of op).0 w rd a (addend (kind_of op).1 w b) (kind_of op).1 c

-- the same, where Rd 31 is SP but in the forms with s
abbrev pub after_add_sp : AddOp → ℕ → ℕ → ℕ → ℕ → Core → Core
after_add_sp Add w rd a b c = with_x_sp c rd w (sum_of w a b false)
after_add_sp Sub w rd a b c = with_x_sp c rd w (sum_of w a (complement w b) true)
after_add_sp Adds w rd a b c = after_add Adds w rd a b c
after_add_sp Subs w rd a b c = after_add Subs w rd a b c

-- a 12-bit immediate, shifted left by 12 where sh is 1
abbrev pub shifted_12 : Bool → ℕ → ℕ
shifted_12 sh imm = if sh then imm * 2 ^ 12 else imm

-- Rn + Rm + C; Rn + NOT Rm + C
abbrev pub after_add_carry : AddCarryOp → ℕ → ℕ → ℕ → ℕ → Core → Core
after_add_carry Adc w rd a b c = after_sum false w rd a b c.flags.c c
after_add_carry Adcs w rd a b c = after_sum true w rd a b c.flags.c c
after_add_carry Sbc w rd a b c = after_sum false w rd a (complement w b) c.flags.c c
after_add_carry Sbcs w rd a b c = after_sum true w rd a (complement w b) c.flags.c c

-- ---- logical operations

-- Rd is a value, and N and Z are its, where the flags are set
abbrev pub after_logic : Bool → ℕ → ℕ → ℕ → Core → Core
after_logic sets w rd x c = with_flags sets (flags_of_result w x) (with_x c rd w x)

-- the second of each pair takes the complement of b
abbrev pub after_logic_reg : LogicRegOp → ℕ → ℕ → ℕ → ℕ → Core → Core
after_logic_reg And w rd a b c = after_logic false w rd (bit_and a b) c
after_logic_reg Bic w rd a b c = after_logic false w rd (bit_and a (complement w b)) c
after_logic_reg Orr w rd a b c = after_logic false w rd (bit_or a b) c
after_logic_reg Orn w rd a b c = after_logic false w rd (bit_or a (complement w b)) c
after_logic_reg Eor w rd a b c = after_logic false w rd (bit_xor a b) c
after_logic_reg Eon w rd a b c = after_logic false w rd (bit_xor a (complement w b)) c
after_logic_reg Ands w rd a b c = after_logic true w rd (bit_and a b) c
after_logic_reg Bics w rd a b c = after_logic true w rd (bit_and a (complement w b)) c

-- where Rd 31 is SP but in ands
abbrev pub after_logic_imm : LogicImmOp → ℕ → ℕ → ℕ → ℕ → Core → Core
after_logic_imm AndImm w rd a b c = with_x_sp c rd w (bit_and a b)
after_logic_imm OrrImm w rd a b c = with_x_sp c rd w (bit_or a b)
after_logic_imm EorImm w rd a b c = with_x_sp c rd w (bit_xor a b)
after_logic_imm AndsImm w rd a b c = after_logic true w rd (bit_and a b) c

-- ---- moves

-- what a move of a 16-bit immediate to place s writes: NOT of it, it, or the old value with that field replaced
abbrev pub wide_moved : MoveWideOp → ℕ → ℕ → ℕ → ℕ → ℕ
wide_moved Movn w imm s old = complement w (lsl w imm s)
wide_moved Movz w imm s old = lsl w imm s
wide_moved Movk w imm s old = replaced old s 16 imm

-- a field x of n bits moved to a place: the other bits are copies of its top bit above and 0 below, the old ones, or 0
abbrev pub bitfield_moved : BitfieldOp → ℕ → ℕ → ℕ → ℕ → ℕ → ℕ
bitfield_moved Sbfm w place n x old = sign_extended w n x * 2 ^ place
bitfield_moved Bfm w place n x old = replaced old place n x
bitfield_moved Ubfm w place n x old = x * 2 ^ place

-- Rd, with the n bits from a place on of Rn moved to another
abbrev pub after_field : BitfieldOp → ℕ → ℕ → ℕ → ℕ → ℕ → ℕ → Core → Core
after_field op w rn rd from n to c =
    with_x c rd w (bitfield_moved op w to n (field (operand w c rn) from n) (operand w c rd))

-- where s ≥ r, bits s:r of Rn go to place 0, else bits s:0 go to place w - r
abbrev pub after_bitfield : BitfieldOp → ℕ → ℕ → ℕ → ℕ → ℕ → Core → Core
after_bitfield op w r s rn rd c = after_field op w rn rd (field_from r s) (field_bits r s) (field_to w r s) c

-- ---- conditional operations

-- the flags of a + b in ccmn, of a + NOT b + 1 in ccmp
abbrev pub flags_of_compare : CondCompareOp → ℕ → ℕ → ℕ → Flags
flags_of_compare Ccmn w a b = flags_of_sum w a b false
flags_of_compare Ccmp w a b = flags_of_sum w a (complement w b) true

-- Rm, Rm + 1, NOT Rm, -Rm
abbrev pub selected_else : SelectOp → ℕ → ℕ → ℕ
selected_else Csel w b = b
selected_else Csinc w b = b + 1
selected_else Csinv w b = complement w b
selected_else Csneg w b = difference w 0 b

-- the flags of the compare where the condition holds, else those of a number
abbrev pub after_compare : CondCompareOp → ℕ → ℕ → ℕ → ℕ → ℕ → Core → Core
after_compare op w a b cond f c =
    record c { flags = if cond_holds (cond_of cond) c.flags then flags_of_compare op w a b else flags_of_number f }

-- ---- products and quotients

-- Ra ± a product
abbrev pub multiplied : MulAddOp → ℕ → ℕ → ℕ → ℕ
multiplied Madd w a p = a + p
multiplied Msub w a p = difference w a p

-- Xa ± the 64-bit product of two 32-bit operands
abbrev pub multiplied_long : MulLongOp → ℕ → ℕ → ℕ → ℕ
multiplied_long Smaddl x a b = x + signed_product a b
multiplied_long Smsubl x a b = difference 64 x (signed_product a b)
multiplied_long Umaddl x a b = x + a * b
multiplied_long Umsubl x a b = difference 64 x (a * b)

-- the upper 64 bits of the product
abbrev pub multiplied_high : MulHighOp → ℕ → ℕ → ℕ
multiplied_high Smulh a b = signed_upper_product a b
multiplied_high Umulh a b = upper_product a b

-- quotients, and shifts by b mod w
abbrev pub of_two_sources : TwoSourceOp → ℕ → ℕ → ℕ → ℕ
of_two_sources Udiv w a b = unsigned_quotient a b
of_two_sources Sdiv w a b = signed_quotient w a b
of_two_sources Lslv w a b = lsl w a (b % w)
of_two_sources Lsrv w a b = lsr a (b % w)
of_two_sources Asrv w a b = asr w a (b % w)
of_two_sources Rorv w a b = ror w a (b % w)

-- ---- bits and bytes

-- bits reversed; bytes of each 16 bits reversed; leading zeros; leading copies of the top bit after it
abbrev pub of_one_source : OneSourceOp → ℕ → ℕ → ℕ
of_one_source Rbit w a = reversed_bits w a
of_one_source Rev16 w a = reversed_bytes 2 (w / 8) a
of_one_source Clz w a = leading_zeros w a
of_one_source Cls w a = leading_copies w a

-- the width of a reversal, and the bytes that are reversed
abbrev pub rev_width : RevOp → ℕ
rev_width RevW = 32
rev_width RevX = 64
rev_width Rev32 = 64

abbrev pub byte_reversed : RevOp → ℕ → ℕ
byte_reversed RevW a = reversed_bytes 4 4 a
byte_reversed RevX a = reversed_bytes 8 8 a
byte_reversed Rev32 a = reversed_bytes 4 8 a
