-- Statements read, and refused.
use Rattle.asm_sve.specs.Table.{sve_patterns}
use Rattle.asm_sve.specs.Opened.{texts_open}
use Rattle.std.proofs.Common.{◌≡◌, ℕ, Result, Ok, Err, None, List, [], ◌∷◌, map, codes, is_some, refl}
use Rattle.emu_bits.specs.Bitmask.{bitmask_of}
use Rattle.text_model.specs.Masks.{bitmask_fields}
use Rattle.emu_bits.specs.Rows.{decode}
use Rattle.text_model.specs.declared.slots.Refusal.{Refusal}
use Rattle.text_model.specs.declared.slots.Refusal.TheVariants.{UnknownName, BadOperands, OutOfRange}
use Rattle.text_model.specs.Words.{dictionary}
use Rattle.text_model.specs.Statement.{Statement}
use Rattle.text_model.specs.ReadBack.{reads_text}
use Rattle.sve_insn.specs.Conditions.{is_no_byte, is_no_doubleword, is_word_or_doubleword, is_halfword_or_word, binary_holds_for, has_tsz, unary_least_size, unary_holds_for, shifts_no_byte, has_bitmask, reduce_holds_for, has_lane_size, break_first_holds_for, write_ffr_holds_for, is_register, fits_lane, store_reg_holds_for, extends_to_word, extends_to_doubleword, gather_word_holds_for, gather_scaled_word_holds_for, gather_scaled_doubleword_holds_for}
use Rattle.sve_insn.specs.Table.{sve_table}

abbrev read : List ℕ → Result Statement Refusal
read text = reads_text (λ w. is_some (decode sve_table w)) sve_patterns text

abbrev word : ℕ → Result Statement Refusal
word w = Ok (record { word = w; target = None })

read_are : map read (
    codes "add z15.s, p0/m, z15.s, z2.s"
    ∷ codes "ASR Z31.D,P7/M,Z31.D,8"
    ∷ codes "cpy z8.h, p6/z, #-97, lsl #8"
    ∷ codes "add z31.b, z31.b, #27"
    ∷ codes "orr z24.d, z24.d, #0xfff00000fff"
    ∷ codes "sdot z30.s, z1.b, z4.b[0]"
    ∷ codes "dup z31.b, z28.b[15]"
    ∷ codes "sqincw x0, w0, vl4, mul #6"
    ∷ codes "sqinch xzr, wzr, #25, mul #11"
    ∷ codes "cntb x0"
    ∷ codes "ptrue p15.d, #26"
    ∷ codes "ld2w {z31.s, z0.s}, p7/z, [sp, #4, mul vl]"
    ∷ codes "ld2d {z0.d, z1.d}, p0/z, [x22]"
    ∷ codes "ldff1h {z26.s}, p7/z, [x28, z8.s, uxtw #1]"
    ∷ codes "st1b {z16.d}, p4, [z16.d, #27]"
    ∷ codes "ld1rqw {z16.s}, p0/z, [x12, #-64]"
    ∷ codes "brkas p0.b, p14/z, p12.b"
    ∷ codes "whilelt p15.b, wzr, wzr" ∷ []) ≡ word 0x0480004F ∷ word 0x04C09F1F ∷ word 0x055633E8 ∷ word 0x2520C37F ∷ word 0x05000178 ∷ word 0x44A4003E ∷ word 0x053F239F ∷ word 0x04A5F080 ∷ word 0x046AF33F ∷ word 0x0420E3E0 ∷ word 0x25D8E34F ∷ word 0xA522FFFF ∷ word 0xA5A0E2C0 ∷ word 0x84A87F9A ∷ word 0xE45BB210 ∷ word 0xA50C2190 ∷ word 0x25507980 ∷ word 0x253F07EF ∷ []
unfolding texts_open dictionary bitmask_of bitmask_fields is_no_byte is_no_doubleword is_word_or_doubleword is_halfword_or_word binary_holds_for has_tsz unary_least_size unary_holds_for shifts_no_byte has_bitmask reduce_holds_for has_lane_size break_first_holds_for write_ffr_holds_for is_register fits_lane store_reg_holds_for extends_to_word extends_to_doubleword gather_word_holds_for gather_scaled_word_holds_for gather_scaled_doubleword_holds_for
read_are = refl

refused_are : map read (
    codes "ret"
    ∷ codes "incb z0.b"
    ∷ codes "incb x0, all"
    ∷ codes "incb x0, mul #2"
    ∷ codes "ld1sw {z0.s}, p0/z, [x0]"
    ∷ codes "add z0.b, z1.b, z2.h"
    ∷ codes "add z0.b, p16/m, z0.b, z1.b"
    ∷ codes "add z0.b, p8/m, z0.b, z1.b"
    ∷ codes "add z0.b, p0/m, z1.b, z2.b"
    ∷ codes "sdiv z0.b, p0/m, z0.b, z1.b"
    ∷ codes "st1w {z0.h}, p0, [x0]"
    ∷ codes "brkas p0.b, p0/m, p1.b"
    ∷ codes "ld1b {z0.b}, p0/z, [x0, xzr]"
    ∷ codes "lsl z0.b, z1.b, #8"
    ∷ codes "ptrue p0.b, #31"
    ∷ codes "add z0.b, z0.b, #1, lsl #8" ∷ []) ≡ Err UnknownName ∷ Err BadOperands ∷ Err BadOperands ∷ Err BadOperands ∷ Err BadOperands ∷ Err BadOperands ∷ Err BadOperands ∷ Err OutOfRange ∷ Err OutOfRange ∷ Err OutOfRange ∷ Err OutOfRange ∷ Err OutOfRange ∷ Err OutOfRange ∷ Err OutOfRange ∷ Err OutOfRange ∷ Err OutOfRange ∷ []
unfolding texts_open dictionary bitmask_of bitmask_fields is_no_byte is_no_doubleword is_word_or_doubleword is_halfword_or_word binary_holds_for has_tsz unary_least_size unary_holds_for shifts_no_byte has_bitmask reduce_holds_for has_lane_size break_first_holds_for write_ffr_holds_for is_register fits_lane store_reg_holds_for extends_to_word extends_to_doubleword gather_word_holds_for gather_scaled_word_holds_for gather_scaled_doubleword_holds_for
refused_are = refl
