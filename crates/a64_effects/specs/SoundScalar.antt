-- Instructions on the scalar registers keep them sound.
use Rattle.std.specs.Prelude.{◌≤◌, ℕ, Bool, true, false, bit_and, bit_or, bit_xor}
use Rattle.std.proofs.Common.{arith}
use Rattle.a64_insn.specs.declared.ops.AddOp.{AddOp}
use Rattle.a64_insn.specs.declared.ops.AddOp.TheVariants.{Add, Adds, Sub, Subs}
use Rattle.a64_insn.specs.declared.ops.LogicRegOp.{LogicRegOp}
use Rattle.a64_insn.specs.declared.ops.LogicRegOp.TheVariants.{And, Bic, Orr, Orn, Eor, Eon, Ands, Bics}
use Rattle.a64_insn.specs.declared.ops.LogicImmOp.{LogicImmOp}
use Rattle.a64_insn.specs.declared.ops.LogicImmOp.TheVariants.{And as AndImm, Orr as OrrImm, Eor as EorImm, Ands as AndsImm}
use Rattle.a64_insn.specs.declared.ops.AddCarryOp.{AddCarryOp}
use Rattle.a64_insn.specs.declared.ops.AddCarryOp.TheVariants.{Adc, Adcs, Sbc, Sbcs}
use Rattle.a64_insn.specs.declared.ops.RevOp.{RevOp}
use Rattle.a64_insn.specs.declared.ops.RevOp.TheVariants.{RevW, RevX, Rev32}
use Rattle.emu_bits.specs.Numbers.{width_of, sum_of, flags_of_sum}
use Rattle.emu_bits.specs.declared.flags.Flags.{Flags}
use Rattle.emu_model.specs.State.{Core, with_x}
use Rattle.emu_model.specs.SoundState.{IsSoundCore}
use Rattle.emu_model.specs.Sound.{with_x_sound, with_x_sp_sound, flags_sound}
use Rattle.emu_bits.specs.Operations.{complement, flags_of_result}
use Rattle.a64_effects.specs.Scalar.{with_flags, kind_of, addend, after_sum, after_add, after_add_sp, after_add_carry, after_logic, after_logic_reg, after_logic_imm, rev_width}

-- ---- widths, of which none passes 64 bits

pub width_in_word : (sf : Bool) → width_of sf ≤ 64
width_in_word true = omega arith
width_in_word false = omega arith

pub rev_width_in_word : (op : RevOp) → rev_width op ≤ 64
rev_width_in_word RevW = omega arith
rev_width_in_word RevX = omega arith
rev_width_in_word Rev32 = omega arith

-- ---- results with flags

with_flags_sound : (sets : Bool) (f : Flags) (c : Core) → IsSoundCore c → IsSoundCore (with_flags sets f c)
with_flags_sound true f c s = flags_sound c f s
with_flags_sound false f c s = s

module _ (w rd : ℕ) (within : w ≤ 64) (c : Core) (s : IsSoundCore c) where
  sum_sound : (sets : Bool) (a b : ℕ) (carry : Bool) → IsSoundCore (after_sum sets w rd a b carry c)
  sum_sound sets a b carry = with_flags_sound sets (flags_of_sum w a b carry) (with_x c rd w (sum_of w a b carry)) (with_x_sound c rd w (sum_of w a b carry) within s)

  pub add_sound : (op : AddOp) (a b : ℕ) → IsSoundCore (after_add op w rd a b c)
  add_sound op a b = sum_sound (kind_of op).0 a (addend (kind_of op).1 w b) (kind_of op).1

  pub add_sp_sound : (op : AddOp) (a b : ℕ) → IsSoundCore (after_add_sp op w rd a b c)
  add_sp_sound Add a b = with_x_sp_sound c rd w (sum_of w a b false) within s
  add_sp_sound Sub a b = with_x_sp_sound c rd w (sum_of w a (complement w b) true) within s
  add_sp_sound Adds a b = add_sound Adds a b
  add_sp_sound Subs a b = add_sound Subs a b

  pub add_carry_sound : (op : AddCarryOp) (a b : ℕ) → IsSoundCore (after_add_carry op w rd a b c)
  add_carry_sound Adc a b = sum_sound false a b c.flags.c
  add_carry_sound Adcs a b = sum_sound true a b c.flags.c
  add_carry_sound Sbc a b = sum_sound false a (complement w b) c.flags.c
  add_carry_sound Sbcs a b = sum_sound true a (complement w b) c.flags.c

  logic_sound : (sets : Bool) (v : ℕ) → IsSoundCore (after_logic sets w rd v c)
  logic_sound sets v = with_flags_sound sets (flags_of_result w v) (with_x c rd w v) (with_x_sound c rd w v within s)

  pub logic_reg_sound : (op : LogicRegOp) (a b : ℕ) → IsSoundCore (after_logic_reg op w rd a b c)
  logic_reg_sound And a b = logic_sound false (bit_and a b)
  logic_reg_sound Bic a b = logic_sound false (bit_and a (complement w b))
  logic_reg_sound Orr a b = logic_sound false (bit_or a b)
  logic_reg_sound Orn a b = logic_sound false (bit_or a (complement w b))
  logic_reg_sound Eor a b = logic_sound false (bit_xor a b)
  logic_reg_sound Eon a b = logic_sound false (bit_xor a (complement w b))
  logic_reg_sound Ands a b = logic_sound true (bit_and a b)
  logic_reg_sound Bics a b = logic_sound true (bit_and a (complement w b))

  pub logic_imm_sound : (op : LogicImmOp) (a m : ℕ) → IsSoundCore (after_logic_imm op w rd a m c)
  logic_imm_sound AndImm a m = with_x_sp_sound c rd w (bit_and a m) within s
  logic_imm_sound OrrImm a m = with_x_sp_sound c rd w (bit_or a m) within s
  logic_imm_sound EorImm a m = with_x_sp_sound c rd w (bit_xor a m) within s
  logic_imm_sound AndsImm a m = logic_sound true (bit_and a m)
