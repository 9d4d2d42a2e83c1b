-- The word of an instruction. Words are from the Arm Architecture Reference Manual for A-profile (DDI 0487), C4 'A64
-- Instruction Set Encoding'; this way back from an instruction to its word is this project's own.
use Rattle.std.specs.Prelude.{ℕ}
use Rattle.emu_bits.specs.Rows.{encode}
use Rattle.a64_insn.specs.Rows as base
use Rattle.sve_insn.specs.Rows as vectors
use Rattle.emu_run.specs.declared.insn.Insn.{Insn}
use Rattle.emu_run.specs.declared.insn.Insn.TheVariants.{A64, Sve}

-- the base word of its row with the fields put in
abbrev pub word_of : Insn → ℕ
word_of (A64 form) = encode (base.row_of form)
word_of (Sve form) = encode (vectors.row_of form)
