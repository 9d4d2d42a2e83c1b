-- The text of an instruction, over the A64 and the SVE lines together. It is this project's own choice of the texts
-- that the Arm manual allows, as docs/MANUAL.md has it under "Reading code".
use Rattle.std.specs.Prelude.{ℕ, List}
use Rattle.asm_a64.specs.Law as base
use Rattle.emu_run.specs.declared.insn.Insn.{Insn}
use Rattle.emu_run.specs.declared.insn.Insn.TheVariants.{A64, Sve}
use Rattle.asm_sve.specs.Law as vectors

-- the text of an instruction that stands at pc
abbrev pub text : Insn → ℕ → List ℕ
text (A64 f) pc = base.text_of_form f pc
text (Sve f) pc = vectors.text_of_form f
