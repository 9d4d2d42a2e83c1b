-- A word with its instruction, or with what it does.
use Rattle.std.specs.Prelude.{◌≡◌, ℕ, false, Some}
use Rattle.a64_insn.specs.declared.form.A64Form.{A64Form}
use Rattle.sve_insn.specs.declared.form.SveForm.{SveForm}
use Rattle.a64_operations.specs.declared.operation.Operation.{Operation}
use Rattle.a64_operations.specs.Groups.{is_by_form}
use Rattle.a64_operations.specs.Prepared.{IsOf}
use Rattle.emu_run.specs.declared.insn.Insn.TheVariants.{A64, Sve}
use Rattle.emu_run.specs.Step.{decode}

-- the word decodes to this instruction of SVE
abbrev pub IsOfWord : SveForm → ℕ → Type 0
IsOfWord form word = decode word ≡ Some (Sve form)

-- the word decodes to an instruction of A64 that does this, unless the operation is left to the form
abbrev pub IsOperationOf : Operation → ℕ → Type 0
IsOperationOf o word = is_by_form o ≡ false → (form : A64Form) × (decode word ≡ Some (A64 form)) × IsOf o form
