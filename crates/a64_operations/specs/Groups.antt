-- Operations that are left to the form, those on scalar registers alone, and what is left of these.
use Rattle.std.specs.Prelude.{◌≡◌, Bool, true, false, Option, Some, None}
use Rattle.a64_insn.specs.declared.form.A64Form.{A64Form}
use Rattle.a64_insn.specs.declared.form.A64Form.TheVariants.{Adr, AddImm, LogicImm, MoveWide, Select, MulAdd, Branch, BranchCond, Compare, Test, BranchReg, Hint}
use Rattle.emu_model.specs.declared.trap.Effect.{Effect}
use Rattle.emu_model.specs.Access.{Memory}
use Rattle.emu_model.specs.Done.{quietly}
use Rattle.emu_model.specs.State.{Core, Vectors}
use Rattle.a64_effects.specs.Effects.{performed_by}
use Rattle.a64_effects.specs.Operations.{Operation, computes, flows, transfers, exchanges, copies}
use Rattle.a64_operations.specs.declared.operation.Operation.{Operation as Ready}
use Rattle.a64_operations.specs.declared.operation.Operation.TheVariants.{ByForm}
use Rattle.a64_operations.specs.Meaning.{meaning_of}

-- it is left to the form
abbrev pub is_by_form : Ready → Bool
is_by_form ByForm = true
is_by_form o = false

-- it reaches neither memory nor vector registers
abbrev pub is_scalar : Operation → Bool
is_scalar (computes after) = true
is_scalar (flows after effect) = true
is_scalar (transfers row) = false
is_scalar (exchanges row) = false
is_scalar (copies after) = false

-- it is done here, on scalar registers alone
abbrev pub is_on_registers : Ready → Bool
is_on_registers ByForm = false
is_on_registers o = is_scalar (meaning_of o)

-- each instruction of the form has such an operation
abbrev pub has_operation : A64Form → Bool
has_operation (Adr op immlo immhi rd) = true
has_operation (AddImm op sf sh imm rn rd) = true
has_operation (LogicImm op sf n immr imms rn rd) = true
has_operation (MoveWide op sf hw imm rd) = true
has_operation (Select op sf rm cond rn rd) = true
has_operation (MulAdd op sf rm ra rn rd) = true
has_operation (Branch op imm26) = true
has_operation (BranchCond imm19 cond) = true
has_operation (Compare op sf imm19 rt) = true
has_operation (Test op b5 b40 imm14 rt) = true
has_operation (BranchReg op rn) = true
has_operation (Hint n) = true
has_operation form = false

-- What is left of an operation that answers its effect where it is one on scalar registers alone, and else changed
-- nothing.
abbrev pub IsQuiet : Operation → Option Effect → Core → Core → Type 0
IsQuiet o None c d = d ≡ c
IsQuiet o (Some effect) c d = (v : Vectors) (m : Memory) → performed_by o c v m ≡ quietly d v m effect
