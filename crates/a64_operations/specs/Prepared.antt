-- An operation that is what a form does.
use Rattle.std.specs.Prelude.{◌≡◌, false}
use Rattle.a64_insn.specs.declared.form.A64Form.{A64Form}
use Rattle.emu_model.specs.Access.{Memory}
use Rattle.emu_model.specs.Done.{went_well}
use Rattle.emu_model.specs.State.{Core, Vectors}
use Rattle.a64_effects.specs.Effects.{performed, performed_by}
use Rattle.a64_effects.specs.Operations.{Operation as Meant}
use Rattle.a64_operations.specs.declared.operation.Operation.{Operation}
use Rattle.a64_operations.specs.Groups.{is_by_form}
use Rattle.a64_operations.specs.Meaning.{meaning_of}

-- from any registers and any memory both leave the same, unless the operation is left to the form
abbrev pub IsOf : Operation → A64Form → Type 0
IsOf o form = is_by_form o ≡ false → (c : Core) (v : Vectors) (m : Memory) → performed_by (meaning_of o) c v m ≡ performed form c v m

-- the same of what a form does
abbrev pub IsReady : Operation → Meant → Type 0
IsReady o meant = is_by_form o ≡ false → (c : Core) (v : Vectors) (m : Memory) → performed_by (meaning_of o) c v m ≡ performed_by meant c v m

-- the same of an operation that leaves these scalar registers, and goes on behind the instruction
abbrev pub Does : Operation → (Core → Core) → Type 0
Does o after = is_by_form o ≡ false → (c : Core) (v : Vectors) (m : Memory) → performed_by (meaning_of o) c v m ≡ went_well (after c) v m
