-- What the operation does is what the form does.
use Rattle.std.proofs.Common.{◌≡◌, Bool, Option, Some, None, true, false, refl, sym, ◌∙◌}
use Rattle.std.specs.Prelude.{IfNone, IfSome, IsSome}
use Rattle.a64_insn.specs.declared.form.A64Form.{A64Form}
use Rattle.emu_model.specs.declared.trap.Effect.{Effect}
use Rattle.emu_model.specs.State.{Core}
use Rattle.a64_effects.specs.Operations as table
use Rattle.a64_operations.specs.declared.operation.Operation.{Operation}
use Rattle.a64_operations.specs.Groups.{IsQuiet, is_by_form, is_on_registers}
use Rattle.a64_operations.specs.Meaning.{meaning_of}
use Rattle.a64_operations.specs.Prepared.{IsOf}
use Rattle.a64_perform.proofs.by_form.perform_form.Goals as goal

of_form : (o : Operation) (form : A64Form) (r : Option Effect) (c d : Core) → IsOf o form → IfSome r (λ e. is_by_form o ≡ false) → IsQuiet (meaning_of o) r c d
    → IsQuiet (table.operation_of form) r c d
of_form o form None c d same ready is = is
of_form o form (Some e) c d same ready is = λ v m. sym (same ready c v m) ∙ is v m

pub returns-clause-done : goal.returns-clause-done
returns-clause-done c = of_form _ c.args.form.now _ _ _ c.operation_of.ensures.done c.perform.ensures.ready c.perform.ensures.done

answered : (o : Operation) (own : Bool) (r : Option Effect) → (own ≡ true → is_on_registers o ≡ true) → IfNone r (is_on_registers o ≡ false) → own ≡ true → IsSome r
answered o own None on left is = let registers : is_on_registers o ≡ true = on is in absurd (cc)
answered o own (Some e) on left is = refl

pub returns-clause-answers : goal.returns-clause-answers
returns-clause-answers c = answered _ _ _ c.operation_of.ensures.answers c.perform.ensures.left
