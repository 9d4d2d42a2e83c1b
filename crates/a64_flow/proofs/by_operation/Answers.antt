use Rattle.std.proofs.Common.{Option, subst}
use Rattle.a64_insn.specs.declared.form.A64Form.{A64Form}
use Rattle.emu_model.specs.declared.trap.Effect.{Effect}
use Rattle.a64_effects.specs.Operations.{operation_of}
use Rattle.a64_operations.specs.Groups.{IsQuiet}
use Rattle.a64_flow.proofs.by_operation.Goals as goal

pub returns : goal.returns
returns c =
    subst (λ (r : Option Effect). IsQuiet (operation_of c.args.i.now) r c.args.core.now c.perform_form.new.core) c.in-Some.is
    (subst (λ (f : A64Form). IsQuiet (operation_of f) c.perform_form.result c.args.core.now c.perform_form.new.core) c.form.ensures.form c.perform_form.ensures.done)
