use Rattle.std.proofs.Common.{subst}
use Rattle.a64_insn.specs.declared.form.A64Form.{A64Form}
use Rattle.a64_effects.specs.Operations.{operation_of}
use Rattle.a64_operations.specs.Groups.{IsQuiet}
use Rattle.a64_data.proofs.ByOperation.{data_done}
use Rattle.a64_data.proofs.by_operation.Goals as goal

pub returns-clause-registers : goal.returns-clause-registers
returns-clause-registers c =
    let quiet = subst (λ (f : A64Form). IsQuiet (operation_of f) c.perform_form.result c.args.core.now c.perform_form.new.core) c.form.ensures.form c.perform_form.ensures.done in
    (data_done (operation_of c.args.i.now) c.perform_form.result c.in-Some.effect c.args.core.now c.perform_form.new.core c.requires.own c.in-Some.is quiet).0

pub returns-clause-effect : goal.returns-clause-effect
returns-clause-effect c =
    let quiet = subst (λ (f : A64Form). IsQuiet (operation_of f) c.perform_form.result c.args.core.now c.perform_form.new.core) c.form.ensures.form c.perform_form.ensures.done in
    (data_done (operation_of c.args.i.now) c.perform_form.result c.in-Some.effect c.args.core.now c.perform_form.new.core c.requires.own c.in-Some.is quiet).1
