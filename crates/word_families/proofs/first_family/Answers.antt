use Rattle.std.proofs.Common.{◌<◌, ◌∙◌, sym, length, arith}
use Rattle.word_families.proofs.Steps.{first_family-in, first_family-past, past}
use Rattle.word_families.proofs.first_family.Goals as goal

pub returns-then-holds : goal.returns-then-holds
returns-then-holds c =
    let within : c.loop-group.group-index < length c.args.groups.now = omega arith in
    first_family-in c.args.word c.args.groups.now c.loop-group.group-index past within (sym c.holds.ensures ∙ c.if-holds.true) ∙ c.loop-group.invariant

pub loop-group-preserved : goal.loop-group-preserved
loop-group-preserved c =
    let within : c.loop-group.group-index < length c.args.groups.now = omega arith in
    first_family-past c.args.word c.args.groups.now c.loop-group.group-index past within (sym c.holds.ensures ∙ c.if-holds.false) ∙ c.loop-group.invariant
