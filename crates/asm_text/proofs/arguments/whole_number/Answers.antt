use Rattle.std.proofs.Common.{◌∙◌, sym, ap, rules, Some}
use Rattle.std.proofs.lemmas.Int.{to_z-of_z}
use Rattle.std.specs.Int.{w128}
use Rattle.std.specs.Prelude.{FitsSigned}
use Rattle.std.proofs.lemmas.Bool.{iff_false}
use Rattle.asm_text.proofs.Wholes.{whole_is, whole_is_none}
use Rattle.asm_text.proofs.arguments.whole_number.Goals as goal

pub returns-then-is_over : goal.returns-then-is_over
returns-then-is_over c =
    let small : FitsSigned w128 c.in_ok-value.value = search rules in
    ap Some (to_z-of_z w128 c.in_ok-value.value small)
    ∙ sym (whole_is c.args.text.now c.args.at c.in_ok-value.to c.in_ok-value.value c.in_ok-value.ensures.number (c.is_over.ensures.0 c.if-is_over.true))

pub returns-else-is_over : goal.returns-else-is_over
returns-else-is_over c =
    sym (whole_is_none c.args.text.now c.args.at c.in_ok-value.to c.in_ok-value.value c.in_ok-value.ensures.number (iff_false c.is_over.ensures c.if-is_over.false))
