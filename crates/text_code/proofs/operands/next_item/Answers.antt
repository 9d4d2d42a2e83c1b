use Rattle.std.proofs.Common.{◌≡◌, ◌∷◌, ℤ, drop, to_z, of_z, rules, sym, ap, ◌∙◌}
use Rattle.std.proofs.lemmas.Int.{to_z-of_z}
use Rattle.std.specs.Int.{w128}
use Rattle.std.specs.Prelude.{FitsSigned}
use Rattle.asm_tokens.specs.Tokens.{tokens}
use Rattle.text_model.specs.declared.classes.Class.TheVariants.{Number}
use Rattle.text_model.specs.declared.slots.Item.{Item}
use Rattle.text_model.specs.Statement.{items_from}
use Rattle.text_model.specs.Words.{item}
use Rattle.text_code.proofs.NextItem.{some_tokens, number_next, number_behind}
use Rattle.text_code.proofs.operands.next_item.Goals as goal

pub returns-in-Some-clause-item : goal.returns-in-Some-clause-item
returns-in-Some-clause-item c =
    let n = c.in-Some.ensures.number in
    let t = c.in_ok-token.ensures.token in
    let f : FitsSigned w128 c.in-Some.value = search rules in
    let e : to_z w128 (of_z w128 c.in-Some.value) ≡ c.in-Some.value = to_z-of_z w128 c.in-Some.value f in
    number_next c.args.rest.now c.args.at _ _ c.in-Some.value c.in-Some.to t n
    ∙ ap (λ (x : ℤ). item Number x ∷ items_from 0 (tokens (drop c.in-Some.to c.args.rest.now))) (sym e)
    ∙ ap (λ (i : Item). i ∷ items_from 0 (tokens (drop c.in-Some.to c.args.rest.now))) (sym c.item_of_number.ensures)

pub returns-in-Some-clause-behind : goal.returns-in-Some-clause-behind
returns-in-Some-clause-behind c =
    let n = c.in-Some.ensures.number in
    number_behind c.args.rest.now c.args.at c.in-Some.to n.number.count (some_tokens (tokens (drop c.args.at c.args.rest.now)) n.number n.is) n.behind
