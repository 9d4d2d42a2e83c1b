use Rattle.std.proofs.Common.{◌∙◌, drop, sym, ap}
use Rattle.asm_text.proofs.Commas.{leads_nothing}
use Rattle.asm_text.proofs.Single.{last, before_comma, past_argument}
use Rattle.asm_text.specs.Leading.{is_comma}
use Rattle.asm_text.specs.Stored.{argument_of}
use Rattle.asm_tokens.specs.Tokens.{tokens}
use Rattle.asm_text.proofs.lists.one_argument.Goals as goal

pub returns-in-None-clause-found : goal.returns-in-None-clause-found
returns-in-None-clause-found c = leads_nothing c.args.labels (tokens (drop c.args.at c.args.text.now)) c.in-None.ensures.found

pub returns-in-None-next_token-clause-found : goal.returns-in-None-next_token-clause-found
returns-in-None-next_token-clause-found c =
    last c.args.labels c.args.text.now c.args.at c.in-Some.to (argument_of c.args.text.now c.in-Some.argument) c.in-Some.ensures.found c.in-None-next_token.ensures.token

pub returns-then-is_a_comma-clause-found : goal.returns-then-is_a_comma-clause-found
returns-then-is_a_comma-clause-found c =
    let t = c.in-Some-next_token in
    before_comma c.args.labels c.args.text.now c.args.at c.in-Some.to t.token.from t.token.to (argument_of c.args.text.now c.in-Some.argument) c.in-Some.ensures.found
    t.ensures.token (ap is_comma (sym c.range.ensures.value) ∙ sym c.is_a_comma.ensures ∙ c.if-is_a_comma.true) t.ensures.cut.1

pub returns-else-is_a_comma-clause-found : goal.returns-else-is_a_comma-clause-found
returns-else-is_a_comma-clause-found c =
    let t = c.in-Some-next_token in
    past_argument c.args.labels c.args.text.now c.args.at c.in-Some.to t.token.from t.token.to (argument_of c.args.text.now c.in-Some.argument) c.in-Some.ensures.found
    t.ensures.token (ap is_comma (sym c.range.ensures.value) ∙ sym c.is_a_comma.ensures ∙ c.if-is_a_comma.false)
