use Rattle.std.proofs.Common.{sym, ap, ◌++◌, List}
use Rattle.std.proofs.lemmas.Str.{IsCharBoundary-start}
use Rattle.asm_tokens.specs.Tokens.{tokens}
use Rattle.text_model.specs.declared.slots.Item.{Item}
use Rattle.text_model.specs.Statement.{items_from}
use Rattle.text_code.proofs.operands.items.Goals as goal

pub loop-item-init : goal.loop-item-init
loop-item-init c = (ap (λ (is : List Item). is ++ items_from 0 (tokens c.args.rest.now)) (sym c.new-items.ensures), IsCharBoundary-start c.args.rest.now c.utf8.rest)
