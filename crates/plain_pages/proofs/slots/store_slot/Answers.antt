use Rattle.std.proofs.Common.{sym, ap, ◌∙◌}
use Rattle.emu_model.specs.declared.access.Kind.TheVariants.{Write}
use Rattle.emu_model.specs.ByPage.{page_gives}
use Rattle.plain_pages.proofs.Ordered.{find_is}
use Rattle.plain_pages.proofs.slots.store_slot.Goals as goal

pub returns-in-Some-clause-allowed : goal.returns-in-Some-clause-allowed
returns-in-Some-clause-allowed c = sym (ap (λ o. page_gives o Write) (find_is c.args.slots.now c.requires.ascending c.args.page c.in-Some.i c.index-slots-i.result c.in-Some.ensures) ∙ c.if-slots-i.true)

pub returns-in_default-clause-allowed : goal.returns-in_default-clause-allowed
returns-in_default-clause-allowed c = sym (ap (λ o. page_gives o Write) (find_is c.args.slots.now c.requires.ascending c.args.page c.in-Some.i c.index-slots-i.result c.in-Some.ensures) ∙ c.if-slots-i.false)
