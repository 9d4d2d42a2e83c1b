use Rattle.std.proofs.Common.{sym, ap, ◌∙◌}
use Rattle.emu_model.specs.Access.{gives}
use Rattle.emu_model.specs.ByPage.{page_gives}
use Rattle.guest_pages.proofs.Ordered.{find_is}
use Rattle.guest_pages.proofs.places.search_for.Goals as goal

pub hold-requires-clause-allowed : goal.hold-requires-clause-allowed
hold-requires-clause-allowed c = ap (λ r. gives r c.args.kind) (sym c.rights.ensures) ∙ sym c.allows.ensures ∙ c.if-allows.true

pub returns-in-Some-clause-allowed : goal.returns-in-Some-clause-allowed
returns-in-Some-clause-allowed c = ap (λ r. gives r c.args.kind) (sym c.rights.ensures) ∙ sym c.allows.ensures ∙ c.if-allows.true

pub returns-in_default-clause-place : goal.returns-in_default-clause-place
returns-in_default-clause-place c =
    ap (λ o. page_gives o c.args.kind) (find_is c.args.list.now.pages c.requires.ascending c.args.page c.in-Some.i c.in-Some.ensures.place)
    ∙ ap (λ r. gives r c.args.kind) (sym c.rights.ensures) ∙ sym c.allows.ensures ∙ c.if-allows.false
