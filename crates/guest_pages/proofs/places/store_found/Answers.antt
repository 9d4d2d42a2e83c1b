use Rattle.std.proofs.Common.{◌<◌, length, List, sym, ap, ◌∙◌, subst}
use Rattle.emu_model.specs.declared.access.Kind.TheVariants.{Write}
use Rattle.emu_model.specs.ByPage.{page_gives}
use Rattle.emu_model.specs.WithinPage.{page_with_bytes}
use Rattle.guest_pages.specs.Places.{Entry, IsRight, changed_at}
use Rattle.guest_pages.proofs.Maps.{changed_there}
use Rattle.guest_pages.proofs.Ordered.{find_is}
use Rattle.guest_pages.proofs.Right.{right_changed}
use Rattle.guest_pages.proofs.places.store_found.Goals as goal

pub hold-requires-clause-allowed : goal.hold-requires-clause-allowed
hold-requires-clause-allowed c = ap (λ r. r.w) (sym c.rights.ensures) ∙ c.if-rights.true

pub write-requires-clause-place : goal.write-requires-clause-place
write-requires-clause-place c = subst (λ (es : List Entry). c.in-Some.i < length es) (sym c.hold.ensures.pages) c.in-Some.ensures.place.within

pub returns-in-Some-clause-allowed : goal.returns-in-Some-clause-allowed
returns-in-Some-clause-allowed c = sym (ap (λ o. page_gives o Write) (find_is c.args.list.now.pages c.requires.ascending c.args.page c.in-Some.i c.in-Some.ensures.place) ∙ sym (ap (λ r. r.w) c.rights.ensures) ∙ c.if-rights.true)

pub returns-in_default-clause-allowed : goal.returns-in_default-clause-allowed
returns-in_default-clause-allowed c = sym (ap (λ o. page_gives o Write) (find_is c.args.list.now.pages c.requires.ascending c.args.page c.in-Some.i c.in-Some.ensures.place) ∙ sym (ap (λ r. r.w) c.rights.ensures) ∙ c.if-rights.false)

pub returns-in-Some-clause-pages : goal.returns-in-Some-clause-pages
returns-in-Some-clause-pages c =
    let f = page_with_bytes c.args.at c.args.bytes.now in let es = c.args.list.now.pages in
    c.write.ensures.pages ∙ ap (λ (es : List Entry). changed_at f c.in-Some.i es) c.hold.ensures.pages ∙ changed_there es f c.args.page c.in-Some.i c.in-Some.ensures.place c.requires.ascending

pub returns-in-Some-clause-right : goal.returns-in-Some-clause-right
returns-in-Some-clause-right c =
    let f = page_with_bytes c.args.at c.args.bytes.now in let es = c.args.list.now.pages in
    let pages = c.write.ensures.pages ∙ ap (λ (es : List Entry). changed_at f c.in-Some.i es) c.hold.ensures.pages ∙ changed_there es f c.args.page c.in-Some.i c.in-Some.ensures.place c.requires.ascending in
    subst (λ es. IsRight es c.look_up.new.cache) (sym pages) (right_changed f c.args.page es c.look_up.new.cache c.in-Some.ensures.right)
