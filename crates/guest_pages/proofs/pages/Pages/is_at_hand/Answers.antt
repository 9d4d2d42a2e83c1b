use Rattle.std.proofs.Common.{sym, ap, ◌∙◌}
use Rattle.emu_model.specs.ByPage.{page_gives}
use Rattle.emu_model.specs.Marks.{MarkedMemory}
use Rattle.emu_model.specs.declared.access.Kind.TheVariants.{Write}
use Rattle.page_list.specs.Entries.{place_at_hand}
use Rattle.guest_pages.proofs.Given.{found}
use Rattle.guest_pages.proofs.Ordered.{find_is}
use Rattle.guest_pages.proofs.pages.Pages.is_at_hand.Goals as goal

pub returns : goal.returns
returns c = λ held.
    let a = c.self.inside in let given = c.is_written.ensures.given held in
    ap (λ o. page_gives o Write) (found a c.args.self.now.memory (ap (λ (m : MarkedMemory). m.memory) c.self.view_is) c.args.page ∙ find_is a.list.pages c.self.invariant.order.ascending c.args.page (place_at_hand a.list.hand c.args.page) (record { within = given.within; number = given.number })) ∙ given.allowed
