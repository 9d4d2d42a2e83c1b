use Rattle.std.proofs.Common.{ap, ◌∙◌}
use Rattle.emu_model.specs.ByPage.{page_gives}
use Rattle.emu_model.specs.Marks.{MarkedMemory}
use Rattle.emu_model.specs.declared.access.Kind.TheVariants.{Read}
use Rattle.guest_pages.proofs.Given.{open_at}
use Rattle.guest_pages.proofs.pages.Pages.is_at_hand_to_read.Goals as goal

pub returns-then-is_read : goal.returns-then-is_read
returns-then-is_read c = λ held.
    let o = open_at c.self.inside c.args.self.now.memory (ap (λ (m : MarkedMemory). m.memory) c.self.view_is) c.args.page c.self.invariant.order.ascending Read c.read-bytes.result.now c.read-bytes.ensures.given in
    ap (λ p. page_gives p Read) o.is ∙ o.allowed
