use Rattle.std.proofs.Common.{ap, ◌∙◌, rules, not}
use Rattle.std.proofs.lemmas.Fn.{filter_same}
use Rattle.emu_model.specs.Pages.{is_page_in}
use Rattle.plain_pages.specs.Slots.{entries_of}
use Rattle.plain_pages.proofs.Removed.{entries_filter}
use Rattle.plain_pages.proofs.slots.remove_slots.Goals as goal

pub returns : goal.returns
returns c =
    ap entries_of (filter_same _ _ _ (λ x b f k. search rules) _ _ c.retain.ensures.filtered)
    ∙ entries_filter (λ page. not (is_page_in c.args.first c.args.count page)) c.args.slots.now.items
