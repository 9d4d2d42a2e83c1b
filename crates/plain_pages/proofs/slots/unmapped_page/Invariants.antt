use Rattle.std.proofs.Common.{◌≡◌, ◌+◌, ◌-◌}
use Rattle.emu_model.specs.Pages.{least_unmapped}
use Rattle.plain_pages.specs.Slots.{entries_of, pages_of}
use Rattle.plain_pages.proofs.slots.unmapped_page.Given as goal

abbrev pub invariant-loop-page : goal.invariant-loop-page
invariant-loop-page l = least_unmapped (pages_of (entries_of l.slots)) l.page (l.first + l.count - l.page) ≡ least_unmapped (pages_of (entries_of l.slots)) l.first l.count
