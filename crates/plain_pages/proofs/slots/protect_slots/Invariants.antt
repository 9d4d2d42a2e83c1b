use Rattle.std.proofs.Common.{◌≡◌, ◌+◌, ◌-◌}
use Rattle.plain_pages.specs.Slots.{entries_of, IsAscending, all_changed, page_with_rights}
use Rattle.plain_pages.proofs.slots.protect_slots.Given as goal

abbrev pub invariant-loop-page : goal.invariant-loop-page
invariant-loop-page l = record {
  ascending : IsAscending (entries_of l.slots);
  rest : all_changed (page_with_rights l.rights) l.page (l.first + l.count - l.page) (entries_of l.slots) ≡ all_changed (page_with_rights l.rights) l.first l.count (entries_of l.fn.slots);
}
