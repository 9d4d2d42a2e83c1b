use Rattle.std.proofs.Common.{◌≡◌, ◌+◌, ◌-◌, ◌++◌}
use Rattle.plain_pages.specs.Slots.{entries_of, zeroed_entries}
use Rattle.plain_pages.proofs.slots.zeroed_slots.Given as goal

abbrev pub invariant-loop-number : goal.invariant-loop-number
invariant-loop-number l = entries_of l.slots.items ++ zeroed_entries l.number (l.first + l.count - l.number) l.rights ≡ zeroed_entries l.first l.count l.rights
