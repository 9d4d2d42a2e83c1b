use Rattle.std.proofs.Common.{◌≡◌}
use Rattle.memory_finds.specs.Finds.{first_at}
use Rattle.memory_finds.proofs.finds.next_found.Given as goal

abbrev pub decreases-addresses : goal.decreases-addresses
decreases-addresses l = l.left

-- what is found from here on is what is found
abbrev pub invariant-addresses : goal.invariant-addresses
invariant-addresses l = first_at l.mem.memory l.bytes l.at l.left ≡ first_at l.mem.memory l.bytes l.fn.address l.fn.count
