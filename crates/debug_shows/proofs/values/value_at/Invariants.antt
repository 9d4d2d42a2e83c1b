use Rattle.std.proofs.Common.{◌≡◌, ◌<◌, ◌≤◌, ◌+◌, ◌-◌, ◌^◌}
use Rattle.emu_model.specs.Access.{value}
use Rattle.debug_shows.proofs.values.value_at.Given as goal

-- the number of the bytes that were read
abbrev pub invariant-bytes : goal.invariant-bytes
invariant-bytes l = record {
  value : l.number ≡ value l.mem.memory (l.address + l.left) (l.fn.count - l.left);
  fits : l.number < 256 ^ (l.fn.count - l.left);
  within : l.left ≤ l.fn.count;
}

abbrev pub decreases-bytes : goal.decreases-bytes
decreases-bytes l = l.left
