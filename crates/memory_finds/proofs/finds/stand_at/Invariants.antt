use Rattle.std.proofs.Common.{◌≡◌, drop}
use Rattle.memory_finds.specs.Finds.{stand_at}
use Rattle.memory_finds.proofs.finds.stand_at.Given as goal

abbrev pub invariant-loop-byte : goal.invariant-loop-byte
invariant-loop-byte l = stand_at l.mem.memory l.at (drop l.byte-index l.bytes) ≡ stand_at l.mem.memory l.address l.bytes
