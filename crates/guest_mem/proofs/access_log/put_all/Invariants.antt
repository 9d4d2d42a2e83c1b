use Rattle.std.proofs.Common.{◌≡◌, ◌+◌, ◌++◌, take}
use Rattle.std.specs.Vec.{vec_capacity, vec_len}
use Rattle.guest_mem.proofs.access_log.put_all.Given as goal

abbrev pub invariant-loop-access : goal.invariant-loop-access
invariant-loop-access l = record {
  items : l.accesses.items ≡ l.fn.accesses.items ++ take l.access-index l.from;
  len : vec_len l.accesses ≡ vec_len l.fn.accesses + l.access-index;
  capacity : vec_capacity l.accesses ≡ vec_capacity l.fn.accesses;
}
