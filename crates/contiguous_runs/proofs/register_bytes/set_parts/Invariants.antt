use Rattle.std.proofs.Common.{◌≡◌, get_or}
use Rattle.active_lanes.proofs.InParts.{parts}
use Rattle.contiguous_runs.proofs.register_bytes.set_parts.Given as goal

abbrev pub invariant-loop-i : goal.invariant-loop-i
invariant-loop-i l = record {
  bits : l.vec.bits ≡ l.fn.vec.bits;
  written : l.vec ≡ parts (λ j. get_or l.bytes j 0) l.i l.zd l.fn.vec;
}
