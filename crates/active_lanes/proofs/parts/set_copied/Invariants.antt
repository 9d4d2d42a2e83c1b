use Rattle.std.proofs.Common.{◌≡◌, ◌+◌, ◌/◌, get_or, if◌then◌else◌}
use Rattle.active_lanes.specs.Kept.{is_kept}
use Rattle.active_lanes.proofs.InParts.{parts}
use Rattle.active_lanes.proofs.parts.set_copied.Given as goal

abbrev pub invariant-loop-i : goal.invariant-loop-i
invariant-loop-i l = record {
  bits : l.vec.bits ≡ l.fn.vec.bits;
  predicates : l.vec.p ≡ l.fn.vec.p;
  written : l.vec ≡ parts (λ j. if is_kept l.whole l.pg l.e l.fn.vec (j / (l.e / 8)) then get_or l.bytes (l.at + j) 0 else 0) l.i l.zd l.fn.vec;
}
