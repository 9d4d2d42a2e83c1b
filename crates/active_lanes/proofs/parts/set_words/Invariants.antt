use Rattle.std.proofs.Common.{◌≡◌}
use Rattle.vec_regs.specs.Words.{byte_of}
use Rattle.active_lanes.proofs.InParts.{parts}
use Rattle.active_lanes.proofs.parts.set_words.Given as goal

abbrev pub invariant-loop-i : goal.invariant-loop-i
invariant-loop-i l = record {
  bits : l.vec.bits ≡ l.fn.vec.bits;
  written : l.vec ≡ parts (byte_of 8 l.words) l.i l.zd l.fn.vec;
}
