use Rattle.std.proofs.Common.{◌≡◌, ◌<◌, ◌≤◌, ◌+◌, ◌*◌, ℕ, get_or}
use Rattle.vec_regs.specs.Words.{byte_of}
use Rattle.active_lanes.proofs.whole.copy_words.Given as goal

abbrev pub invariant-loop-i : goal.invariant-loop-i
invariant-loop-i l = record {
  done : (j : ℕ) → j < 8 * l.i → byte_of 8 l.words j ≡ get_or l.bytes (l.at + j) 0;
  above : (k : ℕ) → l.i ≤ k → get_or l.words k 0 ≡ get_or l.fn.words k 0;
}
