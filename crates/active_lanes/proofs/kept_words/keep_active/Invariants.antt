use Rattle.std.proofs.Common.{◌≡◌, ◌<◌, ◌≤◌, ◌*◌, ◌/◌, ℕ, get_or, if◌then◌else◌}
use Rattle.vec_regs.specs.Words.{byte_of}
use Rattle.active_lanes.specs.Kept.{is_kept}
use Rattle.active_lanes.proofs.kept_words.keep_active.Given as goal

abbrev pub invariant-loop-i : goal.invariant-loop-i
invariant-loop-i l = record {
  done : (j : ℕ) → j < 8 * l.i → byte_of 8 l.words j ≡ (if is_kept l.whole l.pg l.e l.vec (j / (l.e / 8)) then byte_of 8 l.fn.words j else 0);
  rest : (k : ℕ) → l.i ≤ k → get_or l.words k 0 ≡ get_or l.fn.words k 0;
}
