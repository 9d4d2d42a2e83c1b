use Rattle.std.proofs.Common.{◌≡◌, ◌<◌, ◌≤◌, ℕ, get_or, length}
use Rattle.vec_regs.specs.Packed as model
use Rattle.vec_regs.proofs.packing.pack.Given as goal

abbrev pub invariant-loop-i : goal.invariant-loop-i
invariant-loop-i l = record {
  count : length l.words ≡ 32;
  done : (k : ℕ) → k < l.i → get_or l.words k 0 ≡ model.word_of l.e l.lanes k;
  rest : (k : ℕ) → l.i ≤ k → get_or l.words k 0 ≡ 0;
}
