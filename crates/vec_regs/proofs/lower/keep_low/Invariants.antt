use Rattle.std.proofs.Common.{◌≡◌, ◌<◌, ◌≤◌, ℕ, [], get_or, length}
use Rattle.vec_regs.specs.Packed.{low_words}
use Rattle.vec_regs.proofs.lower.keep_low.Given as goal

abbrev pub invariant-loop-r : goal.invariant-loop-r
invariant-loop-r l = record {
  count : length l.z ≡ 32;
  done : (k : ℕ) → k < l.r → get_or l.z k [] ≡ low_words (get_or l.initial.z k []);
  rest : (k : ℕ) → l.r ≤ k → get_or l.z k [] ≡ get_or l.initial.z k [];
}
