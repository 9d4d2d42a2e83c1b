use Rattle.std.proofs.Common.{◌≡◌, ◌<◌, ◌≤◌, ℕ, [], get_or, length}
use Rattle.vec_regs.proofs.lower.copy_registers.Given as goal

abbrev pub invariant-loop-r : goal.invariant-loop-r
invariant-loop-r l = record {
  count : length l.to ≡ 32;
  done : (k : ℕ) → k < l.r → get_or l.to k [] ≡ get_or l.fn.from k [];
  rest : (k : ℕ) → l.r ≤ k → get_or l.to k [] ≡ get_or l.initial.to k [];
}
