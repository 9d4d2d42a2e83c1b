use Rattle.std.proofs.Common.{◌≡◌, ◌<◌, ◌*◌, ℕ, get_or, length}
use Rattle.vec_regs.specs.Words.{byte_of}
use Rattle.element_loops.proofs.predicates.bytes_of_words.Given as goal

abbrev pub invariant-loop-i : goal.invariant-loop-i
invariant-loop-i l = record {
  count : length l.bytes ≡ 32;
  done : (j : ℕ) → j < 8 * l.i → get_or l.bytes j 0 ≡ byte_of 8 l.words j;
}
