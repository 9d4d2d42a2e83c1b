use Rattle.std.proofs.Common.{◌≡◌, ◌<◌, ◌*◌, ℕ, get_or, length}
use Rattle.vec_regs.specs.Words.{byte_of}
use Rattle.contiguous_runs.proofs.register_bytes.put_full.Given as goal

abbrev pub invariant-loop-i : goal.invariant-loop-i
invariant-loop-i l = record {
  count : length l.bytes ≡ length l.fn.bytes;
  done : (j : ℕ) → j < 8 * l.i → get_or l.bytes j 0 ≡ byte_of 8 l.words j;
}
