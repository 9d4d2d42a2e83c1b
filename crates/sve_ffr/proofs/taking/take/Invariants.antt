use Rattle.std.proofs.Common.{◌≡◌, ◌≤◌, ℕ, length}
use Rattle.element_loops.specs.Listed.{listed}
use Rattle.sve_ffr.specs.Taking.{AreFrom, AreTaken, lane_numbers}
use Rattle.sve_ffr.proofs.taking.take.Given as goal

abbrev pub invariant-loop-k : goal.invariant-loop-k
invariant-loop-k l = record {
  taken : (r : ℕ) → AreFrom 0 l.n (lane_numbers (listed r l.list)) → AreTaken r l.e l.n l.list l.fn.mem.memory l.k l.taken l.log.items;
  memory : l.mem ≡ l.fn.mem;
  count : length l.taken.values.items ≡ l.k;
  room : length l.log.items ≤ l.k;
}
