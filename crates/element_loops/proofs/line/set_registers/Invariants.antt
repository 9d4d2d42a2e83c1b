use Rattle.std.proofs.Common.{◌≡◌, ◌<◌, ℕ}
use Rattle.element_loops.specs.Runs.{lane_in}
use Rattle.element_loops.specs.Values.{with_taken}
use Rattle.element_loops.proofs.line.set_registers.Given as goal

abbrev pub invariant-loop-j : goal.invariant-loop-j
invariant-loop-j l = record {
  bits : l.vec.bits ≡ l.fn.vec.bits;
  predicates : l.vec.p ≡ l.fn.vec.p;
  taken : (f : ℕ → ℕ → ℕ) → ((j k : ℕ) → j < l.plan.registers → k < l.plan.lanes → f j k ≡ lane_in l.bytes l.plan l.line.pg l.line.whole l.fn.vec j k) → l.vec ≡ with_taken l.plan.bits f l.plan.register l.j l.fn.vec;
}
