use Rattle.std.proofs.Common.{◌≡◌, ◌≤◌, ◌-◌, ℕ, drop, true, false, is_none}
use Rattle.emu_system.specs.Start.{with_input}
use Rattle.word_counts.specs.Counts.{count_at}
use Rattle.run_counts.proofs.Visited.{HasCome}
use Rattle.run_counts.proofs.run.run_counted.Given as goal

abbrev pub invariant-walk : goal.invariant-walk
invariant-walk l = record {
  failed : l.machine.failed ≡ false;
  going : is_none l.machine.parts.ended ≡ true;
  within : l.machine.parts.steps ≤ l.budget;
  later : l.fn.machine.parts.steps ≤ l.machine.parts.steps;
  few : (word : ℕ) → count_at l.counts word ≤ l.machine.parts.steps - l.fn.machine.parts.steps;
  came : HasCome (with_input l.fn.machine.parts l.input) (l.machine.parts.steps - l.fn.machine.parts.steps) l.machine.parts (drop l.source.place l.source.bytes) l.counts;
}

abbrev pub decreases-walk : goal.decreases-walk
decreases-walk l = l.budget - l.machine.parts.steps
