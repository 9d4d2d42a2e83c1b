use Rattle.std.proofs.Common.{◌≡◌, ◌<◌, ◌≤◌, ◌+◌, ◌-◌, ℕ, length, false}
use Rattle.guest_contexts.specs.Begins.{IsTurn}
use Rattle.emu_machine.specs.InTurns.{AreUsedUp}
use Rattle.emu_machine.specs.Machines.{has_ended}
use Rattle.emu_machine.proofs.running.Running.take_turns.Given as goal

abbrev pub invariant-loop-contexts : goal.invariant-loop-contexts
invariant-loop-contexts l = record {
  going : has_ended l.self ≡ false;
  below : l.self.parts.steps < l.turn.until;
  marks : l.self.marks ≡ l.fn.self.marks;
  saved : l.self.saved ≡ l.fn.self.saved;
  turn : 0 < length l.schedule → IsTurn l.schedule l.numbers l.contexts l.turn;
  count : length l.contexts ≡ length l.fn.contexts;
  budget : l.turn.budget ≡ l.fn.turn.budget;
  most : l.turn.until ≤ l.fn.turn.until + l.fn.turn.budget;
  used : (n : ℕ) × AreUsedUp n l.schedule l.numbers (record { machine = l.fn.self; turn = l.fn.turn; contexts = l.fn.contexts }) (record { machine = l.self; turn = l.turn; contexts = l.contexts });
}

abbrev pub decreases-loop-contexts : goal.decreases-loop-contexts
decreases-loop-contexts l = l.fn.turn.until + l.fn.turn.budget - l.self.parts.steps
