use Rattle.std.proofs.Common.{◌≡◌, ◌≤◌, ◌+◌, ◌-◌, length, drop}
use Rattle.emu_model.specs.Pages.{with_bytes}
use Rattle.emu_machine.proofs.load.copy.Given as goal

abbrev pub invariant-loop-at : goal.invariant-loop-at
invariant-loop-at l = record {
  within : l.at ≤ length l.bytes;
  rest : with_bytes l.pages.memory (l.address + l.at) (drop l.at l.bytes) ≡ with_bytes l.fn.pages.memory l.address l.bytes;
  marks : l.pages.marks ≡ l.fn.pages.marks;
}

abbrev pub decreases-loop-at : goal.decreases-loop-at
decreases-loop-at l = length l.bytes - l.at
