use Rattle.std.proofs.Common.{◌≡◌}
use Rattle.emu_model.specs.State.{zero_core}
use Rattle.guest_contexts.proofs.Copied.{AreCopied}
use Rattle.guest_contexts.proofs.copies.copy_core.Given as goal

abbrev pub invariant-loop-number : goal.invariant-loop-number
invariant-loop-number l = record {
  rest : l.copy ≡ record zero_core { x = l.copy.x };
  copied : AreCopied l.number l.copy.x l.core.x 0;
}
