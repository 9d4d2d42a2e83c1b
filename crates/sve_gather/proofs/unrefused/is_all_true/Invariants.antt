use Rattle.std.proofs.Common.{◌*◌}
use Rattle.sve_gather.proofs.Ffr.{AreFull}
use Rattle.sve_gather.proofs.unrefused.is_all_true.Given as goal

abbrev pub invariant-loop-w : goal.invariant-loop-w
invariant-loop-w l = AreFull l.words (8 * l.w)

abbrev pub invariant-loop-i : goal.invariant-loop-i
invariant-loop-i l = AreFull l.words l.i
