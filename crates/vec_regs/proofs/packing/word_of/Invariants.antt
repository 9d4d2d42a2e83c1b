use Rattle.std.proofs.Common.{◌≡◌, ◌<◌, ◌^◌, ◌-◌, ◌*◌, drop, length}
use Rattle.vec_regs.specs.Packed.{packed}
use Rattle.vec_regs.proofs.packing.word_of.Given as goal

abbrev pub invariant-loop-j : goal.invariant-loop-j
invariant-loop-j l = record {
  is : l.so_far ≡ packed l.e (drop l.j l.lanes);
  small : l.so_far < 2 ^ ((length l.lanes - l.j) * l.e);
}
