use Rattle.std.proofs.Common.{◌≡◌, ◌<◌, ◌^◌, ◌+◌, ◌-◌, ◌*◌, ◌/◌, drop}
use Rattle.emu_model.specs.Lists.{each}
use Rattle.vec_regs.specs.Packed.{packed}
use Rattle.active_lanes.specs.Placed.{lane_at}
use Rattle.active_lanes.proofs.lanes.word.Given as goal

abbrev pub invariant-loop-q : goal.invariant-loop-q
invariant-loop-q l = record {
  is : l.so_far ≡ packed l.e (drop l.q (each (64 / l.e) (λ q. lane_at l.is_signed l.e l.n l.bytes l.at l.step (l.k + q))));
  small : l.so_far < 2 ^ ((64 / l.e - l.q) * l.e);
}
