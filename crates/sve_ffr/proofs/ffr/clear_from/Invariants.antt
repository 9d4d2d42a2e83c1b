use Rattle.std.proofs.Common.{◌≡◌, ◌*◌, ◌/◌, ◌&&◌, false, get_or, length, nat_lt}
use Rattle.emu_model.specs.Lists.{each}
use Rattle.sve_ffr.proofs.ffr.clear_from.Given as goal

abbrev pub invariant-loop-j : goal.invariant-loop-j
invariant-loop-j l = record {
  count : length l.flags.items ≡ l.j;
  flags : l.flags.items ≡ each l.j (λ j. get_or l.vec.ffr j false && nat_lt j (l.q * (l.e / 8)));
}
