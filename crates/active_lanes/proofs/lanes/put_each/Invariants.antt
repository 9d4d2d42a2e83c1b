use Rattle.std.proofs.Common.{◌≡◌, ◌<◌, ◌≤◌, ◌*◌, ◌/◌, ℕ, get_or}
use Rattle.emu_model.specs.Lanes.{byte_in}
use Rattle.vec_regs.specs.Words.{byte_of}
use Rattle.active_lanes.specs.Placed.{lane_at}
use Rattle.active_lanes.proofs.lanes.put_each.Given as goal

abbrev pub invariant-loop-i : goal.invariant-loop-i
invariant-loop-i l = record {
  done : (j : ℕ) → j < 8 * l.i → byte_of 8 l.words j ≡ byte_in (l.e / 8) (lane_at l.is_signed l.e l.n l.bytes l.at l.step) j;
  above : (k : ℕ) → l.i ≤ k → get_or l.words k 0 ≡ get_or l.fn.words k 0;
}
