use Rattle.std.proofs.Common.{◌≡◌, ◌≤◌, ◌+◌, ◌*◌, ◌++◌, length}
use Rattle.emu_bits.specs.Flags.{size_of}
use Rattle.emu_model.specs.Lanes.{read_z}
use Rattle.emu_run.specs.Registers.{lines_of}
use Rattle.dbg_model.specs.Session.{lane_text}
use Rattle.emu_report.proofs.debugger.push_lanes.Given as goal

abbrev pub invariant-lanes : goal.invariant-lanes
invariant-lanes l = record {
  text : l.text ≡ l.fn.text ++ lines_of l.lane (lane_text (size_of l.fn.size) (read_z l.vec l.k));
  short : 8 * length l.text ≤ 8 * length l.fn.text + 3 * (size_of l.fn.size * l.lane);
}
