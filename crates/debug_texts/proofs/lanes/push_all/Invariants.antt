use Rattle.std.proofs.Common.{◌≡◌, ◌++◌, string_bytes}
use Rattle.emu_bits.specs.Flags.{size_of}
use Rattle.emu_run.specs.Registers.{lines_of}
use Rattle.debug_texts.specs.Lanes.{lane_line}
use Rattle.debug_texts.proofs.lanes.push_all.Given as goal

abbrev pub invariant-lanes : goal.invariant-lanes
invariant-lanes l = string_bytes l.text ≡ string_bytes l.fn.text ++ lines_of l.i (lane_line l.before l.now (size_of l.size) l.things)
