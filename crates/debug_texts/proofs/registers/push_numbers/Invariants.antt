use Rattle.std.proofs.Common.{◌≡◌, ◌++◌, string_bytes}
use Rattle.emu_bits.specs.Flags.{size_of}
use Rattle.emu_run.specs.Registers.{lines_of}
use Rattle.debug_texts.specs.Registers.{z_lane_text}
use Rattle.debug_texts.proofs.registers.push_numbers.Given as goal

abbrev pub invariant-lanes : goal.invariant-lanes
invariant-lanes l = string_bytes l.text ≡ string_bytes l.fn.text ++ lines_of l.i (z_lane_text l.notation l.vec l.k (size_of l.fn.size))
