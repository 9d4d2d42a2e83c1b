use Rattle.std.proofs.Common.{◌≡◌, ◌++◌, string_bytes}
use Rattle.emu_bits.specs.Flags.{size_of}
use Rattle.emu_model.specs.Lanes.{read_p}
use Rattle.emu_run.specs.Registers.{lines_of}
use Rattle.debug_texts.specs.Registers.{flag_text}
use Rattle.debug_texts.proofs.registers.push_flags.Given as goal

abbrev pub invariant-lanes : goal.invariant-lanes
invariant-lanes l = string_bytes l.text ≡ string_bytes l.fn.text ++ lines_of l.i (flag_text (read_p l.vec l.k) (size_of l.size))
