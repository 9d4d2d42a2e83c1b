-- The lines of a segment, if it is executable.
use Rattle.std.specs.Prelude.{ℕ, if◌then◌else◌, List, []}
use Rattle.emu_system.specs.declared.image.Segment.{Segment}
use Rattle.asm_text.specs.Disassembly.{segment_lines}

abbrev pub executable_lines : List ℕ → Segment → List ℕ
executable_lines file s = if s.rights.x then segment_lines file s else []
