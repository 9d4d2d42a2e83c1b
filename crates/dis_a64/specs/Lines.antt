-- The lines of patterns that a line of the table has, where those of offsets in registers are six.
use Rattle.std.specs.Prelude.{ℕ, ◌+◌, ◌==◌, if◌then◌else◌, nat_lt}
use Rattle.a64_insn.specs.declared.lines.TheConstants as line

abbrev pub first_line : ℕ → ℕ
first_line n = if nat_lt line.LS_REG n then n + 5 else n

abbrev pub line_count : ℕ → ℕ
line_count n = if n == line.LS_REG then 6 else 1
