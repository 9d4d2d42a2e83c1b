use Rattle.std.proofs.Common.{◌≡◌, ◌+◌, drop, map}
use Rattle.line_words.specs.Refusals.{read_lines}
use Rattle.source_lines.specs.Tables.{fault_at, read_line, seen}
use Rattle.source_lines.proofs.reader.read_lines.Given as goal

-- what the lines that are left say behind those before is what they all say
abbrev pub invariant-loop-place : goal.invariant-loop-place
invariant-loop-place l =
    read_lines fault_at read_line (map seen l.rows.items) (l.place + 1) (drop l.place (map (λ line. line.now) l.lines))
    ≡ read_lines fault_at read_line (map seen l.fn.rows.items) 1 (map (λ line. line.now) l.lines)
