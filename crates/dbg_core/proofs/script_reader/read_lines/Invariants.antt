use Rattle.std.proofs.Common.{◌≡◌, ◌+◌, drop, map}
use Rattle.line_words.specs.Refusals.{read_lines}
use Rattle.dbg_model.specs.Script.{fault_at, read_line}
use Rattle.dbg_core.proofs.script_reader.read_lines.Given as goal

-- what the lines that are left say behind those before is what they all say
abbrev pub invariant-loop-place : goal.invariant-loop-place
invariant-loop-place l =
    read_lines fault_at read_line l.script (l.place + 1) (drop l.place (map (λ line. line.now) l.lines)) ≡ read_lines fault_at read_line l.fn.script 1 (map (λ line. line.now) l.lines)
