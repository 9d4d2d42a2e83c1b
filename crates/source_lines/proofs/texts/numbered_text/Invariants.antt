use Rattle.std.proofs.Common.{◌≡◌, drop}
use Rattle.std.specs.List.{find}
use Rattle.source_lines.specs.Texts.{is_numbered}
use Rattle.source_lines.proofs.texts.numbered_text.Given as goal

abbrev pub invariant-loop-line : goal.invariant-loop-line
invariant-loop-line l = find (is_numbered l.number) (drop l.line-index l.lines) ≡ find (is_numbered l.number) l.lines
