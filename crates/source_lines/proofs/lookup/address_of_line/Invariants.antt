use Rattle.std.proofs.Common.{◌≡◌, drop}
use Rattle.std.specs.List.{find}
use Rattle.source_lines.specs.Tables.{is_row_of}
use Rattle.source_lines.proofs.lookup.address_of_line.Given as goal

abbrev pub invariant-loop-row : goal.invariant-loop-row
invariant-loop-row l = find (is_row_of l.file l.line) (drop l.row-index l.rows) ≡ find (is_row_of l.file l.line) l.rows
