use Rattle.std.proofs.Common.{◌≡◌, None, drop}
use Rattle.source_lines.specs.Tables.{line_from, seen_place}
use Rattle.source_lines.proofs.lookup.place_at.Given as goal

abbrev pub invariant-loop-row : goal.invariant-loop-row
invariant-loop-row l = line_from (seen_place l.found) l.address (drop l.row-index l.rows) ≡ line_from None l.address l.rows
