use Rattle.std.proofs.Common.{◌≡◌, drop}
use Rattle.source_lines.specs.Tables.{address_from}
use Rattle.source_lines.proofs.lookup.address_at.Given as goal

abbrev pub invariant-loop-row : goal.invariant-loop-row
invariant-loop-row l = address_from l.found l.address (drop l.row-index l.rows) ≡ address_from l.address l.address l.rows
