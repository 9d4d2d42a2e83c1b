use Rattle.std.proofs.Common.{◌≡◌, drop}
use Rattle.std.specs.Prelude.{nat_lt}
use Rattle.std.specs.List.{find}
use Rattle.source_lines.proofs.lookup.address_behind.Given as goal

abbrev pub invariant-loop-row : goal.invariant-loop-row
invariant-loop-row l =
    find (λ row. nat_lt l.address row.address) (drop l.row-index l.rows) ≡ find (λ row. nat_lt l.address row.address) l.rows
