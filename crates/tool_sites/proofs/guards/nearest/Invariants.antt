use Rattle.std.proofs.Common.{◌≡◌}
use Rattle.tool_sites.specs.Guards.{nearest}
use Rattle.tool_sites.proofs.guards.nearest.Given as goal

abbrev pub invariant-loop-k : goal.invariant-loop-k
invariant-loop-k l = l.found ≡ nearest l.memory.memory l.table l.address l.k
