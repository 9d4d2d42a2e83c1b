use Rattle.std.proofs.Common.{◌≡◌, ◌≤◌}
use Rattle.tool_sites.specs.Nearby.{least_above}
use Rattle.tool_sites.proofs.nearby.least_above.Given as goal

abbrev pub invariant-loop-k : goal.invariant-loop-k
invariant-loop-k l = record {
  value : l.found ≡ least_above l.memory.memory l.address l.k;
  most : l.found ≤ 256;
}
