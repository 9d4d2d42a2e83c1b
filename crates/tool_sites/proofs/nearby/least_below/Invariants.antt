use Rattle.std.proofs.Common.{◌≡◌, ◌≤◌}
use Rattle.tool_sites.specs.Nearby.{least_below}
use Rattle.tool_sites.proofs.nearby.least_below.Given as goal

abbrev pub invariant-loop-k : goal.invariant-loop-k
invariant-loop-k l = record {
  value : l.found ≡ least_below l.memory.memory l.address l.k;
  most : l.found ≤ 256;
}
