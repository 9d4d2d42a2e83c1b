use Rattle.std.proofs.Common.{◌≡◌}
use Rattle.tool_sites.specs.Nearby.{all_mapped}
use Rattle.tool_sites.proofs.nearby.all_mapped.Given as goal

abbrev pub invariant-loop-k : goal.invariant-loop-k
invariant-loop-k l = l.all ≡ all_mapped l.memory.memory l.from l.k
