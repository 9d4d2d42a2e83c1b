use Rattle.std.proofs.Common.{◌≡◌, ◌≤◌, drop, min}
use Rattle.tool_sites.specs.Beside.{start_above}
use Rattle.tool_sites.proofs.beside.start_above.Given as goal

abbrev pub invariant-loop-segment : goal.invariant-loop-segment
invariant-loop-segment l = record {
  rest : min l.lowest (start_above l.address (drop l.segment-index l.segments)) ≡ start_above l.address l.segments;
  most : l.lowest ≤ 18446744073709551615;
}
