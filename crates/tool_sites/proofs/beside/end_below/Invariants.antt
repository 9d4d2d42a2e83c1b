use Rattle.std.proofs.Common.{◌≡◌, drop, max}
use Rattle.tool_sites.specs.Beside.{end_below}
use Rattle.tool_sites.proofs.beside.end_below.Given as goal

abbrev pub invariant-loop-segment : goal.invariant-loop-segment
invariant-loop-segment l = max l.highest (end_below l.address (drop l.segment-index l.segments)) ≡ end_below l.address l.segments
