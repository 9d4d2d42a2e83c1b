use Rattle.std.proofs.Common.{◌≡◌, ◌≤◌, drop, max}
use Rattle.emu_system.specs.Start.{highest_page}
use Rattle.emu_machine.proofs.load.highest_page.Given as goal

abbrev pub invariant-loop-segment : goal.invariant-loop-segment
invariant-loop-segment l = record {
  rest : max l.highest (highest_page (drop l.segment-index l.segments)) ≡ highest_page l.segments;
  limit : l.highest ≤ 0x7F0000000;
}
