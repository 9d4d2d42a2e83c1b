use Rattle.std.proofs.Common.{◌≡◌}
use Rattle.debug_walk.specs.Walks.{StaysOn}
use Rattle.debug_moves.proofs.line_moves.step_line.Given as goal

-- the machine is one of the same run
abbrev pub invariant-rows : goal.invariant-rows
invariant-rows g l = record {
  stays : StaysOn l.fn.session.input.now l.fn.machine l.machine l.fn.trail l.trail;
  input : l.session.input.now ≡ l.fn.session.input.now;
}
