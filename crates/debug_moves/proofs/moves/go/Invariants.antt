use Rattle.std.proofs.Common.{◌≡◌}
use Rattle.debug_walk.specs.Walks.{StaysOn}
use Rattle.debug_moves.specs.Sessions.{MeetsStop}
use Rattle.debug_moves.proofs.moves.go.Given as goal

-- the machine is one of the same run, and meets what the last move reached
abbrev pub invariant-moves : goal.invariant-moves
invariant-moves g l = record {
  stays : StaysOn l.fn.session.input.now l.fn.machine l.machine l.fn.trail l.trail;
  input : l.session.input.now ≡ l.fn.session.input.now;
  met : MeetsStop l.machine l.reached;
}
