use Rattle.std.proofs.Common.{◌≡◌, ◌-◌}
use Rattle.debug_walk.specs.Walks.{StaysOn}
use Rattle.debug_moves.specs.Sessions.{seek_until}
use Rattle.debug_moves.proofs.Seeks.{AllSeek}
use Rattle.debug_moves.proofs.session.Session.seek.Given as goal

-- what is left to seek is what was sought, on the same run
abbrev pub invariant-seek : goal.invariant-seek
invariant-seek g l = record {
  seeks : AllSeek (λ start. seek_until l.aim l.fn.self.budget l.limit) l.fn.self.input.now l.fn.self.points l.self.points l.fn.machine l.machine l.fn.trail l.trail
      (g.O.Sink.held l.fn.output) (g.O.Sink.held l.output) (g.E.Sink.held l.fn.errors) (g.E.Sink.held l.errors);
  budget : l.self.budget ≡ l.fn.self.budget;
  stays : StaysOn l.fn.self.input.now l.fn.machine l.machine l.fn.trail l.trail;
  input : l.self.input.now ≡ l.fn.self.input.now;
}

abbrev pub decreases-seek : goal.decreases-seek
decreases-seek g l = l.limit - l.machine.parts.steps
