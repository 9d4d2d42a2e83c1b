use Rattle.std.proofs.Common.{◌≡◌, ◌≤◌, List, ℕ, Option}
use Rattle.debug_walk.specs.Walks.{StaysOn, machines_before}
use Rattle.debug_moves.specs.Sessions.{back_from}
use Rattle.debug_moves.proofs.Seeks.{AllSeek}
use Rattle.debug_moves.proofs.session.Session.seek_back.Given as goal

-- what is left to seek is what was sought, on the same run
abbrev pub invariant-seek : goal.invariant-seek
invariant-seek l = record {
  seeks : (held errs : Option (List ℕ)) → AllSeek (λ start. back_from l.aim l.fn.self.budget start l.least) l.fn.self.input.now l.fn.self.points l.self.points l.fn.machine l.machine l.fn.trail l.trail held held errs errs;
  budget : l.self.budget ≡ l.fn.self.budget;
  behind : l.least ≤ l.machine.parts.steps;
  stays : StaysOn l.fn.self.input.now l.fn.machine l.machine l.fn.trail l.trail;
  input : l.self.input.now ≡ l.fn.self.input.now;
}

abbrev pub decreases-seek : goal.decreases-seek
decreases-seek l = machines_before l.machine.parts
