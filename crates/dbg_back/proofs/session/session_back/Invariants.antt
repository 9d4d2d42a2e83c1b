use Rattle.std.proofs.Common.{◌≡◌, ◌≤◌, ◌+◌, drop, length, count_by}
use Rattle.dbg_model.specs.Commands.{is_break, is_watch}
use Rattle.dbg_model.specs.Session.{no_points, obeyed_all}
use Rattle.dbg_back.proofs.Doing.{Leads}
use Rattle.dbg_back.proofs.session.session_back.Given as goal

abbrev pub invariant-walk : goal.invariant-walk
invariant-walk g l = record {
  leads : Leads (λ start. obeyed_all start l.script no_points l.budget) (λ start. obeyed_all start (drop l.k l.script) l.points l.budget) l.input l.initial.machine l.machine l.initial.trail l.trail
      (g.O.Sink.held l.initial.output) (g.O.Sink.held l.output) (g.E.Sink.held l.initial.errors) (g.E.Sink.held l.errors);
  breaks : length l.points.breaks + count_by is_break (drop l.k l.script) ≤ 64;
  watches : length l.points.watches + count_by is_watch (drop l.k l.script) ≤ 64;
  write : g.O.Sink.faults l.output ≡ g.O.Sink.faults l.fn.output;
  errors : g.E.Sink.faults l.errors ≡ g.E.Sink.faults l.fn.errors;
}
