use Rattle.std.proofs.Common.{◌≡◌, ◌≤◌, ◌+◌, false, drop, take, length, count_by}
use Rattle.emu_machine.specs.Ends.{Becomes}
use Rattle.dbg_model.specs.Commands.{is_break, is_watch}
use Rattle.dbg_model.specs.Session.{no_points}
use Rattle.dbg_model.specs.Forward.{obeyed_all, session}
use Rattle.emu_machine.proofs.Composed.{Comes, Leads}
use Rattle.dbg_core.proofs.Standing.{points_all}
use Rattle.dbg_core.proofs.commands.session.Given as goal

abbrev pub invariant-walk : goal.invariant-walk
invariant-walk g l = record {
  failed : l.machine.failed ≡ false;
  leads : Leads (session l.script l.budget) (obeyed_all (drop l.k l.script) l.points l.budget) l.fn.machine.parts l.machine.parts (g.I.Source.left l.fn.input) (g.I.Source.left l.input)
      (g.O.Sink.held l.fn.output) (g.O.Sink.held l.output) (g.E.Sink.held l.fn.errors) (g.E.Sink.held l.errors);
  so_far : l.points ≡ points_all (take l.k l.script) no_points;
  stood : Becomes (session (take l.k l.script) l.budget) l.fn.machine.parts l.machine.parts (g.I.Source.left l.fn.input) (g.I.Source.left l.input) false;
  whole : Comes (session (take l.k l.script) l.budget) l.fn.machine.parts l.machine.parts (g.I.Source.left l.fn.input) (g.I.Source.left l.input)
      (g.O.Sink.held l.fn.output) (g.O.Sink.held l.output) (g.E.Sink.held l.fn.errors) (g.E.Sink.held l.errors) false;
  breaks : length l.points.breaks + count_by is_break (drop l.k l.script) ≤ 64;
  watches : length l.points.watches + count_by is_watch (drop l.k l.script) ≤ 64;
  read : g.I.Source.faults l.input ≡ g.I.Source.faults l.fn.input;
  write : g.O.Sink.faults l.output ≡ g.O.Sink.faults l.fn.output;
  errors : g.E.Sink.faults l.errors ≡ g.E.Sink.faults l.fn.errors;
}
