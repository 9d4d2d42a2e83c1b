use Rattle.std.proofs.Common.{Some, sym, subst, ◌≡◌, true}
use Rattle.dbg_model.specs.Forward.{session}
use Rattle.emu_system.specs.Start.{with_input}
use Rattle.command_lines.specs.Outcome.{outcome_of_session}
use Rattle.command_lines.specs.declared.ending.Ending.{Ending}
use Rattle.commands.specs.Meets.{now, Meets}
use Rattle.commands.proofs.Meetings.{session_meets}
use Rattle.commands.proofs.MayEnd.{kind_session}
use Rattle.commands.specs.Lines.{ends_dbg}
use Rattle.commands.proofs.Keeping.{session_keeps}
use Rattle.commands.proofs.debugger.debug_machine.Goals as goal

pub returns-clause-outcome : goal.returns-clause-outcome
returns-clause-outcome g c =
    subst (λ (r : Ending). Meets (λ i. Some (outcome_of_session i (session c.args.script.now c.args.budget (with_input c.args.machine.now.parts i)))) r
    (now (g.I.Source.left c.args.input.now) (g.O.Sink.held c.args.output.now) (g.E.Sink.held c.args.errors.now)) (now (g.I.Source.left c.session.new.input) (g.O.Sink.held c.session.new.output) (g.E.Sink.held c.session.new.errors))) (sym c.ending_of_session.ensures)
    (session_meets c.args.machine.now.parts c.session.new.machine.parts c.args.script.now c.args.budget _ _ _ _ _ _ c.session.result c.session.ensures.state c.session.ensures.input c.session.ensures.output c.session.ensures.errors)

pub returns-clause-kind : goal.returns-clause-kind
returns-clause-kind g c = subst (λ (x : Ending). ends_dbg x ≡ true) (sym c.ending_of_session.ensures) (kind_session c.session.result)

pub returns-clause-whole : goal.returns-clause-whole
returns-clause-whole g c =
    session_keeps c.args.machine.now.parts c.session.new.machine c.args.script.now c.args.budget c.session.result c.ending_of_session.result (g.I.Source.left c.session.new.input) (g.O.Sink.held c.args.output.now) (g.O.Sink.held c.session.new.output) (g.E.Sink.held c.args.errors.now) (g.E.Sink.held c.session.new.errors) c.ending_of_session.ensures
    c.session.ensures.line c.session.ensures.unended c.session.ensures.unspent c.session.ensures.read_named c.session.ensures.write_named c.session.ensures.errors_named (λ i. Some (outcome_of_session i (session c.args.script.now c.args.budget (with_input c.args.machine.now.parts i)))) (g.I.Source.left c.args.input.now) c.session.ensures.whole_output c.session.ensures.whole_errors
