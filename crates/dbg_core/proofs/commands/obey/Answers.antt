use Rattle.std.proofs.Common.{false, refl, ap}
use Rattle.emu_model.specs.State.{State}
use Rattle.emu_system.specs.Start.{with_input}
use Rattle.dbg_model.specs.Session.{command_text}
use Rattle.dbg_model.specs.Forward.{obeyed}
use Rattle.dbg_core.specs.Ends.{end_of_put}
use Rattle.dbg_core.proofs.Sessions.{prints}
use Rattle.dbg_core.proofs.Obeying.{obeys_as, obeys_same, obeys_put, put_read, put_write, put_errs, no_read, no_errs}
use Rattle.dbg_core.proofs.Scripts.{shows}
use Rattle.dbg_core.proofs.Leaving.{becomes_same, becomes_printed, leaves_line}
use Rattle.dbg_core.proofs.Putting.{errors_still, puts_same, spares_line}
use Rattle.dbg_core.proofs.commands.obey.Goals as goal

pub returns-in_default : goal.returns-in_default
returns-in_default g c =
    let p = c.args.machine.now.parts in
    let command = c.args.command.now in
    let put = c.put_shown.result in
    let is = c.end_of_put.ensures in
    record {
      obeys = obeys_as p p _ _ _ _ _ _ (obeyed command c.args.points.now c.args.budget) (end_of_put put) c.end_of_put.result is
          (obeys_same p p _ _ _ _ _ _ (prints (command_text command)) (obeyed command c.args.points.now c.args.budget) (end_of_put put)
          (λ input. shows command c.args.points.now c.args.budget c.in_default.not-Step c.in_default.not-Go (with_input p input))
          (obeys_put (command_text command) p (g.I.Source.left c.args.input.now) (g.O.Sink.held c.args.output.now) (g.O.Sink.held c.put_shown.new.sink) (g.E.Sink.held c.args.errors.now) put c.put_shown.ensures.bytes));
      leaves = leaves_line (obeyed command c.args.points.now c.args.budget) c.args.budget p c.args.machine.now (g.I.Source.left c.args.input.now) (g.I.Source.left c.args.input.now) put c.end_of_put.result is c.requires.failed
          (becomes_same (prints (command_text command)) (obeyed command c.args.points.now c.args.budget) p p (g.I.Source.left c.args.input.now) (g.I.Source.left c.args.input.now) false
          (λ input. shows command c.args.points.now c.args.budget c.in_default.not-Step c.in_default.not-Go (with_input p input))
          (becomes_printed (command_text command) p (g.I.Source.left c.args.input.now)));
      spares = spares_line (obeyed command c.args.points.now c.args.budget) p c.args.machine.now (g.I.Source.left c.args.input.now) (g.I.Source.left c.args.input.now) (g.O.Sink.held c.args.output.now) (g.O.Sink.held c.put_shown.new.sink) (g.E.Sink.held c.args.errors.now) (g.E.Sink.held c.args.errors.now) put c.end_of_put.result is c.requires.failed
          (puts_same (λ st. st.errors) (λ st. (obeyed command c.args.points.now c.args.budget st).errors) p (g.I.Source.left c.args.input.now) (g.E.Sink.held c.args.errors.now) (g.E.Sink.held c.args.errors.now)
          (λ input. ap (λ (s : State). s.errors) (shows command c.args.points.now c.args.budget c.in_default.not-Step c.in_default.not-Go (with_input p input)))
          (errors_still p (g.I.Source.left c.args.input.now) (g.E.Sink.held c.args.errors.now)));
      done = λ _. c.requires.failed;
      read_cause = put_read put c.end_of_put.result is _ _ refl;
      write_cause = put_write put c.end_of_put.result is _ _ _ refl c.put_shown.ensures.cause;
      errors_cause = put_errs put c.end_of_put.result is _ _ refl;
      read_named = λ h. no_read put c.end_of_put.result is _ h;
      errors_named = λ h. no_errs put c.end_of_put.result is _ h;
    }
