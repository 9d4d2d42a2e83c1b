use Rattle.std.proofs.Common.{◌≡◌, false, sym, ap, refl, arith}
use Rattle.emu_model.specs.State.{State}
use Rattle.emu_system.specs.Start.{with_input}
use Rattle.emu_run.specs.Run.{run}
use Rattle.dbg_model.specs.Session.{no_points}
use Rattle.dbg_core.specs.declared.ends.SessionEnd.TheVariants.{Done, ReadFault, WriteFault, ErrorsFault}
use Rattle.dbg_core.specs.Ends.{end_of_put}
use Rattle.emu_machine.proofs.Runs.{run_moving}
use Rattle.dbg_core.proofs.Sessions.{prints, prints_moving, ending_text}
use Rattle.dbg_core.proofs.Going.{go_at, at_free}
use Rattle.dbg_core.proofs.Obeying.{obeys_as, obeys_same, obeys_cut, obeys_line, put_read, put_write, put_errs, no_read, no_errs}
use Rattle.dbg_core.proofs.Leaving.{becomes_same, leaves_line, leaves_prints, leaves_same}
use Rattle.dbg_core.proofs.Putting.{puts_same, spares_line, spares_same}
use Rattle.dbg_core.proofs.moves.go_free.Goals as goal

pub returns-in-Done : goal.returns-in-Done
returns-in-Done g c =
    let p = c.args.machine.now.parts in
    let q = c.run_to.new.machine.parts in
    let budget = c.args.budget in
    let put = c.put_ending.result in
    let is = c.end_of_put.ensures in
    record {
      obeys = obeys_as p q _ _ _ _ _ _ (go_at no_points budget) (end_of_put put) c.end_of_put.result is
          (obeys_same p q _ _ _ _ _ _ (λ st. prints ending_text (run st budget)) (go_at no_points budget) (end_of_put put) (λ input. sym (at_free budget (with_input p input)))
          (obeys_line p q (g.I.Source.left c.args.input.now) (g.I.Source.left c.run_to.new.input) (g.O.Sink.held c.args.output.now) (g.O.Sink.held c.run_to.new.output)
          (g.E.Sink.held c.args.errors.now) (g.E.Sink.held c.run_to.new.errors) (λ st. run st budget) ending_text (g.O.Sink.held c.put_ending.new.sink) Done put
          (run_moving budget) refl c.in-Done.ensures.obeys c.put_ending.ensures.bytes));
      leaves = leaves_line (go_at no_points budget) budget p c.run_to.new.machine (g.I.Source.left c.args.input.now) (g.I.Source.left c.run_to.new.input) put c.end_of_put.result is c.in-Done.ensures.failed
          (becomes_same (λ st. prints ending_text (run st budget)) (go_at no_points budget) p q (g.I.Source.left c.args.input.now) (g.I.Source.left c.run_to.new.input) false
          (λ input. sym (at_free budget (with_input p input))) c.in-Done.ensures.obeys.state);
      spares = spares_line (go_at no_points budget) p c.run_to.new.machine (g.I.Source.left c.args.input.now) (g.I.Source.left c.run_to.new.input) (g.O.Sink.held c.args.output.now) (g.O.Sink.held c.put_ending.new.sink) (g.E.Sink.held c.args.errors.now) (g.E.Sink.held c.run_to.new.errors) put c.end_of_put.result is c.in-Done.ensures.failed
          (puts_same (λ st. (run st budget).errors) (λ st. (go_at no_points budget st).errors) p (g.I.Source.left c.args.input.now) (g.E.Sink.held c.args.errors.now) (g.E.Sink.held c.run_to.new.errors)
          (λ input. ap (λ (s : State). s.errors) (sym (at_free budget (with_input p input)))) c.in-Done.ensures.obeys.errors);
      done = λ _. c.in-Done.ensures.failed;
      read_cause = put_read put c.end_of_put.result is _ _ (c.in-Done.ensures.read_cause.kept (λ (h : Done ≡ ReadFault). cc));
      write_cause = put_write put c.end_of_put.result is _ _ _ (c.in-Done.ensures.write_cause.kept (λ (h : Done ≡ WriteFault). cc)) c.put_ending.ensures.cause;
      errors_cause = put_errs put c.end_of_put.result is _ _ (c.in-Done.ensures.errors_cause.kept (λ (h : Done ≡ ErrorsFault). cc));
      read_named = λ h. no_read put c.end_of_put.result is _ h;
      errors_named = λ h. no_errs put c.end_of_put.result is _ h;
    }

pub returns-in_default-clause-obeys : goal.returns-in_default-clause-obeys
returns-in_default-clause-obeys g c =
    let p = c.args.machine.now.parts in
    let q = c.run_to.new.machine.parts in
    let budget = c.args.budget in
    obeys_same p q _ _ _ _ _ _ (λ st. prints ending_text (run st budget)) (go_at no_points budget) c.run_to.result (λ input. sym (at_free budget (with_input p input)))
    (obeys_cut p q (g.I.Source.left c.args.input.now) (g.I.Source.left c.run_to.new.input) (g.O.Sink.held c.args.output.now) (g.O.Sink.held c.run_to.new.output)
    (g.E.Sink.held c.args.errors.now) (g.E.Sink.held c.run_to.new.errors) (λ st. run st budget) (prints ending_text) c.run_to.result (prints_moving ending_text) c.in_default.not-Done c.run_to.ensures.obeys)

pub returns-in_default-clause-leaves : goal.returns-in_default-clause-leaves
returns-in_default-clause-leaves g c =
    let p = c.args.machine.now.parts in
    let m = c.run_to.new.machine in
    let budget = c.args.budget in
    leaves_same (λ st. prints ending_text (run st budget)) p m (g.I.Source.left c.args.input.now) (g.I.Source.left c.run_to.new.input) c.run_to.result (go_at no_points budget) budget budget (omega arith)
    (λ input. sym (at_free budget (with_input p input)))
    (leaves_prints (λ st. run st budget) p m (g.I.Source.left c.args.input.now) (g.I.Source.left c.run_to.new.input) c.run_to.result ending_text budget c.run_to.ensures.leaves)

pub returns-in_default-clause-spares : goal.returns-in_default-clause-spares
returns-in_default-clause-spares g c =
    let p = c.args.machine.now.parts in
    let budget = c.args.budget in
    spares_same (λ st. run st budget) (go_at no_points budget) p c.run_to.new.machine (g.I.Source.left c.args.input.now) (g.I.Source.left c.run_to.new.input) (g.O.Sink.held c.args.output.now) (g.O.Sink.held c.run_to.new.output) (g.E.Sink.held c.args.errors.now) (g.E.Sink.held c.run_to.new.errors) c.run_to.result
    (λ input. ap (λ (s : State). s.errors) (sym (at_free budget (with_input p input)))) c.run_to.ensures.spares
