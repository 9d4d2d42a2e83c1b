use Rattle.std.proofs.Common.{sym, ap, ◌∙◌, arith}
use Rattle.emu_run.specs.Run.{run}
use Rattle.emu_machine.specs.Ends.{is_broken_off}
use Rattle.dbg_core.specs.declared.ends.SessionEnd.TheVariants.{ReadFault, WriteFault, ErrorsFault}
use Rattle.dbg_core.specs.Ends.{is_fault, end_of_run}
use Rattle.emu_machine.proofs.Composed.{comes_by}
use Rattle.dbg_core.proofs.Obeying.{obeys_of, obeys_still, run_over, run_counted, over_by, fault_of_run, causes_as, last_run}
use Rattle.dbg_core.proofs.Leaving.{leaves_run, leaves_still}
use Rattle.dbg_core.proofs.Putting.{spares_run, spares_still}
use Rattle.dbg_core.proofs.moves.run_to.Goals as goal

pub returns-then-ended-clause-obeys : goal.returns-then-ended-clause-obeys
returns-then-ended-clause-obeys g c =
    obeys_still (λ st. run st c.args.target) c.args.machine.now.parts (g.I.Source.left c.args.input.now) (g.O.Sink.held c.args.output.now) (g.E.Sink.held c.args.errors.now)
    (run_over c.args.machine.now.parts c.args.target (over_by c.args.machine.now c.requires (sym c.ended.ensures ∙ c.if-ended.true)))

pub returns-then-target-steps-clause-obeys : goal.returns-then-target-steps-clause-obeys
returns-then-target-steps-clause-obeys g c =
    obeys_still (λ st. run st c.args.target) c.args.machine.now.parts (g.I.Source.left c.args.input.now) (g.O.Sink.held c.args.output.now) (g.E.Sink.held c.args.errors.now)
    (run_counted c.args.machine.now.parts c.args.target (let e = c.steps.ensures in let h = c.if-target-steps.true in omega (arith, e, h)))

pub returns-then-ended-clause-leaves : goal.returns-then-ended-clause-leaves
returns-then-ended-clause-leaves g c =
    leaves_still (λ st. run st c.args.target) c.args.target c.args.machine.now (g.I.Source.left c.args.input.now) c.requires
    (obeys_still (λ st. run st c.args.target) c.args.machine.now.parts (g.I.Source.left c.args.input.now) (g.O.Sink.held c.args.output.now) (g.E.Sink.held c.args.errors.now)
    (run_over c.args.machine.now.parts c.args.target (over_by c.args.machine.now c.requires (sym c.ended.ensures ∙ c.if-ended.true)))).state

pub returns-then-target-steps-clause-leaves : goal.returns-then-target-steps-clause-leaves
returns-then-target-steps-clause-leaves g c =
    leaves_still (λ st. run st c.args.target) c.args.target c.args.machine.now (g.I.Source.left c.args.input.now) c.requires
    (obeys_still (λ st. run st c.args.target) c.args.machine.now.parts (g.I.Source.left c.args.input.now) (g.O.Sink.held c.args.output.now) (g.E.Sink.held c.args.errors.now)
    (run_counted c.args.machine.now.parts c.args.target (let e = c.steps.ensures in let h = c.if-target-steps.true in omega (arith, e, h)))).state

pub returns-then-ended-clause-spares : goal.returns-then-ended-clause-spares
returns-then-ended-clause-spares g c =
    spares_still (λ st. run st c.args.target) c.args.machine.now (g.I.Source.left c.args.input.now) (g.O.Sink.held c.args.output.now) (g.E.Sink.held c.args.errors.now) c.requires
    (obeys_still (λ st. run st c.args.target) c.args.machine.now.parts (g.I.Source.left c.args.input.now) (g.O.Sink.held c.args.output.now) (g.E.Sink.held c.args.errors.now)
    (run_over c.args.machine.now.parts c.args.target (over_by c.args.machine.now c.requires (sym c.ended.ensures ∙ c.if-ended.true)))).errors

pub returns-then-target-steps-clause-spares : goal.returns-then-target-steps-clause-spares
returns-then-target-steps-clause-spares g c =
    spares_still (λ st. run st c.args.target) c.args.machine.now (g.I.Source.left c.args.input.now) (g.O.Sink.held c.args.output.now) (g.E.Sink.held c.args.errors.now) c.requires
    (obeys_still (λ st. run st c.args.target) c.args.machine.now.parts (g.I.Source.left c.args.input.now) (g.O.Sink.held c.args.output.now) (g.E.Sink.held c.args.errors.now)
    (run_counted c.args.machine.now.parts c.args.target (let e = c.steps.ensures in let h = c.if-target-steps.true in omega (arith, e, h)))).errors

pub returns : goal.returns
returns g c =
    let is = c.end_of_run.ensures in
    let p = c.args.machine.now.parts in
    let q = c.run.new.self.parts in
    record {
      obeys = obeys_of (λ st. run st c.args.target) p q (g.I.Source.left c.args.input.now) (g.I.Source.left c.run.new.input) (g.O.Sink.held c.args.output.now) (g.O.Sink.held c.run.new.output)
          (g.E.Sink.held c.args.errors.now) (g.E.Sink.held c.run.new.errors) c.end_of_run.result
          (comes_by (λ st. run st c.args.target) p q (g.I.Source.left c.args.input.now) (g.I.Source.left c.run.new.input) (g.O.Sink.held c.args.output.now) (g.O.Sink.held c.run.new.output)
          (g.E.Sink.held c.args.errors.now) (g.E.Sink.held c.run.new.errors) (is_broken_off c.run.result) (is_fault c.end_of_run.result)
          (fault_of_run c.run.result ∙ ap is_fault (sym is)) c.run.ensures.state c.run.ensures.input c.run.ensures.output c.run.ensures.errors);
      leaves = leaves_run c.args.target p c.run.new.self (g.I.Source.left c.args.input.now) (g.I.Source.left c.run.new.input) c.run.result c.end_of_run.result is c.run.ensures.failed c.run.ensures.state c.run.ensures.kept
          c.run.ensures.write_named c.run.ensures.unspent c.run.ensures.unended;
      spares = spares_run c.args.target p c.run.new.self (g.I.Source.left c.args.input.now) (g.I.Source.left c.run.new.input) (g.O.Sink.held c.args.output.now) (g.O.Sink.held c.run.new.output)
          (g.E.Sink.held c.args.errors.now) (g.E.Sink.held c.run.new.errors) c.run.result c.end_of_run.result is c.run.ensures.failed c.run.ensures.kept c.run.ensures.whole_output c.run.ensures.whole_errors c.run.ensures.errors;
      failed = c.run.ensures.failed ∙ fault_of_run c.run.result ∙ ap is_fault (sym is);
      read_cause = causes_as _ _ _ _ (λ h. is ∙ ap end_of_run h) (λ h. last_run c.run.result ReadFault (sym is ∙ h)) c.run.ensures.read_cause;
      write_cause = causes_as _ _ _ _ (λ h. is ∙ ap end_of_run h) (λ h. last_run c.run.result WriteFault (sym is ∙ h)) c.run.ensures.write_cause;
      errors_cause = causes_as _ _ _ _ (λ h. is ∙ ap end_of_run h) (λ h. last_run c.run.result ErrorsFault (sym is ∙ h)) c.run.ensures.errors_cause;
      read_named = λ h. c.run.ensures.read_named (last_run c.run.result ReadFault (sym is ∙ h));
      errors_named = λ h. c.run.ensures.errors_named (last_run c.run.result ErrorsFault (sym is ∙ h));
    }
