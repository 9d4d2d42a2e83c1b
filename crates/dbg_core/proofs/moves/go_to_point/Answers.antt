use Rattle.std.proofs.Common.{◌≡◌, ◌<◌, ◌≤◌, List, Bool, true, false, sym, ap, subst, ◌∙◌, refl, arith}
use Rattle.emu_model.specs.declared.access.Access.{Access}
use Rattle.emu_model.specs.State.{State}
use Rattle.emu_system.specs.Start.{with_input}
use Rattle.emu_run.specs.Step.{step}
use Rattle.emu_machine.specs.Ends.{Becomes, is_undone}
use Rattle.emu_machine.specs.declared.ends.StepEnd.TheVariants as steps
use Rattle.dbg_model.specs.Session.{point_met}
use Rattle.dbg_core.specs.declared.ends.SessionEnd.TheVariants.{Done, ReadFault, WriteFault, ErrorsFault}
use Rattle.dbg_core.specs.Ends.{is_fault, end_of_put, end_of_step}
use Rattle.emu_machine.proofs.Composed.{leads_start}
use Rattle.emu_machine.proofs.Runs.{comes_step, going_is_no, not_going}
use Rattle.dbg_core.proofs.Sessions.{prints, ending_text}
use Rattle.dbg_core.proofs.Going.{go_at, at_over, go_spent, go_goes, go_stops, go_ends, go_breaks, whole_spent, whole_stops, whole_ends, spent_errors, stops_errors, ends_errors}
use Rattle.dbg_core.proofs.Leaving.{at_start, at_next, becomes_same, becomes_printed, leaves_line, leaves_step}
use Rattle.dbg_core.proofs.Obeying.{obeys_as, obeys_same, obeys_put, over_by, going_by, not_ended, still_going, fault_of_step, not_done, causes_as, causes_later, last_step, put_read, put_write, put_errs, no_read, no_errs, read_named, errors_named}
use Rattle.dbg_core.proofs.Putting.{errors_still, puts_same, spares_line, spares_step, with_next, with_start}
use Rattle.dbg_core.proofs.moves.go_to_point.Goals as goal

pub returns-then-ended : goal.returns-then-ended
returns-then-ended g c =
    let p = c.args.machine.now.parts in
    let put = c.put_ending.result in
    let is = c.end_of_put.ensures in
    record {
      obeys = obeys_as p p _ _ _ _ _ _ (go_at c.args.points.now c.args.budget) (end_of_put put) c.end_of_put.result is
          (obeys_same p p _ _ _ _ _ _ (prints ending_text) (go_at c.args.points.now c.args.budget) (end_of_put put)
          (λ input. sym (at_over c.args.points.now c.args.budget (with_input p input) (over_by c.args.machine.now c.requires (sym c.ended.ensures ∙ c.if-ended.true))))
          (obeys_put ending_text p (g.I.Source.left c.args.input.now) (g.O.Sink.held c.args.output.now) (g.O.Sink.held c.put_ending.new.sink) (g.E.Sink.held c.args.errors.now) put c.put_ending.ensures.bytes));
      leaves = leaves_line (go_at c.args.points.now c.args.budget) c.args.budget p c.args.machine.now (g.I.Source.left c.args.input.now) (g.I.Source.left c.args.input.now) put c.end_of_put.result is c.requires
          (becomes_same (prints ending_text) (go_at c.args.points.now c.args.budget) p p (g.I.Source.left c.args.input.now) (g.I.Source.left c.args.input.now) false
          (λ input. sym (at_over c.args.points.now c.args.budget (with_input p input) (over_by c.args.machine.now c.requires (sym c.ended.ensures ∙ c.if-ended.true))))
          (becomes_printed ending_text p (g.I.Source.left c.args.input.now)));
      spares = spares_line (go_at c.args.points.now c.args.budget) p c.args.machine.now (g.I.Source.left c.args.input.now) (g.I.Source.left c.args.input.now) (g.O.Sink.held c.args.output.now) (g.O.Sink.held c.put_ending.new.sink) (g.E.Sink.held c.args.errors.now) (g.E.Sink.held c.args.errors.now) put c.end_of_put.result is c.requires
          (puts_same (λ st. st.errors) (λ st. (go_at c.args.points.now c.args.budget st).errors) p (g.I.Source.left c.args.input.now) (g.E.Sink.held c.args.errors.now) (g.E.Sink.held c.args.errors.now)
          (λ input. ap (λ (s : State). s.errors) (sym (at_over c.args.points.now c.args.budget (with_input p input) (over_by c.args.machine.now c.requires (sym c.ended.ensures ∙ c.if-ended.true)))))
          (errors_still p (g.I.Source.left c.args.input.now) (g.E.Sink.held c.args.errors.now)));
      done = λ _. c.requires;
      read_cause = put_read put c.end_of_put.result is _ _ refl;
      write_cause = put_write put c.end_of_put.result is _ _ _ refl c.put_ending.ensures.cause;
      errors_cause = put_errs put c.end_of_put.result is _ _ refl;
      read_named = λ h. no_read put c.end_of_put.result is _ h;
      errors_named = λ h. no_errs put c.end_of_put.result is _ h;
    }

pub walk-init : goal.walk-init
walk-init g c = record {
  failed = c.requires;
  going = going_by c.args.machine.now (sym c.ended.ensures ∙ c.if-ended.false);
  leads = leads_start (go_at c.args.points.now c.args.budget) c.args.machine.now.parts (g.I.Source.left c.args.input.now) (g.O.Sink.held c.args.output.now) (g.E.Sink.held c.args.errors.now);
  came = at_start c.args.machine.now.parts (g.I.Source.left c.args.input.now);
  put = with_start c.args.machine.now.parts (g.I.Source.left c.args.input.now) (g.O.Sink.held c.args.output.now) (g.E.Sink.held c.args.errors.now);
  read = refl;
  write = refl;
  errors = refl;
}

pub step-requires-clause-going : goal.step-requires-clause-going
step-requires-clause-going g c = not_ended c.walk.machine c.walk.invariant.going c.walk.invariant.failed

pub walk-preserved : goal.walk-preserved
walk-preserved g c =
    let p = c.walk.machine.parts in
    let q = c.step.new.self.parts in
    let r = c.step.result in
    let counted = c.step.ensures.counted c.in-Going.is in
    let fine : is_undone r ≡ false = ap is_undone c.in-Going.is in
    let now = c.steps.ensures in
    let test = c.walk-test.true in
    let below : p.steps < c.args.budget = omega (arith, now, test) in
    record {
      failed = c.step.ensures.failed ∙ fine;
      going = still_going q.ended r (c.step.ensures.end fine) c.in-Going.is;
      leads = go_goes c.args.points.now c.args.budget c.args.machine.now.parts p q (g.I.Source.left c.args.input.now) (g.I.Source.left c.walk.input) (g.I.Source.left c.step.new.input)
          (g.O.Sink.held c.args.output.now) (g.O.Sink.held c.walk.output) (g.O.Sink.held c.step.new.output) (g.E.Sink.held c.args.errors.now) (g.E.Sink.held c.walk.errors) (g.E.Sink.held c.step.new.errors)
          c.walk.invariant.leads c.walk.invariant.going below counted
          (ap (λ (made : List Access). point_met c.args.points.now made q) (sym c.step.ensures.accesses) ∙ sym c.point_met.ensures ∙ c.in-None.is)
          (comes_step p q (g.I.Source.left c.walk.input) (g.I.Source.left c.step.new.input) (g.O.Sink.held c.walk.output) (g.O.Sink.held c.step.new.output) (g.E.Sink.held c.walk.errors) (g.E.Sink.held c.step.new.errors)
          (is_undone r) false fine c.step.ensures.state c.step.ensures.input c.step.ensures.output c.step.ensures.errors);
      came = at_next c.args.machine.now.parts p q (g.I.Source.left c.args.input.now) (g.I.Source.left c.walk.input) (g.I.Source.left c.step.new.input) c.walk.invariant.going
          (subst (λ (b : Bool). Becomes step p q (g.I.Source.left c.walk.input) (g.I.Source.left c.step.new.input) b) fine c.step.ensures.state) c.walk.invariant.came;
      put = with_next c.args.machine.now.parts p q (g.I.Source.left c.walk.input) (g.I.Source.left c.step.new.input) (g.O.Sink.held c.args.output.now) (g.O.Sink.held c.walk.output) (g.O.Sink.held c.step.new.output) (g.E.Sink.held c.args.errors.now) (g.E.Sink.held c.walk.errors) (g.E.Sink.held c.step.new.errors)
          (g.I.Source.left c.args.input.now) c.walk.invariant.going
          (comes_step p q (g.I.Source.left c.walk.input) (g.I.Source.left c.step.new.input) (g.O.Sink.held c.walk.output) (g.O.Sink.held c.step.new.output) (g.E.Sink.held c.walk.errors) (g.E.Sink.held c.step.new.errors)
          (is_undone r) false fine c.step.ensures.state c.step.ensures.input c.step.ensures.output c.step.ensures.errors)
          c.walk.invariant.put;
      read = c.step.ensures.read_cause.kept (going_is_no r steps.ReadFault (λ (h : steps.Going ≡ steps.ReadFault). cc) c.in-Going.is) ∙ c.walk.invariant.read;
      write = c.step.ensures.write_cause.kept (going_is_no r steps.WriteFault (λ (h : steps.Going ≡ steps.WriteFault). cc) c.in-Going.is) ∙ c.walk.invariant.write;
      errors = c.step.ensures.errors_cause.kept (going_is_no r steps.ErrorsFault (λ (h : steps.Going ≡ steps.ErrorsFault). cc) c.in-Going.is) ∙ c.walk.invariant.errors;
    }

pub returns-in-Some : goal.returns-in-Some
returns-in-Some g c =
    let p = c.walk.machine.parts in
    let q = c.step.new.self.parts in
    let r = c.step.result in
    let put = c.put_met.result in
    let is = c.end_of_put-in-Some.ensures in
    let fine : is_undone r ≡ false = ap is_undone c.in-Going.is in
    let now = c.steps.ensures in
    let test = c.walk-test.true in
    let below : p.steps < c.args.budget = omega (arith, now, test) in
    record {
      obeys = obeys_as c.args.machine.now.parts q _ _ _ _ _ _ (go_at c.args.points.now c.args.budget) (end_of_put put) c.end_of_put-in-Some.result is
          (go_stops c.args.points.now c.args.budget c.args.machine.now.parts p q (g.I.Source.left c.args.input.now) (g.I.Source.left c.walk.input) (g.I.Source.left c.step.new.input)
          (g.O.Sink.held c.args.output.now) (g.O.Sink.held c.walk.output) (g.O.Sink.held c.step.new.output) (g.E.Sink.held c.args.errors.now) (g.E.Sink.held c.walk.errors) (g.E.Sink.held c.step.new.errors)
          c.walk.invariant.leads c.walk.invariant.going below c.in-Some.stop (g.O.Sink.held c.put_met.new.sink) put
          (ap (λ (made : List Access). point_met c.args.points.now made q) (sym c.step.ensures.accesses) ∙ sym c.point_met.ensures ∙ c.in-Some.is)
          (comes_step p q (g.I.Source.left c.walk.input) (g.I.Source.left c.step.new.input) (g.O.Sink.held c.walk.output) (g.O.Sink.held c.step.new.output) (g.E.Sink.held c.walk.errors) (g.E.Sink.held c.step.new.errors)
          (is_undone r) false fine c.step.ensures.state c.step.ensures.input c.step.ensures.output c.step.ensures.errors)
          c.put_met.ensures.bytes);
      leaves = leaves_line (go_at c.args.points.now c.args.budget) c.args.budget c.args.machine.now.parts c.step.new.self (g.I.Source.left c.args.input.now) (g.I.Source.left c.step.new.input) put c.end_of_put-in-Some.result is
          (c.step.ensures.failed ∙ fine)
          (whole_stops c.args.points.now c.args.budget c.args.machine.now.parts p q (g.I.Source.left c.args.input.now) (g.I.Source.left c.walk.input) (g.I.Source.left c.step.new.input)
          (g.O.Sink.held c.args.output.now) (g.O.Sink.held c.walk.output) (g.O.Sink.held c.step.new.output) (g.E.Sink.held c.args.errors.now) (g.E.Sink.held c.walk.errors) (g.E.Sink.held c.step.new.errors)
          c.walk.invariant.leads c.walk.invariant.going below c.in-Some.stop
          (ap (λ (made : List Access). point_met c.args.points.now made q) (sym c.step.ensures.accesses) ∙ sym c.point_met.ensures ∙ c.in-Some.is)
          (comes_step p q (g.I.Source.left c.walk.input) (g.I.Source.left c.step.new.input) (g.O.Sink.held c.walk.output) (g.O.Sink.held c.step.new.output) (g.E.Sink.held c.walk.errors) (g.E.Sink.held c.step.new.errors)
          (is_undone r) false fine c.step.ensures.state c.step.ensures.input c.step.ensures.output c.step.ensures.errors));
      spares = spares_line (go_at c.args.points.now c.args.budget) c.args.machine.now.parts c.step.new.self (g.I.Source.left c.args.input.now) (g.I.Source.left c.step.new.input) (g.O.Sink.held c.args.output.now) (g.O.Sink.held c.put_met.new.sink) (g.E.Sink.held c.args.errors.now) (g.E.Sink.held c.step.new.errors) put c.end_of_put-in-Some.result is
          (c.step.ensures.failed ∙ fine)
          (stops_errors c.args.points.now c.args.budget c.args.machine.now.parts p q (g.I.Source.left c.args.input.now) (g.I.Source.left c.walk.input) (g.I.Source.left c.step.new.input)
          (g.O.Sink.held c.args.output.now) (g.O.Sink.held c.walk.output) (g.O.Sink.held c.step.new.output) (g.E.Sink.held c.args.errors.now) (g.E.Sink.held c.walk.errors) (g.E.Sink.held c.step.new.errors)
          c.walk.invariant.leads c.walk.invariant.going below c.in-Some.stop
          (ap (λ (made : List Access). point_met c.args.points.now made q) (sym c.step.ensures.accesses) ∙ sym c.point_met.ensures ∙ c.in-Some.is)
          (comes_step p q (g.I.Source.left c.walk.input) (g.I.Source.left c.step.new.input) (g.O.Sink.held c.walk.output) (g.O.Sink.held c.step.new.output) (g.E.Sink.held c.walk.errors) (g.E.Sink.held c.step.new.errors)
          (is_undone r) false fine c.step.ensures.state c.step.ensures.input c.step.ensures.output c.step.ensures.errors));
      done = λ _. c.step.ensures.failed ∙ fine;
      read_cause = put_read put c.end_of_put-in-Some.result is _ _ (c.step.ensures.read_cause.kept (going_is_no r steps.ReadFault (λ (h : steps.Going ≡ steps.ReadFault). cc) c.in-Going.is) ∙ c.walk.invariant.read);
      write_cause = put_write put c.end_of_put-in-Some.result is _ _ _ (c.step.ensures.write_cause.kept (going_is_no r steps.WriteFault (λ (h : steps.Going ≡ steps.WriteFault). cc) c.in-Going.is) ∙ c.walk.invariant.write) c.put_met.ensures.cause;
      errors_cause = put_errs put c.end_of_put-in-Some.result is _ _ (c.step.ensures.errors_cause.kept (going_is_no r steps.ErrorsFault (λ (h : steps.Going ≡ steps.ErrorsFault). cc) c.in-Going.is) ∙ c.walk.invariant.errors);
      read_named = λ h. no_read put c.end_of_put-in-Some.result is _ h;
      errors_named = λ h. no_errs put c.end_of_put-in-Some.result is _ h;
    }

pub returns-in-Done : goal.returns-in-Done
returns-in-Done g c =
    let p = c.walk.machine.parts in
    let q = c.step.new.self.parts in
    let r = c.step.result in
    let put = c.put_ending-in-Done.result in
    let is = c.end_of_put-in-Done.ensures in
    let over : end_of_step r ≡ Done = sym c.end_of_step.ensures ∙ c.in-Done.is in
    let fine : is_undone r ≡ false = fault_of_step r ∙ ap is_fault over in
    let now = c.steps.ensures in
    let test = c.walk-test.true in
    let below : p.steps < c.args.budget = omega (arith, now, test) in
    record {
      obeys = obeys_as c.args.machine.now.parts q _ _ _ _ _ _ (go_at c.args.points.now c.args.budget) (end_of_put put) c.end_of_put-in-Done.result is
          (go_ends c.args.points.now c.args.budget c.args.machine.now.parts p q (g.I.Source.left c.args.input.now) (g.I.Source.left c.walk.input) (g.I.Source.left c.step.new.input)
          (g.O.Sink.held c.args.output.now) (g.O.Sink.held c.walk.output) (g.O.Sink.held c.step.new.output) (g.E.Sink.held c.args.errors.now) (g.E.Sink.held c.walk.errors) (g.E.Sink.held c.step.new.errors)
          c.walk.invariant.leads c.walk.invariant.going below (g.O.Sink.held c.put_ending-in-Done.new.sink) put
          (not_going q.ended r (c.step.ensures.end fine) c.in_default.not-Going)
          (comes_step p q (g.I.Source.left c.walk.input) (g.I.Source.left c.step.new.input) (g.O.Sink.held c.walk.output) (g.O.Sink.held c.step.new.output) (g.E.Sink.held c.walk.errors) (g.E.Sink.held c.step.new.errors)
          (is_undone r) false fine c.step.ensures.state c.step.ensures.input c.step.ensures.output c.step.ensures.errors)
          c.put_ending-in-Done.ensures.bytes);
      leaves = leaves_line (go_at c.args.points.now c.args.budget) c.args.budget c.args.machine.now.parts c.step.new.self (g.I.Source.left c.args.input.now) (g.I.Source.left c.step.new.input) put c.end_of_put-in-Done.result is
          (c.step.ensures.failed ∙ fine)
          (whole_ends c.args.points.now c.args.budget c.args.machine.now.parts p q (g.I.Source.left c.args.input.now) (g.I.Source.left c.walk.input) (g.I.Source.left c.step.new.input)
          (g.O.Sink.held c.args.output.now) (g.O.Sink.held c.walk.output) (g.O.Sink.held c.step.new.output) (g.E.Sink.held c.args.errors.now) (g.E.Sink.held c.walk.errors) (g.E.Sink.held c.step.new.errors)
          c.walk.invariant.leads c.walk.invariant.going below
          (not_going q.ended r (c.step.ensures.end fine) c.in_default.not-Going)
          (comes_step p q (g.I.Source.left c.walk.input) (g.I.Source.left c.step.new.input) (g.O.Sink.held c.walk.output) (g.O.Sink.held c.step.new.output) (g.E.Sink.held c.walk.errors) (g.E.Sink.held c.step.new.errors)
          (is_undone r) false fine c.step.ensures.state c.step.ensures.input c.step.ensures.output c.step.ensures.errors));
      spares = spares_line (go_at c.args.points.now c.args.budget) c.args.machine.now.parts c.step.new.self (g.I.Source.left c.args.input.now) (g.I.Source.left c.step.new.input) (g.O.Sink.held c.args.output.now) (g.O.Sink.held c.put_ending-in-Done.new.sink) (g.E.Sink.held c.args.errors.now) (g.E.Sink.held c.step.new.errors) put c.end_of_put-in-Done.result is
          (c.step.ensures.failed ∙ fine)
          (ends_errors c.args.points.now c.args.budget c.args.machine.now.parts p q (g.I.Source.left c.args.input.now) (g.I.Source.left c.walk.input) (g.I.Source.left c.step.new.input)
          (g.O.Sink.held c.args.output.now) (g.O.Sink.held c.walk.output) (g.O.Sink.held c.step.new.output) (g.E.Sink.held c.args.errors.now) (g.E.Sink.held c.walk.errors) (g.E.Sink.held c.step.new.errors)
          c.walk.invariant.leads c.walk.invariant.going below
          (not_going q.ended r (c.step.ensures.end fine) c.in_default.not-Going)
          (comes_step p q (g.I.Source.left c.walk.input) (g.I.Source.left c.step.new.input) (g.O.Sink.held c.walk.output) (g.O.Sink.held c.step.new.output) (g.E.Sink.held c.walk.errors) (g.E.Sink.held c.step.new.errors)
          (is_undone r) false fine c.step.ensures.state c.step.ensures.input c.step.ensures.output c.step.ensures.errors));
      done = λ _. c.step.ensures.failed ∙ fine;
      read_cause = put_read put c.end_of_put-in-Done.result is _ _ (c.step.ensures.read_cause.kept (λ h. let e : Done ≡ ReadFault = sym over ∙ ap end_of_step h in cc) ∙ c.walk.invariant.read);
      write_cause = put_write put c.end_of_put-in-Done.result is _ _ _ (c.step.ensures.write_cause.kept (λ h. let e : Done ≡ WriteFault = sym over ∙ ap end_of_step h in cc) ∙ c.walk.invariant.write) c.put_ending-in-Done.ensures.cause;
      errors_cause = put_errs put c.end_of_put-in-Done.result is _ _ (c.step.ensures.errors_cause.kept (λ h. let e : Done ≡ ErrorsFault = sym over ∙ ap end_of_step h in cc) ∙ c.walk.invariant.errors);
      read_named = λ h. no_read put c.end_of_put-in-Done.result is _ h;
      errors_named = λ h. no_errs put c.end_of_put-in-Done.result is _ h;
    }

pub returns-in_default-end_of_step : goal.returns-in_default-end_of_step
returns-in_default-end_of_step g c =
    let p = c.walk.machine.parts in
    let q = c.step.new.self.parts in
    let r = c.step.result in
    let end = c.end_of_step.result in
    let is = c.end_of_step.ensures in
    let other = c.in_default-end_of_step.not-Done in
    let broken : is_undone r ≡ true = fault_of_step r ∙ ap is_fault (sym is) ∙ not_done end other in
    let now = c.steps.ensures in
    let test = c.walk-test.true in
    let below : p.steps < c.args.budget = omega (arith, now, test) in
    record {
      obeys = go_breaks c.args.points.now c.args.budget c.args.machine.now.parts p q (g.I.Source.left c.args.input.now) (g.I.Source.left c.walk.input) (g.I.Source.left c.step.new.input)
          (g.O.Sink.held c.args.output.now) (g.O.Sink.held c.walk.output) (g.O.Sink.held c.step.new.output) (g.E.Sink.held c.args.errors.now) (g.E.Sink.held c.walk.errors) (g.E.Sink.held c.step.new.errors)
          c.walk.invariant.leads c.walk.invariant.going below end other
          (comes_step p q (g.I.Source.left c.walk.input) (g.I.Source.left c.step.new.input) (g.O.Sink.held c.walk.output) (g.O.Sink.held c.step.new.output) (g.E.Sink.held c.walk.errors) (g.E.Sink.held c.step.new.errors)
          (is_undone r) true broken c.step.ensures.state c.step.ensures.input c.step.ensures.output c.step.ensures.errors);
      leaves = leaves_step (go_at c.args.points.now c.args.budget) c.args.budget c.args.machine.now.parts p c.step.new.self (g.I.Source.left c.args.input.now) (g.I.Source.left c.walk.input) (g.I.Source.left c.step.new.input)
          r end is broken c.step.ensures.failed c.walk.invariant.came c.step.ensures.kept c.step.ensures.unstored c.step.ensures.write_named below c.walk.invariant.going;
      spares = spares_step (go_at c.args.points.now c.args.budget) c.args.machine.now.parts p c.step.new.self (g.I.Source.left c.args.input.now) (g.I.Source.left c.walk.input) (g.I.Source.left c.step.new.input) (g.O.Sink.held c.args.output.now) (g.O.Sink.held c.walk.output) (g.O.Sink.held c.step.new.output) (g.E.Sink.held c.args.errors.now) (g.E.Sink.held c.walk.errors) (g.E.Sink.held c.step.new.errors)
          r end is broken c.step.ensures.failed c.walk.invariant.put c.step.ensures.kept (λ h. ap g.O.Sink.held (c.step.ensures.output_kept h)) (λ h. ap g.E.Sink.held (c.step.ensures.errors_kept h));
      done = λ h. absurd (other h);
      read_cause = causes_later _ _ _ _ c.walk.invariant.read (causes_as _ _ _ _ (λ h. is ∙ ap end_of_step h) (λ h. last_step r ReadFault (sym is ∙ h)) c.step.ensures.read_cause);
      write_cause = causes_later _ _ _ _ c.walk.invariant.write (causes_as _ _ _ _ (λ h. is ∙ ap end_of_step h) (λ h. last_step r WriteFault (sym is ∙ h)) c.step.ensures.write_cause);
      errors_cause = causes_later _ _ _ _ c.walk.invariant.errors (causes_as _ _ _ _ (λ h. is ∙ ap end_of_step h) (λ h. last_step r ErrorsFault (sym is ∙ h)) c.step.ensures.errors_cause);
      read_named = λ h. read_named r p q _ _ (sym is ∙ h) c.step.ensures.read_named c.step.ensures.kept;
      errors_named = λ h. errors_named r p q (sym is ∙ h) c.step.ensures.errors_named c.step.ensures.unstored;
    }

pub returns : goal.returns
returns g c =
    let p = c.walk.machine.parts in
    let put = c.put_ending-2.result in
    let is = c.end_of_put-2.ensures in
    let now = c.steps.ensures in
    let test = c.walk-test.false in
    let spent : c.args.budget ≤ p.steps = omega (arith, now, test) in
    record {
      obeys = obeys_as c.args.machine.now.parts p _ _ _ _ _ _ (go_at c.args.points.now c.args.budget) (end_of_put put) c.end_of_put-2.result is
          (go_spent c.args.points.now c.args.budget c.args.machine.now.parts p p (g.I.Source.left c.args.input.now) (g.I.Source.left c.walk.input) (g.I.Source.left c.walk.input)
          (g.O.Sink.held c.args.output.now) (g.O.Sink.held c.walk.output) (g.O.Sink.held c.walk.output) (g.E.Sink.held c.args.errors.now) (g.E.Sink.held c.walk.errors) (g.E.Sink.held c.walk.errors)
          c.walk.invariant.leads (g.O.Sink.held c.put_ending-2.new.sink) put spent c.put_ending-2.ensures.bytes);
      leaves = leaves_line (go_at c.args.points.now c.args.budget) c.args.budget c.args.machine.now.parts c.walk.machine (g.I.Source.left c.args.input.now) (g.I.Source.left c.walk.input) put c.end_of_put-2.result is c.walk.invariant.failed
          (whole_spent c.args.points.now c.args.budget c.args.machine.now.parts p p (g.I.Source.left c.args.input.now) (g.I.Source.left c.walk.input) (g.I.Source.left c.walk.input)
          (g.O.Sink.held c.args.output.now) (g.O.Sink.held c.walk.output) (g.O.Sink.held c.walk.output) (g.E.Sink.held c.args.errors.now) (g.E.Sink.held c.walk.errors) (g.E.Sink.held c.walk.errors)
          c.walk.invariant.leads spent);
      spares = spares_line (go_at c.args.points.now c.args.budget) c.args.machine.now.parts c.walk.machine (g.I.Source.left c.args.input.now) (g.I.Source.left c.walk.input) (g.O.Sink.held c.args.output.now) (g.O.Sink.held c.put_ending-2.new.sink) (g.E.Sink.held c.args.errors.now) (g.E.Sink.held c.walk.errors) put c.end_of_put-2.result is c.walk.invariant.failed
          (spent_errors c.args.points.now c.args.budget c.args.machine.now.parts p p (g.I.Source.left c.args.input.now) (g.I.Source.left c.walk.input) (g.I.Source.left c.walk.input)
          (g.O.Sink.held c.args.output.now) (g.O.Sink.held c.walk.output) (g.O.Sink.held c.walk.output) (g.E.Sink.held c.args.errors.now) (g.E.Sink.held c.walk.errors) (g.E.Sink.held c.walk.errors)
          c.walk.invariant.leads spent);
      done = λ _. c.walk.invariant.failed;
      read_cause = put_read put c.end_of_put-2.result is _ _ c.walk.invariant.read;
      write_cause = put_write put c.end_of_put-2.result is _ _ _ c.walk.invariant.write c.put_ending-2.ensures.cause;
      errors_cause = put_errs put c.end_of_put-2.result is _ _ c.walk.invariant.errors;
      read_named = λ h. no_read put c.end_of_put-2.result is _ h;
      errors_named = λ h. no_errs put c.end_of_put-2.result is _ h;
    }
