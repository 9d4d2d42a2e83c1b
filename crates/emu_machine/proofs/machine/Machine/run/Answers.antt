use Rattle.std.proofs.Common.{◌≡◌, ◌<◌, ◌+◌, List, IfSome, is_none, refl, ap, sym, subst, ◌∙◌, arith, true, false}
use Rattle.emu_model.specs.declared.access.Access.{Access}
use Rattle.emu_model.specs.State.{Parts}
use Rattle.emu_run.specs.Step.{accesses, step}
use Rattle.emu_machine.specs.Accesses.{run_accesses}
use Rattle.emu_machine.specs.declared.ends.StepEnd.TheVariants.{Going, ReadFault, WriteFault, ErrorsFault}
use Rattle.emu_machine.specs.Ends.{IsKept, is_undone, is_unput, is_broken_off, run_end_of, step_end}
use Rattle.emu_machine.specs.Machines.{MakesWrite}
use Rattle.emu_machine.proofs.Logs.{Logs, logs_start, logs_on, logs_end, logs_as, logs_spent}
use Rattle.emu_machine.proofs.Stands.{stands_start, stands_on, stands_there, kept_there}
use Rattle.emu_machine.proofs.Composed.{leads_start}
use Rattle.emu_machine.proofs.Runs.{Ran, broken_as, done_by_end, going_by, not_ended, run_counts, run_stops, run_spends, not_going, goes_on_after, ran_as, ran_when, end_as, failed_as, last_step, going_is_no, causes_from, ran_step, still_reads}
use Rattle.emu_machine.proofs.Spared.{any_counts, any_start, errors_fault, errors_undone, errors_whole, no_errors_fault, no_output_fault, output_fault, output_undone, output_whole}
use Rattle.emu_machine.proofs.Advanced.{causes_not, last_logs, last_ran, leads_ahead, logs_ahead, none_broken, not_both, spent_logs, spent_ran, stands_ahead}
use Rattle.emu_machine.proofs.machine.Machine.run.Goals as goal

pub loop-self-init : goal.loop-self-init
loop-self-init g c = record {
  going = c.requires.going;
  within = c.requires.within;
  leads = leads_start _ _ _ _ _;
  logs = logs_start _ _ _ _;
  stands = stands_start _ _;
  any = any_start _ _ _ _;
  marks = refl;
  saved = refl;
  read = refl;
  write = refl;
  errors = refl;
}

pub loop-self-preserved : goal.loop-self-preserved
loop-self-preserved g c =
    let asks = c.in-AtCall.ensures.steps in
    let p = c.advance.new.self.parts in
    let below : p.steps < c.args.budget = asks.below in
    let ahead = asks.ahead in
    let leads = leads_ahead c.args.budget c.args.self.now.parts c.loop-self.self.parts p c.args.self.now.accesses c.loop-self.self.accesses asks.log ahead _ _ _ _ _ _ (omega (arith, below)) c.loop-self.invariant.leads in
    let logs = logs_ahead c.args.budget c.args.self.now.parts c.loop-self.self.parts p c.args.self.now.accesses c.loop-self.self.accesses asks.log ahead _ _ (omega (arith, below)) c.loop-self.invariant.logs in
    let stands = stands_ahead c.args.budget c.args.self.now.parts c.loop-self.self.parts p c.args.self.now.accesses c.loop-self.self.accesses asks.log ahead _ _ c.loop-self.invariant.stands in
    let counted : c.step.new.self.parts.steps ≡ p.steps + 1 = c.step.ensures.counted c.in-Going.is in
    let q = c.step.new.self.parts in
    let stepped : Ran step p q (g.I.Source.left c.loop-self.input) (g.I.Source.left c.step.new.input) (g.O.Sink.held c.loop-self.output) (g.O.Sink.held c.step.new.output) (g.E.Sink.held c.loop-self.errors) (g.E.Sink.held c.step.new.errors) (is_undone c.step.result)
    = ran_step _ _ _ _ _ _ _ _ _ c.step.ensures.state c.step.ensures.input c.step.ensures.output c.step.ensures.errors in
    record {
      going = goes_on_after c.step.new.self c.step.result c.in-Going.is (c.step.ensures.end (ap is_undone c.in-Going.is)) c.step.ensures.failed;
      within = omega (arith, counted, below);
      leads = run_counts c.args.budget _ p q _ _ _ _ _ _ _ _ _ leads ahead.goes below counted
          (ran_when _ _ _ _ _ _ _ _ _ _ _ (ap is_undone c.in-Going.is) stepped);
      logs = subst (λ (log : List Access). Logs c.args.budget c.args.self.now.accesses c.args.self.now.parts (g.I.Source.left c.args.input.now) log q (g.I.Source.left c.step.new.input)) {x = accesses c.advance.new.self.parts} (sym c.step.ensures.accesses)
          (logs_on c.args.budget _ _ _ p _ _ _ _ _ q _ _ _ ahead.goes below _ leads
          (ran_when _ _ _ _ _ _ _ _ _ _ _ (ap is_undone c.in-Going.is) stepped) logs counted);
      stands = stands_on c.args.budget _ p _ _ _ _ _ q _ _ _ _ leads
          (ran_when _ _ _ _ _ _ _ _ _ _ _ (ap is_undone c.in-Going.is) stepped) ahead.goes counted stands;
      any = any_counts _ _ p _ _ ahead _ _ _ _ _ _ c.loop-self.invariant.any q _ _ _ counted (ran_when _ _ _ _ _ _ _ _ _ _ _ (ap is_undone c.in-Going.is) stepped);
      marks = c.step.ensures.marks ∙ c.advance.ensures.marks ∙ c.loop-self.invariant.marks;
      saved = c.step.ensures.saved ∙ c.advance.ensures.saved ∙ c.loop-self.invariant.saved;
      read = c.step.ensures.read_cause.kept (going_is_no c.step.result ReadFault (λ (e : Going ≡ ReadFault). cc) c.in-Going.is) ∙ c.loop-self.invariant.read;
      write = c.step.ensures.write_cause.kept (going_is_no c.step.result WriteFault (λ (e : Going ≡ WriteFault). cc) c.in-Going.is) ∙ c.loop-self.invariant.write;
      errors = c.step.ensures.errors_cause.kept (going_is_no c.step.result ErrorsFault (λ (e : Going ≡ ErrorsFault). cc) c.in-Going.is) ∙ c.loop-self.invariant.errors;
    }

pub returns-in-GoesOn : goal.returns-in-GoesOn
returns-in-GoesOn g c =
    let q = c.advance.new.self in
    let d = c.in-GoesOn.ensures.steps in
    let r = spent_ran c.args.budget c.args.self.now.parts c.args.self.now.accesses c.loop-self.self q _ _ _ _ _ _ c.loop-self.invariant.leads d in
    record {
      state = r.state;
      input = r.input;
      output = r.output;
      errors = r.errors;
      end = λ _. going_by q.parts.ended d.ahead.goes;
      accesses = logs_as _ _ _ _ _ false false refl
          (λ _. spent_logs c.args.budget c.args.self.now.parts c.args.self.now.accesses c.loop-self.self q _ _ _ _ _ _ c.loop-self.invariant.leads c.loop-self.invariant.logs d);
      undone = λ h. not_both _ _ refl h;
      kept = none_broken _ _ _ refl;
      unspent = λ h. not_both _ _ refl h;
      unended = λ h. not_both _ _ refl h;
      spent = λ _. d.spent;
      failed = c.advance.ensures.failed;
      marks = c.advance.ensures.marks ∙ c.loop-self.invariant.marks;
      saved = c.advance.ensures.saved ∙ c.loop-self.invariant.saved;
      read_cause = causes_not _ _ _ c.loop-self.invariant.read (λ e. not_both _ _ refl (ap is_broken_off e));
      write_cause = causes_not _ _ _ c.loop-self.invariant.write (λ e. not_both _ _ refl (ap is_broken_off e));
      errors_cause = causes_not _ _ _ c.loop-self.invariant.errors (λ e. not_both _ _ refl (ap is_broken_off e));
      read_named = λ h. not_both _ _ refl (ap is_broken_off h);
      write_named = λ h. not_both _ _ refl (ap is_broken_off h);
      errors_named = λ h. not_both _ _ refl (ap is_broken_off h);
      whole_output = no_output_fault _ _ refl;
      whole_errors = no_errors_fault _ _ refl;
    }

pub returns-in-Trapped : goal.returns-in-Trapped
returns-in-Trapped g c =
    let q = c.advance.new.self in
    let end = c.step_end.result in
    let d = c.in-Trapped.ensures.steps in
    let ended : end ≡ step_end q.parts.ended = c.step_end.ensures ∙ ap step_end c.ending.ensures in
    let whole : is_broken_off c.run_end_of.result ≡ false = ap is_broken_off c.run_end_of.ensures ∙ sym (broken_as end) ∙ ap is_undone ended ∙ done_by_end q.parts.ended in
    let r = ran_when _ _ _ _ _ _ _ _ _ _ _ (sym whole)
    (last_ran c.args.budget c.args.self.now.parts c.args.self.now.accesses c.loop-self.self q _ _ _ _ _ _ c.loop-self.invariant.leads d) in
    record {
      state = r.state;
      input = r.input;
      output = r.output;
      errors = r.errors;
      end = end_as end c.run_end_of.result q.parts.ended c.run_end_of.ensures (λ _. ended);
      accesses = logs_as _ _ _ _ _ _ _ (sym whole)
          (λ _. last_logs c.args.budget c.args.self.now.parts c.args.self.now.accesses c.loop-self.self q _ _ _ _ _ _ c.loop-self.invariant.leads c.loop-self.invariant.logs d);
      undone = λ h. not_both _ _ whole h;
      kept = none_broken _ _ _ whole;
      unspent = λ h. not_both _ _ whole h;
      unended = λ h. not_both _ _ whole h;
      spent = λ h. not_ended _ q.parts.ended (sym (last_step end c.run_end_of.result _ c.run_end_of.ensures h) ∙ ended) d.ended;
      failed = c.advance.ensures.failed ∙ sym whole;
      marks = c.advance.ensures.marks ∙ c.loop-self.invariant.marks;
      saved = c.advance.ensures.saved ∙ c.loop-self.invariant.saved;
      read_cause = causes_not _ _ _ c.loop-self.invariant.read (λ e. not_both _ _ whole (ap is_broken_off e));
      write_cause = causes_not _ _ _ c.loop-self.invariant.write (λ e. not_both _ _ whole (ap is_broken_off e));
      errors_cause = causes_not _ _ _ c.loop-self.invariant.errors (λ e. not_both _ _ whole (ap is_broken_off e));
      read_named = λ h. not_both _ _ whole (ap is_broken_off h);
      write_named = λ h. not_both _ _ whole (ap is_broken_off h);
      errors_named = λ h. not_both _ _ whole (ap is_broken_off h);
      whole_output = no_output_fault _ _ whole;
      whole_errors = no_errors_fault _ _ whole;
    }

pub returns-in_default : goal.returns-in_default
returns-in_default g c =
    let asks = c.in-AtCall.ensures.steps in
    let p = c.advance.new.self.parts in
    let below : p.steps < c.args.budget = asks.below in
    let ahead = asks.ahead in
    let leads = leads_ahead c.args.budget c.args.self.now.parts c.loop-self.self.parts p c.args.self.now.accesses c.loop-self.self.accesses asks.log ahead _ _ _ _ _ _ (omega (arith, below)) c.loop-self.invariant.leads in
    let logs = logs_ahead c.args.budget c.args.self.now.parts c.loop-self.self.parts p c.args.self.now.accesses c.loop-self.self.accesses asks.log ahead _ _ (omega (arith, below)) c.loop-self.invariant.logs in
    let stands = stands_ahead c.args.budget c.args.self.now.parts c.loop-self.self.parts p c.args.self.now.accesses c.loop-self.self.accesses asks.log ahead _ _ c.loop-self.invariant.stands in
    let q = c.step.new.self.parts in
    let stepped : Ran step p q (g.I.Source.left c.loop-self.input) (g.I.Source.left c.step.new.input) (g.O.Sink.held c.loop-self.output) (g.O.Sink.held c.step.new.output) (g.E.Sink.held c.loop-self.errors) (g.E.Sink.held c.step.new.errors) (is_undone c.step.result)
    = ran_step _ _ _ _ _ _ _ _ _ c.step.ensures.state c.step.ensures.input c.step.ensures.output c.step.ensures.errors in
    let r = ran_as _ _ _ _ _ _ _ _ _ c.step.result c.run_end_of-in_default.result c.run_end_of-in_default.ensures
    (run_stops c.args.budget c.args.self.now.parts p q _ _ _ _ _ _ _ _ _ leads ahead.goes below
    (is_undone c.step.result) stepped
    (λ (fine : is_undone c.step.result ≡ false). not_going q.ended c.step.result (c.step.ensures.end fine) c.in_default.not-Going)) in
    let undone : is_broken_off c.run_end_of-in_default.result ≡ true → is_undone c.step.result ≡ true = λ h. broken_as c.step.result ∙ ap is_broken_off (sym c.run_end_of-in_default.ensures) ∙ h in
    let kept : is_broken_off c.run_end_of-in_default.result ≡ true → IsKept p q (g.I.Source.left c.loop-self.input) (g.I.Source.left c.step.new.input) = λ h. c.step.ensures.kept (undone h) in
    record {
      state = r.state;
      input = r.input;
      output = r.output;
      errors = r.errors;
      end = end_as c.step.result c.run_end_of-in_default.result q.ended c.run_end_of-in_default.ensures c.step.ensures.end;
      accesses = logs_as _ _ _ _ _ _ _ (broken_as c.step.result ∙ ap is_broken_off (sym c.run_end_of-in_default.ensures))
          (λ (fine : is_undone c.step.result ≡ false). subst (λ (log : List Access). IfSome (g.I.Source.left c.args.input.now) (λ bytes. log ≡ run_accesses c.args.self.now.accesses c.args.self.now.parts bytes c.args.budget)) {x = accesses c.advance.new.self.parts} (sym c.step.ensures.accesses)
          (logs_end c.args.budget _ _ _ p _ _ _ _ _ q _ _ _ ahead.goes below _ leads
          (ran_when _ _ _ _ _ _ _ _ _ _ _ fine stepped) logs (not_going q.ended c.step.result (c.step.ensures.end fine) c.in_default.not-Going)));
      undone = λ h. c.step.ensures.undone (undone h);
      kept = kept_there _ p q _ _ _ _ kept (stands_there c.args.budget _ p _ _ _ _ _ _ leads stands);
      unspent = λ h. let same = ap (λ (m : Parts). m.steps) (kept h).is in omega (arith, same, below);
      unended = λ h. ap (λ (m : Parts). is_none m.ended) (kept h).is ∙ ahead.goes;
      spent = λ h. absurd (c.in_default.not-Going (last_step c.step.result c.run_end_of-in_default.result _ c.run_end_of-in_default.ensures h));
      marks = c.step.ensures.marks ∙ c.advance.ensures.marks ∙ c.loop-self.invariant.marks;
      saved = c.step.ensures.saved ∙ c.advance.ensures.saved ∙ c.loop-self.invariant.saved;
      failed = failed_as c.step.result c.run_end_of-in_default.result c.step.new.self.failed c.run_end_of-in_default.ensures c.step.ensures.failed;
      read_cause = causes_from _ _ _ _ _ c.loop-self.invariant.read c.step.ensures.read_cause (last_step c.step.result c.run_end_of-in_default.result _ c.run_end_of-in_default.ensures) (λ (e : c.step.result ≡ ReadFault). c.run_end_of-in_default.ensures ∙ ap run_end_of e);
      write_cause = causes_from _ _ _ _ _ c.loop-self.invariant.write c.step.ensures.write_cause (last_step c.step.result c.run_end_of-in_default.result _ c.run_end_of-in_default.ensures) (λ (e : c.step.result ≡ WriteFault). c.run_end_of-in_default.ensures ∙ ap run_end_of e);
      errors_cause = causes_from _ _ _ _ _ c.loop-self.invariant.errors c.step.ensures.errors_cause (last_step c.step.result c.run_end_of-in_default.result _ c.run_end_of-in_default.ensures) (λ (e : c.step.result ≡ ErrorsFault). c.run_end_of-in_default.ensures ∙ ap run_end_of e);
      read_named = λ h. let r = last_step c.step.result c.run_end_of-in_default.result _ c.run_end_of-in_default.ensures h in
          still_reads p q (g.I.Source.left c.loop-self.input) (g.I.Source.left c.step.new.input) (c.step.ensures.kept (ap is_undone r)) (c.step.ensures.read_named r).names;
      write_named = λ h. let r = last_step c.step.result c.run_end_of-in_default.result _ c.run_end_of-in_default.ensures h in
          subst (λ (m : Parts). MakesWrite m 1) {x = c.advance.new.self.parts} (sym (c.step.ensures.unstored (ap is_unput r))) (c.step.ensures.write_named r);
      errors_named = λ h. let r = last_step c.step.result c.run_end_of-in_default.result _ c.run_end_of-in_default.ensures h in
          subst (λ (m : Parts). MakesWrite m 2) {x = c.advance.new.self.parts} (sym (c.step.ensures.unstored (ap is_unput r))) (c.step.ensures.errors_named r);
      whole_output = λ h.
          let fault = output_fault c.step.result c.run_end_of-in_default.result c.run_end_of-in_default.ensures h in
          let same : q.steps ≡ p.steps = ap (λ (m : Parts). m.steps) (c.step.ensures.kept (output_undone c.step.result fault)).is in
          output_whole _ _ p _ _ ahead _ _ _ _ _ _ c.loop-self.invariant.any q same _ (ap g.O.Sink.held (c.step.ensures.output_kept fault));
      whole_errors = λ h.
          let fault = errors_fault c.step.result c.run_end_of-in_default.result c.run_end_of-in_default.ensures h in
          let same : q.steps ≡ p.steps = ap (λ (m : Parts). m.steps) (c.step.ensures.kept (errors_undone c.step.result fault)).is in
          errors_whole _ _ p _ _ ahead _ _ _ _ _ _ c.loop-self.invariant.any q same _ (ap g.E.Sink.held (c.step.ensures.errors_kept fault));
    }

pub returns-clause-state : goal.returns-clause-state
returns-clause-state g c =
    let steps = c.steps.ensures in
    (run_spends c.args.budget c.args.self.now.parts c.loop-self.self.parts _ _ _ _ _ _ c.loop-self.invariant.leads (omega (arith, steps))).state

pub returns-clause-accesses : goal.returns-clause-accesses
returns-clause-accesses g c =
    let steps = c.steps.ensures in
    logs_as _ _ _ _ _ false false refl
    (λ _. logs_spent c.args.budget c.args.self.now.accesses c.loop-self.self.accesses c.args.self.now.parts c.loop-self.self.parts _ _ _ _ _ _ c.loop-self.invariant.leads c.loop-self.invariant.logs (omega (arith, steps)))

pub returns-clause-output : goal.returns-clause-output
returns-clause-output g c =
    let steps = c.steps.ensures in
    (run_spends c.args.budget c.args.self.now.parts c.loop-self.self.parts _ _ _ _ _ _ c.loop-self.invariant.leads (omega (arith, steps))).output

pub returns-clause-errors : goal.returns-clause-errors
returns-clause-errors g c =
    let steps = c.steps.ensures in
    (run_spends c.args.budget c.args.self.now.parts c.loop-self.self.parts _ _ _ _ _ _ c.loop-self.invariant.leads (omega (arith, steps))).errors
