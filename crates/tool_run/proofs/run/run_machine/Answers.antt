use Rattle.std.proofs.Common.{◌≡◌, string_bytes, false, true, refl, sym, ap, ◌∙◌}
use Rattle.emu_model.specs.State.{Core}
use Rattle.command_lines.specs.declared.ending.Ending.TheVariants.{FileFault, ReadFault, WriteFault, ErrorsFault}
use Rattle.commands.specs.Promises.{is_failure}
use Rattle.commands.proofs.Causing.{run_fails, run_no_file, run_reads, run_writes}
use Rattle.commands.proofs.RunEnds.{broken_is}
use Rattle.tool_run.specs.Still.{is_unreported}
use Rattle.tool_run.specs.Stops.{alone_stop}
use Rattle.tool_run.proofs.Causes.{explained_exit, explained_other, explained_silent}
use Rattle.tool_run.proofs.Runs.{broken_run, ending_stopped, explained_meets, whole_run}
use Rattle.tool_run.proofs.Still.{failed_stopped, run_reported, stopped_report, untouched}
use Rattle.tool_run.proofs.Stopping.{told_run}
use Rattle.tool_run.proofs.run.run_machine.Goals as goal

pub returns-then-is_failure-clause-outcome : goal.returns-then-is_failure-clause-outcome
returns-then-is_failure-clause-outcome g c =
    broken_run c.args.machine.now.parts c.run-end.new.self.parts c.args.budget c.run-end.result c.pc.result _ _ _ _ _
    _ c.silent.result.ending (c.silent.ensures.ending ∙ c.ending_of_run-ending.ensures)
    (ap is_failure c.silent.ensures.ending ∙ sym c.is_failure.ensures ∙ c.if-is_failure.true) c.run-end.ensures.input
    c.run-end.ensures.output c.run-end.ensures.errors

pub returns-then-is_failure-clause-exit : goal.returns-then-is_failure-clause-exit
returns-then-is_failure-clause-exit g c = λ code is. c.silent.ensures.said

pub returns-then-is_failure-clause-stopped : goal.returns-then-is_failure-clause-stopped
returns-then-is_failure-clause-stopped g c = failed_stopped (g.I.Source.left c.args.input.now) _
    c.silent.result.ending (ap is_failure c.silent.ensures.ending ∙ sym c.is_failure.ensures ∙ c.if-is_failure.true)

pub returns-then-is_failure-clause-caused : goal.returns-then-is_failure-clause-caused
returns-then-is_failure-clause-caused g c = record {
  read = λ e. c.run-end.ensures.read_cause.rose (run_reads c.run-end.result c.pc.result (sym
      c.ending_of_run-ending.ensures ∙ sym c.silent.ensures.ending ∙ e));
  write = λ e. c.run-end.ensures.write_cause.rose (run_writes c.run-end.result c.pc.result (sym
      c.ending_of_run-ending.ensures ∙ sym c.silent.ensures.ending ∙ e));
  errors = λ e. c.run-end.ensures.errors_cause.rose (run_fails c.run-end.result c.pc.result (sym
      c.ending_of_run-ending.ensures ∙ sym c.silent.ensures.ending ∙ e));
  later = c.run-end.ensures.errors_cause.later;
  registers = λ e. absurd (let t : false ≡ true = sym c.silent.ensures.report ∙ e in cc);
}

pub returns-then-is_failure-clause-no_file : goal.returns-then-is_failure-clause-no_file
returns-then-is_failure-clause-no_file g c = λ e. run_no_file c.run-end.result c.pc.result (sym
    c.ending_of_run-ending.ensures ∙ sym c.silent.ensures.ending ∙ e)

pub returns-clause-outcome : goal.returns-clause-outcome
returns-clause-outcome g c =
    explained_meets _ _ c.said_of-said.result _ c.ending_of_run-ending.result c.with_explanation.result.ending _ _
    c.with_explanation.ensures.said c.with_explanation.ensures.wanting
    (whole_run c.args.machine.now.parts c.run-end.new.self.parts c.args.budget c.run-end.result c.pc.result _ _ _ _ _
    _ c.ending_of_run-ending.result c.ending_of_run-ending.ensures
    (sym c.is_failure.ensures ∙ c.if-is_failure.false) c.run-end.ensures.state c.run-end.ensures.output
    c.run-end.ensures.errors c.run-end.ensures.end (c.pc.ensures.value ∙ ap (λ (k : Core). k.pc) c.core.ensures))

pub returns-clause-exit : goal.returns-clause-exit
returns-clause-exit g c =
    explained_silent string_bytes c.said_of-said.result (alone_stop c.args.bytes.now c.args.segments.now
    c.run-end.new.self.parts) c.ending_of_run-ending.result c.with_explanation.result.ending _
    (λ t. explained_exit c.args.bytes.now c.args.segments.now c.run-end.new.self.parts t c.ending_of_run-ending.result
    (ending_stopped c.args.machine.now.parts c.run-end.new.self.parts c.args.budget c.run-end.result c.pc.result
    c.ending_of_run-ending.result c.ending_of_run-ending.ensures
    (sym c.is_failure.ensures ∙ c.if-is_failure.false) c.run-end.ensures.end (c.pc.ensures.value ∙ ap (λ (k : Core).
    k.pc) c.core.ensures)))
    c.said_of-said.ensures c.with_explanation.ensures.said c.with_explanation.ensures.wanting

pub returns-clause-stopped : goal.returns-clause-stopped
returns-clause-stopped g c =
    told_run _ string_bytes c.said_of-said.result c.args.bytes.now c.args.segments.now c.args.machine.now.parts
    c.run-end.new.self.parts c.args.budget (g.I.Source.left c.args.input.now) _ _ c.args.wanted
    c.put_wanted-failed.result c.with_explanation.result.report_failed _ _ c.ending_of_run-ending.result
    c.with_explanation.result.ending _
    (sym (broken_is c.run-end.result c.pc.result) ∙ ap is_failure (sym c.ending_of_run-ending.ensures) ∙ sym
    c.is_failure.ensures ∙ c.if-is_failure.false)
    c.run-end.ensures.state c.said_of-said.ensures c.with_explanation.ensures.said c.with_explanation.ensures.wanting
    c.with_explanation.ensures.report c.put_wanted-failed.ensures.bytes

pub returns-clause-caused : goal.returns-clause-caused
returns-clause-caused g c =
    let fine = sym c.is_failure.ensures ∙ c.if-is_failure.false in
    record {
      read = λ e. absurd (explained_other _ _ c.said_of-said.result c.ending_of_run-ending.result
          c.with_explanation.result.ending ReadFault c.with_explanation.ensures.said c.with_explanation.ensures.wanting
          fine refl (λ e. cc) e);
      write = λ e. absurd (explained_other _ _ c.said_of-said.result c.ending_of_run-ending.result
          c.with_explanation.result.ending WriteFault c.with_explanation.ensures.said
          c.with_explanation.ensures.wanting fine refl (λ e. cc) e);
      errors = λ e. absurd (explained_other _ _ c.said_of-said.result c.ending_of_run-ending.result
          c.with_explanation.result.ending ErrorsFault c.with_explanation.ensures.said
          c.with_explanation.ensures.wanting fine refl (λ e. cc) e);
      later = c.run-end.ensures.errors_cause.later;
      registers = λ e. c.put_wanted-failed.ensures.cause (sym c.with_explanation.ensures.report ∙ e);
    }

pub returns-clause-no_file : goal.returns-clause-no_file
returns-clause-no_file g c = explained_other _ _ c.said_of-said.result c.ending_of_run-ending.result
    c.with_explanation.result.ending FileFault c.with_explanation.ensures.said c.with_explanation.ensures.wanting (sym
    c.is_failure.ensures ∙ c.if-is_failure.false) refl (λ e. cc)

pub returns-then-is_failure-clause-kept : goal.returns-then-is_failure-clause-kept
returns-then-is_failure-clause-kept g c = untouched c.args.wanted c.silent.result.ending c.args.registers.now

pub returns-clause-kept : goal.returns-clause-kept
returns-clause-kept g c =
    let end = c.run-end.new.self.parts in
    let is = ending_stopped c.args.machine.now.parts end c.args.budget c.run-end.result c.pc.result
    c.ending_of_run-ending.result c.ending_of_run-ending.ensures (sym c.is_failure.ensures ∙ c.if-is_failure.false)
    c.run-end.ensures.end (c.pc.ensures.value ∙ ap (λ (k : Core). k.pc) c.core.ensures) in
    stopped_report _ _ c.said_of-said.result c.args.wanted c.ending_of_run-ending.result
    c.with_explanation.result.ending _ c.with_explanation.ensures.said c.with_explanation.ensures.wanting
    (ap is_unreported is ∙ run_reported end end.ended) c.put_wanted-failed.ensures.unwanted
