use Rattle.std.proofs.Common.{sym, ap, ◌∙◌, ◌≡◌, true, refl, subst, Some}
use Rattle.emu_model.specs.State.{Core}
use Rattle.commands.proofs.Meetings.{broken_run, reported_run}
use Rattle.commands.proofs.MayEnd.{kind_put, kind_run}
use Rattle.commands.specs.Lines.{ends_run}
use Rattle.command_lines.specs.declared.ending.Ending.{Ending}
use Rattle.emu_machine.specs.declared.ends.RunEnd.{RunEnd}
use Rattle.command_lines.specs.declared.ending.Ending.TheVariants.{FileFault, ReadFault, WriteFault, ErrorsFault, OutOfMemory}
use Rattle.commands.specs.Endings.{ending_by}
use Rattle.commands.proofs.Causing.{cause_as, cause_behind, cause_of_none, ended_cause, ended_other, not_failed, run_fails, run_no_file, run_no_memory, run_reads, run_writes}
use Rattle.emu_run.specs.Run.{run}
use Rattle.emu_system.specs.Start.{with_input}
use Rattle.command_lines.specs.Outcome.{outcome_of_run}
use Rattle.commands.specs.Whole.{InRun}
use Rattle.commands.proofs.Keeping.{keeps_ended, puts_whole, run_keeps}
use Rattle.commands.proofs.run.run_machine.Goals as goal

pub returns-then-is_failure-clause-outcome : goal.returns-then-is_failure-clause-outcome
returns-then-is_failure-clause-outcome g c =
    broken_run c.args.machine.now.parts c.run-end.new.self.parts c.args.budget c.run-end.result c.pc.result _ _ _ _ _ _ c.ending_of_run-ending.result c.ending_of_run-ending.ensures
    (sym c.is_failure.ensures ∙ c.if-is_failure.true) c.run-end.ensures.input c.run-end.ensures.output c.run-end.ensures.errors

pub returns-clause-outcome : goal.returns-clause-outcome
returns-clause-outcome g c =
    reported_run c.args.machine.now.parts c.run-end.new.self.parts c.args.budget c.run-end.result c.pc.result _ _ _ _ _ _ _ c.ending_of_run-ending.result c.ending_after_line.result c.put_report.result c.ending_of_run-ending.ensures
    (sym c.is_failure.ensures ∙ c.if-is_failure.false) c.run-end.ensures.state c.run-end.ensures.output c.run-end.ensures.errors
    c.run-end.ensures.end (c.pc.ensures.value ∙ ap (λ (k : Core). k.pc) c.core.ensures) c.put_report.ensures.bytes c.ending_after_line.ensures

pub returns-then-is_failure-clause-kind : goal.returns-then-is_failure-clause-kind
returns-then-is_failure-clause-kind g c = subst (λ (x : Ending). ends_run x ≡ true) (sym c.ending_of_run-ending.ensures) (kind_run c.run-end.result c.pc.result)

pub returns-clause-kind : goal.returns-clause-kind
returns-clause-kind g c =
    subst (λ (x : Ending). ends_run x ≡ true) (sym c.ending_after_line.ensures)
    (kind_put ends_run c.put_report.result c.ending_of_run-ending.result refl (subst (λ (x : Ending). ends_run x ≡ true) (sym c.ending_of_run-ending.ensures) (kind_run c.run-end.result c.pc.result)))

pub returns-then-is_failure-clause-read_cause : goal.returns-then-is_failure-clause-read_cause
returns-then-is_failure-clause-read_cause g c = cause_as _ _ (λ e. run_reads c.run-end.result c.pc.result (sym c.ending_of_run-ending.ensures ∙ e)) (λ e. c.ending_of_run-ending.ensures ∙ ap (λ (r : RunEnd). ending_by r c.pc.result) e) c.run-end.ensures.read_cause

pub returns-then-is_failure-clause-write_cause : goal.returns-then-is_failure-clause-write_cause
returns-then-is_failure-clause-write_cause g c = cause_as _ _ (λ e. run_writes c.run-end.result c.pc.result (sym c.ending_of_run-ending.ensures ∙ e)) (λ e. c.ending_of_run-ending.ensures ∙ ap (λ (r : RunEnd). ending_by r c.pc.result) e) c.run-end.ensures.write_cause

pub returns-then-is_failure-clause-errors_cause : goal.returns-then-is_failure-clause-errors_cause
returns-then-is_failure-clause-errors_cause g c = cause_as _ _ (λ e. run_fails c.run-end.result c.pc.result (sym c.ending_of_run-ending.ensures ∙ e)) (λ e. c.ending_of_run-ending.ensures ∙ ap (λ (r : RunEnd). ending_by r c.pc.result) e) c.run-end.ensures.errors_cause

pub returns-then-is_failure-clause-no_file : goal.returns-then-is_failure-clause-no_file
returns-then-is_failure-clause-no_file g c = λ e. run_no_file c.run-end.result c.pc.result (sym c.ending_of_run-ending.ensures ∙ e)

pub returns-then-is_failure-clause-no_memory : goal.returns-then-is_failure-clause-no_memory
returns-then-is_failure-clause-no_memory g c = λ e. run_no_memory c.run-end.result c.pc.result (sym c.ending_of_run-ending.ensures ∙ e)

pub returns-clause-read_cause : goal.returns-clause-read_cause
returns-clause-read_cause g c = cause_of_none _ _ (λ e. not_failed c.ending_of_run-ending.result ReadFault (sym c.is_failure.ensures ∙ c.if-is_failure.false) refl (c.ending_of_run-ending.ensures ∙ ap (λ (r : RunEnd). ending_by r c.pc.result) e)) (ended_other c.put_report.result c.ending_of_run-ending.result c.ending_after_line.result ReadFault c.ending_after_line.ensures (λ e. cc) (not_failed c.ending_of_run-ending.result ReadFault (sym c.is_failure.ensures ∙ c.if-is_failure.false) refl)) c.run-end.ensures.read_cause

pub returns-clause-write_cause : goal.returns-clause-write_cause
returns-clause-write_cause g c = cause_of_none _ _ (λ e. not_failed c.ending_of_run-ending.result WriteFault (sym c.is_failure.ensures ∙ c.if-is_failure.false) refl (c.ending_of_run-ending.ensures ∙ ap (λ (r : RunEnd). ending_by r c.pc.result) e)) (ended_other c.put_report.result c.ending_of_run-ending.result c.ending_after_line.result WriteFault c.ending_after_line.ensures (λ e. cc) (not_failed c.ending_of_run-ending.result WriteFault (sym c.is_failure.ensures ∙ c.if-is_failure.false) refl)) c.run-end.ensures.write_cause

pub returns-clause-errors_cause : goal.returns-clause-errors_cause
returns-clause-errors_cause g c = cause_behind _ _ _ (λ e. not_failed c.ending_of_run-ending.result ErrorsFault (sym c.is_failure.ensures ∙ c.if-is_failure.false) refl (c.ending_of_run-ending.ensures ∙ ap (λ (r : RunEnd). ending_by r c.pc.result) e)) c.run-end.ensures.errors_cause (ended_cause _ _ c.put_report.result c.ending_of_run-ending.result c.ending_after_line.result c.ending_after_line.ensures (not_failed c.ending_of_run-ending.result ErrorsFault (sym c.is_failure.ensures ∙ c.if-is_failure.false) refl) c.put_report.ensures.cause)

pub returns-clause-no_file : goal.returns-clause-no_file
returns-clause-no_file g c = ended_other c.put_report.result c.ending_of_run-ending.result c.ending_after_line.result FileFault c.ending_after_line.ensures (λ e. cc) (not_failed c.ending_of_run-ending.result FileFault (sym c.is_failure.ensures ∙ c.if-is_failure.false) refl)

pub returns-clause-no_memory : goal.returns-clause-no_memory
returns-clause-no_memory g c = ended_other c.put_report.result c.ending_of_run-ending.result c.ending_after_line.result OutOfMemory c.ending_after_line.ensures (λ e. cc) (not_failed c.ending_of_run-ending.result OutOfMemory (sym c.is_failure.ensures ∙ c.if-is_failure.false) refl)

pub returns-then-is_failure-clause-whole : goal.returns-then-is_failure-clause-whole
returns-then-is_failure-clause-whole g c =
    run_keeps c.args.machine.now.parts c.run-end.new.self.parts c.args.budget c.run-end.result c.pc.result c.ending_of_run-ending.result (g.I.Source.left c.run-end.new.input) (g.O.Sink.held c.args.output.now) (g.O.Sink.held c.run-end.new.output) (g.E.Sink.held c.args.errors.now) (g.E.Sink.held c.run-end.new.errors) c.ending_of_run-ending.ensures
    c.run-end.ensures.unended c.run-end.ensures.unspent c.run-end.ensures.read_named c.run-end.ensures.write_named c.run-end.ensures.errors_named (λ i. Some (outcome_of_run i (run (with_input c.args.machine.now.parts i) c.args.budget))) (g.I.Source.left c.args.input.now) c.run-end.ensures.kept c.run-end.ensures.whole_output c.run-end.ensures.whole_errors

pub returns-clause-whole : goal.returns-clause-whole
returns-clause-whole g c =
    keeps_ended (InRun c.args.machine.now.parts c.args.budget c.ending_after_line.result (g.I.Source.left c.run-end.new.input)) (λ i. Some (outcome_of_run i (run (with_input c.args.machine.now.parts i) c.args.budget))) (g.O.Sink.held c.args.output.now) (g.O.Sink.held c.run-end.new.output) (g.E.Sink.held c.args.errors.now) _ c.put_report.result c.ending_of_run-ending.result c.ending_after_line.result (g.I.Source.left c.args.input.now) c.ending_after_line.ensures
    (not_failed c.ending_of_run-ending.result ReadFault (sym c.is_failure.ensures ∙ c.if-is_failure.false) refl)
    (not_failed c.ending_of_run-ending.result WriteFault (sym c.is_failure.ensures ∙ c.if-is_failure.false) refl)
    (puts_whole c.args.machine.now.parts c.args.budget c.run-end.result c.pc.result c.ending_of_run-ending.result c.ending_of_run-ending.ensures (sym c.is_failure.ensures ∙ c.if-is_failure.false) (g.I.Source.left c.args.input.now) (g.O.Sink.held c.args.output.now) (g.O.Sink.held c.run-end.new.output) c.run-end.ensures.output)
