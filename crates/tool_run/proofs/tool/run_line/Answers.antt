use Rattle.std.proofs.Common.{◌≡◌, ◌⊎◌, IfSome, Ok, map, string_bytes, refl, sym, subst, ap, ◌∙◌}
use Rattle.io_gate.specs.Streams.{Rose}
use Rattle.command_model.specs.declared.command_line.Line.{Line}
use Rattle.command_lines.specs.declared.ending.Ending.TheVariants as ends
use Rattle.commands.specs.Meets.{now, Meets}
use Rattle.commands.specs.Programs.{outcome_over, run_line_of, threads_line_of}
use Rattle.commands.specs.Promises.{is_failure, NamesNoFile}
use Rattle.commands.specs.declared.program.Program.{Program}
use Rattle.tool_run.specs.Stops.{IsTold}
use Rattle.tool_run.specs.Unreported.{unreported_over}
use Rattle.tool_run.proofs.Causes.{is_other}
use Rattle.tool_run.proofs.Runs.{failed_line}
use Rattle.tool_run.proofs.Still.{still_caused, still_exit, still_line, untouched}
use Rattle.tool_run.proofs.Stopping.{as_line}
use Rattle.tool_run.proofs.tool.run_line.Goals as goal

pub returns-in-Run-clause-outcome : goal.returns-in-Run-clause-outcome
returns-in-Run-clause-outcome g c =
    let ws = map string_bytes c.args.words.now in
    subst (λ (l : Line). IfSome (g.F.Images.named c.args.files.now) (λ files. Meets (unreported_over ws l files)
    c.run_files.result.ending
    (now (g.I.Source.left c.args.input.now) (g.O.Sink.held c.args.output.now) (g.E.Sink.held c.args.errors.now)) (now
    (g.I.Source.left c.run_files.new.input) (g.O.Sink.held c.run_files.new.output) (g.E.Sink.held
    c.run_files.new.errors))))
    (sym (c.in-Run.is ∙ sym (ap run_line_of c.new-program.ensures))) c.run_files.ensures.outcome

pub returns-in-Run-clause-stopped : goal.returns-in-Run-clause-stopped
returns-in-Run-clause-stopped g c =
    as_line (λ stop. IsTold (string_bytes c.run_files.result.said) c.args.wanted c.run_files.result.report_failed
    (g.R.Sink.held c.args.registers.now) (g.R.Sink.held c.run_files.new.registers) stop) (map string_bytes
    c.args.words.now) (g.F.Images.named c.args.files.now) (g.I.Source.left
    c.args.input.now) c.run_files.result.ending (Ok (run_line_of c.new-program.result)) (Ok c.args.line.now)
    (ap (λ (l : Line). Ok l) (sym (c.in-Run.is ∙ sym (ap run_line_of c.new-program.ensures))))
    c.run_files.ensures.stopped

pub returns-in-Run-clause-file_cause : goal.returns-in-Run-clause-file_cause
returns-in-Run-clause-file_cause g c =
    subst (λ (l : Line). c.run_files.result.ending ≡ ends.FileFault → Rose (g.F.Images.faults c.args.files.now)
    (g.F.Images.faults c.run_files.new.files) ⊎ NamesNoFile (outcome_over (map string_bytes c.args.words.now) l)
    (g.F.Images.named c.args.files.now))
    (ap run_line_of c.new-program.ensures ∙ sym c.in-Run.is) c.run_files.ensures.file_cause

pub returns-in-Threads-clause-outcome : goal.returns-in-Threads-clause-outcome
returns-in-Threads-clause-outcome g c =
    let ws = map string_bytes c.args.words.now in
    subst (λ (l : Line). IfSome (g.F.Images.named c.args.files.now) (λ files. Meets (unreported_over ws l files)
    c.run_files-in-Threads.result.ending
    (now (g.I.Source.left c.args.input.now) (g.O.Sink.held c.args.output.now) (g.E.Sink.held c.args.errors.now)) (now
    (g.I.Source.left c.run_files-in-Threads.new.input) (g.O.Sink.held c.run_files-in-Threads.new.output) (g.E.Sink.held
    c.run_files-in-Threads.new.errors))))
    (ap (λ (p : Program). threads_line_of p c.in-Threads.schedule) c.new-threaded.ensures ∙ sym c.in-Threads.is)
    c.run_files-in-Threads.ensures.outcome

pub returns-in-Threads-clause-stopped : goal.returns-in-Threads-clause-stopped
returns-in-Threads-clause-stopped g c =
    as_line (λ stop. IsTold (string_bytes c.run_files-in-Threads.result.said) c.args.wanted
    c.run_files-in-Threads.result.report_failed
    (g.R.Sink.held c.args.registers.now) (g.R.Sink.held c.run_files-in-Threads.new.registers) stop) (map string_bytes
    c.args.words.now) (g.F.Images.named c.args.files.now) (g.I.Source.left
    c.args.input.now) c.run_files-in-Threads.result.ending (Ok (threads_line_of c.new-threaded.result
    c.in-Threads.schedule)) (Ok
    c.args.line.now)
    (ap (λ (l : Line). Ok l) (ap (λ (p : Program). threads_line_of p c.in-Threads.schedule) c.new-threaded.ensures ∙
    sym c.in-Threads.is)) c.run_files-in-Threads.ensures.stopped

pub returns-in-Threads-clause-file_cause : goal.returns-in-Threads-clause-file_cause
returns-in-Threads-clause-file_cause g c =
    subst (λ (l : Line). c.run_files-in-Threads.result.ending ≡ ends.FileFault → Rose (g.F.Images.faults
    c.args.files.now)
    (g.F.Images.faults c.run_files-in-Threads.new.files) ⊎ NamesNoFile (outcome_over (map string_bytes
    c.args.words.now) l)
    (g.F.Images.named c.args.files.now))
    (ap (λ (p : Program). threads_line_of p c.in-Threads.schedule) c.new-threaded.ensures ∙ sym c.in-Threads.is)
    c.run_files-in-Threads.ensures.file_cause

pub returns-in_default-clause-outcome : goal.returns-in_default-clause-outcome
returns-in_default-clause-outcome g c =
    failed_line (g.F.Images.named c.args.files.now) (unreported_over (map string_bytes c.args.words.now)
    c.args.line.now) _ _ _ c.silent.result.ending (ap is_failure c.silent.ensures.ending)

pub returns-in_default-clause-exit : goal.returns-in_default-clause-exit
returns-in_default-clause-exit g c = still_exit ends.OutOfMemory c.silent.result.ending _ refl c.silent.ensures.ending

pub returns-in_default-clause-stopped : goal.returns-in_default-clause-stopped
returns-in_default-clause-stopped g c = still_line (g.F.Images.named c.args.files.now) (g.I.Source.left
    c.args.input.now) _ ends.OutOfMemory c.silent.result.ending refl c.silent.ensures.ending

pub returns-in_default-clause-caused : goal.returns-in_default-clause-caused
returns-in_default-clause-caused g c = still_caused ends.OutOfMemory c.silent.result.ending _ _ refl
    c.silent.ensures.ending c.silent.ensures.report

pub returns-in_default-clause-file_cause : goal.returns-in_default-clause-file_cause
returns-in_default-clause-file_cause g c = λ e. absurd (is_other ends.OutOfMemory c.silent.result.ending
    ends.FileFault c.silent.ensures.ending (λ e. cc) e)

pub returns-in_default-clause-kept : goal.returns-in_default-clause-kept
returns-in_default-clause-kept g c = untouched c.args.wanted c.silent.result.ending c.args.registers.now
