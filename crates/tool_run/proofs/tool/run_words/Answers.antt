use Rattle.std.proofs.Common.{◌≡◌, ◌⊎◌, Bool, Result, Ok, IfSome, is_some, map, string_bytes, refl, sym, subst, ◌∙◌}
use Rattle.io_gate.specs.Streams.{Rose}
use Rattle.command_model.specs.declared.command_line.Line.{Line}
use Rattle.command_model.specs.declared.command_line.WordsFault.{WordsFault}
use Rattle.command_lines.specs.Outcome.{outcome_of_line}
use Rattle.command_lines.specs.declared.ending.Ending.TheVariants as ends
use Rattle.commands.specs.Meets.{now, Meets}
use Rattle.commands.specs.Promises.{NamesNoFile}
use Rattle.tool_run.specs.Still.{WithoutReport}
use Rattle.tool_run.specs.Stops.{IsTold}
use Rattle.tool_run.specs.Unreported.{unreported_line}
use Rattle.tool_run.proofs.Causes.{is_other}
use Rattle.tool_run.proofs.Runs.{refused_line}
use Rattle.tool_run.proofs.Still.{still_caused, still_exit, still_line, untouched}
use Rattle.tool_run.proofs.Stopping.{as_line, as_wanted}
use Rattle.tool_run.proofs.tool.run_words.Goals as goal

pub returns-in-Err-clause-outcome : goal.returns-in-Err-clause-outcome
returns-in-Err-clause-outcome g c =
    refused_line (map string_bytes c.args.words.now) (g.F.Images.named c.args.files.now) c.in-Err.fault
    (g.I.Source.left c.args.input.now) (g.O.Sink.held c.args.output.now) (g.E.Sink.held c.args.errors.now)
    c.with_text.result.ending (sym c.in-Err.is ∙ c.line_of_words-read.ensures.line) c.with_text.ensures.ending

pub returns-in-Err-clause-exit : goal.returns-in-Err-clause-exit
returns-in-Err-clause-exit g c = still_exit (ends.WordsRefused c.in-Err.fault) c.with_text.result.ending _ refl
    c.with_text.ensures.ending

pub returns-in-Err-clause-stopped : goal.returns-in-Err-clause-stopped
returns-in-Err-clause-stopped g c = still_line (g.F.Images.named c.args.files.now) (g.I.Source.left c.args.input.now) _
    (ends.WordsRefused c.in-Err.fault) c.with_text.result.ending refl c.with_text.ensures.ending

pub returns-in-Err-clause-caused : goal.returns-in-Err-clause-caused
returns-in-Err-clause-caused g c = still_caused (ends.WordsRefused c.in-Err.fault) c.with_text.result.ending _ _ refl
    c.with_text.ensures.ending c.with_text.ensures.report

pub returns-in-Err-clause-file_cause : goal.returns-in-Err-clause-file_cause
returns-in-Err-clause-file_cause g c = λ e. absurd (is_other (ends.WordsRefused c.in-Err.fault)
    c.with_text.result.ending ends.FileFault c.with_text.ensures.ending (λ e. cc) e)

pub returns-in-Ok-clause-outcome : goal.returns-in-Ok-clause-outcome
returns-in-Ok-clause-outcome g c =
    subst (λ (r : Result Line WordsFault). IfSome (g.F.Images.named c.args.files.now) (λ files. Meets (λ i.
    unreported_line (map string_bytes c.args.words.now) files i r) c.run_line.result.ending
    (now (g.I.Source.left c.args.input.now) (g.O.Sink.held c.args.output.now) (g.E.Sink.held c.args.errors.now)) (now
    (g.I.Source.left c.run_line.new.input) (g.O.Sink.held c.run_line.new.output) (g.E.Sink.held
    c.run_line.new.errors))))
    (sym c.in-Ok.is ∙ c.line_of_words-read.ensures.line) c.run_line.ensures.outcome

pub returns-in-Ok-clause-file_cause : goal.returns-in-Ok-clause-file_cause
returns-in-Ok-clause-file_cause g c =
    subst (λ (r : Result Line WordsFault). c.run_line.result.ending ≡ ends.FileFault → Rose (g.F.Images.faults
    c.args.files.now) (g.F.Images.faults c.run_line.new.files) ⊎ NamesNoFile (λ files input. outcome_of_line (map
    string_bytes c.args.words.now) files input r) (g.F.Images.named c.args.files.now))
    (sym c.in-Ok.is ∙ c.line_of_words-read.ensures.line) c.run_line.ensures.file_cause

pub returns-in-Ok-clause-stopped : goal.returns-in-Ok-clause-stopped
returns-in-Ok-clause-stopped g c =
    let ws = map string_bytes c.args.words.now in
    let told = g.F.Images.named c.args.files.now in
    let left = g.I.Source.left c.args.input.now in
    let said = string_bytes c.run_line.result.said in
    let old = g.R.Sink.held c.args.registers.now in
    let new = g.R.Sink.held c.run_line.new.registers in
    as_line (IsTold said (is_some c.args.line.now.registers) c.run_line.result.report_failed old new) ws told left
    c.run_line.result.ending _ _ (sym c.in-Ok.is ∙ c.line_of_words-read.ensures.line)
    (as_wanted ws told left c.run_line.result.ending said c.is_some-wanted.result (is_some c.args.line.now.registers)
    c.run_line.result.report_failed old new (Ok c.in-Ok.read) c.is_some-wanted.ensures c.run_line.ensures.stopped)

pub returns-in-Ok-clause-kept : goal.returns-in-Ok-clause-kept
returns-in-Ok-clause-kept g c = subst (λ (b : Bool). WithoutReport b c.run_line.result.ending (c.run_line.new.registers
    ≡ c.args.registers.now)) c.is_some-wanted.ensures c.run_line.ensures.kept

pub returns-in-Err-clause-kept : goal.returns-in-Err-clause-kept
returns-in-Err-clause-kept g c = untouched (is_some c.args.line.now.registers) c.with_text.result.ending
    c.args.registers.now
