use Rattle.std.proofs.Common.{◌≡◌, ◌⊎◌, Bool, true, false, List, ℕ, is_some, map, string_bytes, refl, sym, ap}
use Rattle.std.proofs.Common.{subst, ◌∙◌}
use Rattle.io_gate.specs.Streams.{Rose}
use Rattle.command_lines.specs.Outcome.{result_of}
use Rattle.command_lines.specs.declared.ending.Ending.TheVariants as ends
use Rattle.command_model.specs.CommandLine.{line}
use Rattle.commands.specs.Endings.{ended_by}
use Rattle.commands.specs.Promises.{NamesNoFile}
use Rattle.tool_lines.specs.SameWords.{same_words}
use Rattle.tool_run.specs.Stops.{GainsReport, IsTold}
use Rattle.tool_run.specs.Tells.{IsExplained}
use Rattle.tool_run.proofs.Causes.{ended_exit, ended_own, errors_risen, failure_exit, hushed_exit, is_other, later_twice}
use Rattle.tool_run.proofs.Still.{ended_unreported, still_line}
use Rattle.tool_run.proofs.Stopping.{stopped_words}
use Rattle.tool_run.proofs.Tellings.{nothing_told, words_told}
use Rattle.tool_run.proofs.tool.run_program.Goals as goal

pub returns-in-Err-clause-tells : goal.returns-in-Err-clause-tells
returns-in-Err-clause-tells g c =
    nothing_told (same_words (map string_bytes c.args.words.now) c.args.line.now (string_bytes
    c.args.variables.now.length) (string_bytes c.args.variables.now.budget) (string_bytes c.args.variables.now.pages))
    (g.F.Images.named c.args.files.now) _ c.silent.result.ending (g.I.Source.left c.args.input.now) (g.O.Sink.held
    c.args.output.now) (g.E.Sink.held c.args.errors.now) c.silent.ensures.ending

pub returns-in-Err-clause-exit : goal.returns-in-Err-clause-exit
returns-in-Err-clause-exit g c = λ code is. c.silent.ensures.said

pub returns-in-Err-clause-file_cause : goal.returns-in-Err-clause-file_cause
returns-in-Err-clause-file_cause g c = λ e. absurd (is_other ends.OutOfMemory c.silent.result.ending ends.FileFault
    c.silent.ensures.ending (λ e. cc) e)

pub returns-in-Err-clause-read_cause : goal.returns-in-Err-clause-read_cause
returns-in-Err-clause-read_cause g c = λ e. absurd (is_other ends.OutOfMemory c.silent.result.ending ends.ReadFault
    c.silent.ensures.ending (λ e. cc) e)

pub returns-in-Err-clause-write_cause : goal.returns-in-Err-clause-write_cause
returns-in-Err-clause-write_cause g c = λ e. absurd (is_other ends.OutOfMemory c.silent.result.ending ends.WriteFault
    c.silent.ensures.ending (λ e. cc) e)

pub returns-in-Err-clause-errors_cause : goal.returns-in-Err-clause-errors_cause
returns-in-Err-clause-errors_cause g c = λ e. absurd (is_other ends.OutOfMemory c.silent.result.ending
    ends.ErrorsFault c.silent.ensures.ending (λ e. cc) e)

pub returns-in-Ok-clause-tells : goal.returns-in-Ok-clause-tells
returns-in-Ok-clause-tells g c =
    words_told (map string_bytes c.deref.result.now) _ (g.F.Images.named c.args.files.now) _ (string_bytes
    c.ended.result.said) c.run_words-ran.result.ending c.ended.result.ending
    _ _ _ _ _ _ _ c.put_all-put.result (ap (map string_bytes) c.deref.ensures.value ∙ c.in-Ok.ensures)
    (c.ended.ensures.said ∙ sym c.as_bytes.ensures.value) (c.ended.ensures.ending ∙ ap (ended_by
    c.put_all-put.result) (c.hushed-told.ensures.ending ∙ c.with_failure.ensures.ending)) c.put_all-put.ensures.bytes
    c.run_words-ran.ensures.outcome

pub returns-in-Ok-clause-exit : goal.returns-in-Ok-clause-exit
returns-in-Ok-clause-exit g c = λ code is.
    c.ended.ensures.said ∙ ended_exit c.put_all-put.result c.run_words-ran.result.ending c.ended.result.ending
    (string_bytes c.hushed-told.result.said)
    (c.ended.ensures.ending ∙ ap (ended_by c.put_all-put.result) (c.hushed-told.ensures.ending ∙
    c.with_failure.ensures.ending))
    (hushed_exit c.args.line.now.quiet c.run_words-ran.result.ending _ _ c.hushed-told.ensures.quiet
    c.hushed-told.ensures.aloud (failure_exit c.run_words-ran.result.ending _ _ c.with_failure.ensures.said
    c.run_words-ran.ensures.exit)) code is

pub returns-in-Ok-clause-quiet : goal.returns-in-Ok-clause-quiet
returns-in-Ok-clause-quiet g c = λ quiet. c.ended.ensures.said ∙ c.hushed-told.ensures.quiet quiet

pub returns-in-Err-clause-quiet : goal.returns-in-Err-clause-quiet
returns-in-Err-clause-quiet g c = λ quiet. c.silent.ensures.said

pub returns-in-Ok-clause-file_cause : goal.returns-in-Ok-clause-file_cause
returns-in-Ok-clause-file_cause g c = λ e.
    subst (λ (ws : List (List ℕ)). Rose (g.F.Images.faults c.args.files.now) (g.F.Images.faults
    c.run_words-ran.new.files) ⊎ NamesNoFile (result_of ws) (g.F.Images.named c.args.files.now)) (ap (map
    string_bytes) c.deref.ensures.value ∙ c.in-Ok.ensures)
    (c.run_words-ran.ensures.file_cause (ended_own c.put_all-put.result c.run_words-ran.result.ending
    c.ended.result.ending ends.FileFault
    (c.ended.ensures.ending ∙ ap (ended_by c.put_all-put.result) (c.hushed-told.ensures.ending ∙
    c.with_failure.ensures.ending)) (λ e. cc) e))

pub returns-in-Ok-clause-read_cause : goal.returns-in-Ok-clause-read_cause
returns-in-Ok-clause-read_cause g c = λ e. c.run_words-ran.ensures.caused.read (ended_own c.put_all-put.result
    c.run_words-ran.result.ending c.ended.result.ending ends.ReadFault
    (c.ended.ensures.ending ∙ ap (ended_by c.put_all-put.result) (c.hushed-told.ensures.ending ∙
    c.with_failure.ensures.ending)) (λ e. cc) e)

pub returns-in-Ok-clause-write_cause : goal.returns-in-Ok-clause-write_cause
returns-in-Ok-clause-write_cause g c = λ e. c.run_words-ran.ensures.caused.write (ended_own c.put_all-put.result
    c.run_words-ran.result.ending c.ended.result.ending ends.WriteFault
    (c.ended.ensures.ending ∙ ap (ended_by c.put_all-put.result) (c.hushed-told.ensures.ending ∙
    c.with_failure.ensures.ending)) (λ e. cc) e)

pub returns-in-Ok-clause-errors_cause : goal.returns-in-Ok-clause-errors_cause
returns-in-Ok-clause-errors_cause g c = λ e.
    errors_risen _ _ _ c.put_all-put.result c.run_words-ran.result.ending c.ended.result.ending
    (c.ended.ensures.ending ∙ ap (ended_by c.put_all-put.result) (c.hushed-told.ensures.ending ∙
    c.with_failure.ensures.ending))
    c.run_words-ran.ensures.caused.errors c.run_words-ran.ensures.caused.later c.put_all-put.ensures.cause e

pub returns-in-Ok-clause-errors_later : goal.returns-in-Ok-clause-errors_later
returns-in-Ok-clause-errors_later g c = later_twice _ _ _ c.put_all-put.result c.run_words-ran.ensures.caused.later
    c.put_all-put.ensures.cause

pub returns-in-Err-clause-explained : goal.returns-in-Err-clause-explained
returns-in-Err-clause-explained g c = λ loud. still_line (g.F.Images.named c.args.files.now) (g.I.Source.left
    c.args.input.now) _ ends.OutOfMemory c.silent.result.ending refl c.silent.ensures.ending

pub returns-in-Err-clause-registers : goal.returns-in-Err-clause-registers
returns-in-Err-clause-registers g c = still_line (g.F.Images.named c.args.files.now) (g.I.Source.left
    c.args.input.now) _ ends.OutOfMemory c.silent.result.ending refl c.silent.ensures.ending

pub returns-in-Err-clause-registers_cause : goal.returns-in-Err-clause-registers_cause
returns-in-Err-clause-registers_cause g c = λ e. absurd (let t : false ≡ true = sym c.silent.ensures.report ∙ e in cc)

pub returns-in-Ok-clause-explained : goal.returns-in-Ok-clause-explained
returns-in-Ok-clause-explained g c = λ loud.
    stopped_words (IsTold (string_bytes c.run_words-ran.result.said) (is_some c.args.line.now.registers)
    c.run_words-ran.result.report_failed (g.R.Sink.held c.args.registers.now) (g.R.Sink.held
    c.run_words-ran.new.registers))
    (λ stop. IsExplained stop (string_bytes c.ended.result.said)) (map string_bytes c.deref.result.now) _
    (g.F.Images.named c.args.files.now) (g.I.Source.left c.args.input.now) c.put_all-put.result
    c.run_words-ran.result.ending c.ended.result.ending line
    (ap (map string_bytes) c.deref.ensures.value ∙ c.in-Ok.ensures) (c.ended.ensures.ending ∙ ap (ended_by
    c.put_all-put.result) (c.hushed-told.ensures.ending ∙
    c.with_failure.ensures.ending))
    (λ fine stop t. subst (λ (xs : List ℕ). IsExplained stop xs) (sym (c.ended.ensures.said ∙
    c.hushed-told.ensures.aloud loud ∙ c.with_failure.ensures.said fine)) t.explained) c.run_words-ran.ensures.stopped

pub returns-in-Ok-clause-registers : goal.returns-in-Ok-clause-registers
returns-in-Ok-clause-registers g c =
    stopped_words (IsTold (string_bytes c.run_words-ran.result.said) (is_some c.args.line.now.registers)
    c.run_words-ran.result.report_failed (g.R.Sink.held c.args.registers.now) (g.R.Sink.held
    c.run_words-ran.new.registers))
    (λ stop. GainsReport (is_some c.args.line.now.registers) c.ended.result.report_failed (g.R.Sink.held
    c.args.registers.now) (g.R.Sink.held c.run_words-ran.new.registers) stop.report) (map string_bytes
    c.deref.result.now) _
    (g.F.Images.named c.args.files.now) (g.I.Source.left c.args.input.now) c.put_all-put.result
    c.run_words-ran.result.ending c.ended.result.ending line
    (ap (map string_bytes) c.deref.ensures.value ∙ c.in-Ok.ensures) (c.ended.ensures.ending ∙ ap (ended_by
    c.put_all-put.result) (c.hushed-told.ensures.ending ∙
    c.with_failure.ensures.ending))
    (λ fine stop t. subst (λ (b : Bool). GainsReport (is_some c.args.line.now.registers) b (g.R.Sink.held
    c.args.registers.now) (g.R.Sink.held c.run_words-ran.new.registers) stop.report) (sym (c.ended.ensures.report ∙
    c.hushed-told.ensures.report ∙ c.with_failure.ensures.report)) t.report) c.run_words-ran.ensures.stopped

pub returns-in-Ok-clause-registers_cause : goal.returns-in-Ok-clause-registers_cause
returns-in-Ok-clause-registers_cause g c = λ e. c.run_words-ran.ensures.caused.registers (sym (c.ended.ensures.report ∙
    c.hushed-told.ensures.report ∙ c.with_failure.ensures.report) ∙ e)

pub returns-in-Err-clause-unwanted : goal.returns-in-Err-clause-unwanted
returns-in-Err-clause-unwanted g c = λ _. refl

pub returns-in-Err-clause-unreported : goal.returns-in-Err-clause-unreported
returns-in-Err-clause-unreported g c = λ _. refl

pub returns-in-Ok-clause-unwanted : goal.returns-in-Ok-clause-unwanted
returns-in-Ok-clause-unwanted g c = λ none. c.run_words-ran.ensures.kept.unwanted (ap is_some none)

pub returns-in-Ok-clause-unreported : goal.returns-in-Ok-clause-unreported
returns-in-Ok-clause-unreported g c = λ e. c.run_words-ran.ensures.kept.unreported (ended_unreported
    c.put_all-put.result c.run_words-ran.result.ending c.ended.result.ending (c.ended.ensures.ending ∙ ap (ended_by
    c.put_all-put.result) (c.hushed-told.ensures.ending ∙ c.with_failure.ensures.ending)) e)
