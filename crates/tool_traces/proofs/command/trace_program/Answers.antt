use Rattle.std.proofs.Common.{◌≡◌, ◌⊎◌, ℕ, false, IfErr, IfSome, List, Result, Err, map, string_bytes, refl, sym, ap, subst, ◌∙◌}
use Rattle.io_gate.specs.Streams.{Rose}
use Rattle.command_lines.specs.declared.ending.Ending.{Ending}
use Rattle.command_lines.specs.declared.ending.Ending.TheVariants.{Done, ErrorsFault, FileFault, OutOfMemory, ReadFault, WordsRefused, WriteFault}
use Rattle.command_model.specs.CommandLine.{line as svemu_line}
use Rattle.commands.specs.Lines.{MissesFirst}
use Rattle.commands.specs.Promises.{is_failure}
use Rattle.tool_refusals.proofs.Endings.{failed_ends, said_ends, said_not, said_or, words_leave}
use Rattle.tool_traces.specs.Endings.{option_fault, EndsLine, EndsTrace}
use Rattle.tool_traces.proofs.Told.{given_told}
use Rattle.trace_options.specs.Options.{trace_options}
use Rattle.trace_options.specs.declared.options.Given.{Given}
use Rattle.trace_options.specs.declared.options.TraceFault.{TraceFault}
use Rattle.tool_traces.proofs.command.trace_program.Goals as goal

-- the refusal of an option, and of its result
abbrev IsRefused : Ending → Result Given TraceFault → Type 0
IsRefused result options = IfErr options (λ fault. (result ≡ WordsRefused (option_fault fault)) ⊎ (result ≡ ErrorsFault))

pub returns-in-Err-clause-done : goal.returns-in-Err-clause-done
returns-in-Err-clause-done g c = λ e. absurd (said_not (WordsRefused (option_fault c.in-Err.fault)) c.refuse_option.result Done c.refuse_option.ensures (λ x. cc) (λ x. cc) e)

pub returns-in-Err-clause-ending : goal.returns-in-Err-clause-ending
returns-in-Err-clause-ending g c =
    subst (λ (r : Result Given TraceFault). IfSome (g.F.Images.named c.args.files.now) (λ files. is_failure c.refuse_option.result ≡ false → EndsTrace (map string_bytes c.args.words.now) files (g.I.Source.left c.args.input.now) r c.refuse_option.result))
    (sym c.in-Err.is ∙ c.trace_options.ensures)
    (said_ends (g.F.Images.named c.args.files.now) (λ files ending. EndsTrace (map string_bytes c.args.words.now) files (g.I.Source.left c.args.input.now) (Err c.in-Err.fault) ending) (WordsRefused (option_fault c.in-Err.fault)) c.refuse_option.result c.refuse_option.ensures (λ files. refl))

pub returns-in-Err-clause-refused : goal.returns-in-Err-clause-refused
returns-in-Err-clause-refused g c =
    subst (IsRefused c.refuse_option.result) (sym c.in-Err.is ∙ c.trace_options.ensures) (said_or (WordsRefused (option_fault c.in-Err.fault)) c.refuse_option.result c.refuse_option.ensures)

pub returns-in-Err-clause-kind : goal.returns-in-Err-clause-kind
returns-in-Err-clause-kind g c = (words_leave (option_fault c.in-Err.fault) c.refuse_option.result c.refuse_option.ensures).kind

pub returns-in-Err-clause-file_cause : goal.returns-in-Err-clause-file_cause
returns-in-Err-clause-file_cause g c = λ e. absurd (said_not (WordsRefused (option_fault c.in-Err.fault)) c.refuse_option.result FileFault c.refuse_option.ensures (λ x. cc) (λ x. cc) e)

pub returns-in-Err-clause-read_cause : goal.returns-in-Err-clause-read_cause
returns-in-Err-clause-read_cause g c = λ e. absurd (said_not (WordsRefused (option_fault c.in-Err.fault)) c.refuse_option.result ReadFault c.refuse_option.ensures (λ x. cc) (λ x. cc) e)

pub returns-in-Err-clause-write_cause : goal.returns-in-Err-clause-write_cause
returns-in-Err-clause-write_cause g c = λ e. absurd (said_not (WordsRefused (option_fault c.in-Err.fault)) c.refuse_option.result WriteFault c.refuse_option.ensures (λ x. cc) (λ x. cc) e)

pub returns-in-Err-clause-errors_cause : goal.returns-in-Err-clause-errors_cause
returns-in-Err-clause-errors_cause g c = (words_leave (option_fault c.in-Err.fault) c.refuse_option.result c.refuse_option.ensures).errors

pub returns-in-Err-clause-untaken : goal.returns-in-Err-clause-untaken
returns-in-Err-clause-untaken g c = λ _. refl

pub returns-in-Err-clause-unwritten : goal.returns-in-Err-clause-unwritten
returns-in-Err-clause-unwritten g c = λ _. refl

pub returns-in-Err-clause-silent : goal.returns-in-Err-clause-silent
returns-in-Err-clause-silent g c = λ e. absurd ((words_leave (option_fault c.in-Err.fault) c.refuse_option.result c.refuse_option.ensures).silent e)

pub returns-in-Err-run_words-clause-ending : goal.returns-in-Err-run_words-clause-ending
returns-in-Err-run_words-clause-ending g c = failed_ends (g.F.Images.named c.args.files.now) (λ files. EndsTrace (map string_bytes c.args.words.now) files (g.I.Source.left c.args.input.now) (trace_options (map string_bytes c.args.words.now)) OutOfMemory) OutOfMemory refl

pub returns-in-Err-run_words-clause-refused : goal.returns-in-Err-run_words-clause-refused
returns-in-Err-run_words-clause-refused g c = subst (IsRefused OutOfMemory) (sym c.in-Ok.is ∙ c.trace_options.ensures) tt

pub returns-in-Ok-run_words-clause-done : goal.returns-in-Ok-run_words-clause-done
returns-in-Ok-run_words-clause-done g c = λ done.
    given_told (map string_bytes c.args.words.now) (g.F.Images.named c.args.files.now) (g.I.Source.left c.args.input.now) (g.O.Sink.held c.args.output.now) (g.O.Sink.held c.trace_given.new.output)
    (map string_bytes c.deref.result.now) c.in-Ok.given (ap (map string_bytes) c.deref.ensures.value ∙ c.in-Ok-run_words.ensures) (sym c.in-Ok.is ∙ c.trace_options.ensures) (c.trace_given.ensures.done done)

pub returns-in-Ok-run_words-clause-ending : goal.returns-in-Ok-run_words-clause-ending
returns-in-Ok-run_words-clause-ending g c =
    subst (λ (r : Result Given TraceFault). IfSome (g.F.Images.named c.args.files.now) (λ files. is_failure c.trace_given.result ≡ false → EndsTrace (map string_bytes c.args.words.now) files (g.I.Source.left c.args.input.now) r c.trace_given.result))
    (sym c.in-Ok.is ∙ c.trace_options.ensures)
    (subst (λ (xs : List (List ℕ)). IfSome (g.F.Images.named c.args.files.now) (λ files. is_failure c.trace_given.result ≡ false → EndsLine (map string_bytes c.args.words.now) xs c.in-Ok.given files (g.I.Source.left c.args.input.now) (svemu_line xs) c.trace_given.result))
    (ap (map string_bytes) c.deref.ensures.value ∙ c.in-Ok-run_words.ensures) c.trace_given.ensures.ending)

pub returns-in-Ok-run_words-clause-refused : goal.returns-in-Ok-run_words-clause-refused
returns-in-Ok-run_words-clause-refused g c = subst (IsRefused c.trace_given.result) (sym c.in-Ok.is ∙ c.trace_options.ensures) tt

pub returns-in-Ok-run_words-clause-kind : goal.returns-in-Ok-run_words-clause-kind
returns-in-Ok-run_words-clause-kind g c = c.trace_given.ensures.leaves.kind

pub returns-in-Ok-run_words-clause-file_cause : goal.returns-in-Ok-run_words-clause-file_cause
returns-in-Ok-run_words-clause-file_cause g c = λ e.
    subst (λ (xs : List (List ℕ)). Rose (g.F.Images.faults c.args.files.now) (g.F.Images.faults c.trace_given.new.files) ⊎ MissesFirst xs (svemu_line xs) (g.F.Images.named c.args.files.now))
    (ap (map string_bytes) c.deref.ensures.value ∙ c.in-Ok-run_words.ensures) (c.trace_given.ensures.leaves.file e)

pub returns-in-Ok-run_words-clause-read_cause : goal.returns-in-Ok-run_words-clause-read_cause
returns-in-Ok-run_words-clause-read_cause g c = c.trace_given.ensures.leaves.read

pub returns-in-Ok-run_words-clause-write_cause : goal.returns-in-Ok-run_words-clause-write_cause
returns-in-Ok-run_words-clause-write_cause g c = c.trace_given.ensures.leaves.write

pub returns-in-Ok-run_words-clause-errors_cause : goal.returns-in-Ok-run_words-clause-errors_cause
returns-in-Ok-run_words-clause-errors_cause g c = c.trace_given.ensures.leaves.errors

pub returns-in-Ok-run_words-clause-untaken : goal.returns-in-Ok-run_words-clause-untaken
returns-in-Ok-run_words-clause-untaken g c = c.trace_given.ensures.leaves.untaken

pub returns-in-Ok-run_words-clause-unwritten : goal.returns-in-Ok-run_words-clause-unwritten
returns-in-Ok-run_words-clause-unwritten g c = c.trace_given.ensures.leaves.unwritten

pub returns-in-Ok-run_words-clause-silent : goal.returns-in-Ok-run_words-clause-silent
returns-in-Ok-run_words-clause-silent g c = c.trace_given.ensures.leaves.silent
