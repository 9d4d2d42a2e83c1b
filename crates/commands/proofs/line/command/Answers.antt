use Rattle.std.proofs.Common.{ap, ◌≡◌, ◌⊎◌, ℕ, List, Option, Result, true, false, IfErr, IfOk, IfSome, map, string_bytes, refl, sym, subst, ◌∙◌}
use Rattle.io_gate.specs.Streams.{Rose}
use Rattle.command_model.specs.Refusals.{words_line}
use Rattle.command_model.specs.declared.command_line.Line.{Line}
use Rattle.command_model.specs.declared.command_line.WordsFault.{WordsFault}
use Rattle.command_lines.specs.Outcome.{outcome_of_line}
use Rattle.command_lines.specs.declared.ending.Ending.TheVariants.{FileFault, ReadFault, OutOfMemory}
use Rattle.emu_system.specs.Gained.{Gains}
use Rattle.commands.specs.Promises.{NamesNoFile, is_failure, is_silent}
use Rattle.commands.specs.Meets.{now, MeetsLine}
use Rattle.commands.specs.Lines.{EndsMissing, MissesFirst, ReadsInputFirst, TakesNothingEarly, may_end, names_file, takes_input, sweeps, reads_input_first}
use Rattle.commands.proofs.Lines.{refused_gains, refused_line, refused_names_none, refused_puts, done_refuses, line_refuses}
use Rattle.commands.specs.Whole.{InLine, HasAllPut}
use Rattle.commands.proofs.NamedFiles.{told_so}
use Rattle.commands.proofs.line.command.Goals as goal

-- ---- a refused line

pub returns-in-Err-clause-outcome : goal.returns-in-Err-clause-outcome
returns-in-Err-clause-outcome g c =
    refused_line (map string_bytes c.args.words.now) (g.F.Images.named c.args.files.now) (g.I.Source.left c.args.input.now) (g.O.Sink.held c.args.output.now) (g.E.Sink.held c.args.errors.now)
    c.in-Err.fault _ c.put_words_refusal.result c.ending_after_line.result (sym c.in-Err.is ∙ c.line_of_words-line.ensures.line) c.ending_after_line.ensures c.put_words_refusal.ensures.bytes

pub returns-in-Err-clause-without_input : goal.returns-in-Err-clause-without_input
returns-in-Err-clause-without_input g c = λ _ input.
    refused_line (map string_bytes c.args.words.now) (g.F.Images.named c.args.files.now) input (g.O.Sink.held c.args.output.now) (g.E.Sink.held c.args.errors.now)
    c.in-Err.fault _ c.put_words_refusal.result c.ending_after_line.result (sym c.in-Err.is ∙ c.line_of_words-line.ensures.line) c.ending_after_line.ensures c.put_words_refusal.ensures.bytes

pub returns-in-Err-clause-refused : goal.returns-in-Err-clause-refused
returns-in-Err-clause-refused g c =
    line_refuses c.in-Err.fault _ c.put_words_refusal.result c.ending_after_line.result (sym c.in-Err.is ∙ c.line_of_words-line.ensures.line) c.ending_after_line.ensures

pub returns-in-Err-clause-missing : goal.returns-in-Err-clause-missing
returns-in-Err-clause-missing g c = λ names. absurd (refused_names_none (map string_bytes c.args.words.now) (g.F.Images.named c.args.files.now) c.in-Err.fault (sym c.in-Err.is ∙ c.line_of_words-line.ensures.line) names)

pub returns-in-Err-clause-missing_first : goal.returns-in-Err-clause-missing_first
returns-in-Err-clause-missing_first g c =
    subst (λ (r : Result Line WordsFault). MissesFirst (map string_bytes c.args.words.now) r (g.F.Images.named c.args.files.now) → c.ending_after_line.result ≡ FileFault) (sym c.in-Err.is ∙ c.line_of_words-line.ensures.line) (λ none. absurd none)

pub returns-in-Err-clause-no_errors : goal.returns-in-Err-clause-no_errors
returns-in-Err-clause-no_errors g c = λ _ silent. absurd (refused_puts c.in-Err.fault c.put_words_refusal.result c.ending_after_line.result c.ending_after_line.ensures silent)

pub returns-in-Err-clause-kind : goal.returns-in-Err-clause-kind
returns-in-Err-clause-kind g c = subst (λ (r : Result Line WordsFault). IfOk r (λ l. may_end l c.ending_after_line.result ≡ true)) (sym c.in-Err.is ∙ c.line_of_words-line.ensures.line) tt

pub returns-in-Err-clause-refused_output : goal.returns-in-Err-clause-refused_output
returns-in-Err-clause-refused_output g c =
    subst (λ (r : Result Line WordsFault). IfErr r (λ _. c.args.output.now ≡ c.args.output.now)) (sym c.in-Err.is ∙ c.line_of_words-line.ensures.line) refl

pub returns-in-Err-clause-refused_errors : goal.returns-in-Err-clause-refused_errors
returns-in-Err-clause-refused_errors g c =
    refused_gains c.in-Err.fault _ _ _ c.put_words_refusal.result c.ending_after_line.result (sym c.in-Err.is ∙ c.line_of_words-line.ensures.line) c.ending_after_line.ensures c.put_words_refusal.ensures.bytes

-- ---- a line that is done

pub returns-in-Ok-clause-outcome : goal.returns-in-Ok-clause-outcome
returns-in-Ok-clause-outcome g c =
    subst (λ (r : Result Line WordsFault). IfSome (g.F.Images.named c.args.files.now) (λ files. MeetsLine (map string_bytes c.args.words.now) files r (λ input. outcome_of_line (map string_bytes c.args.words.now) files input r) c.run_line.result
    (now (g.I.Source.left c.args.input.now) (g.O.Sink.held c.args.output.now) (g.E.Sink.held c.args.errors.now)) (now (g.I.Source.left c.run_line.new.input) (g.O.Sink.held c.run_line.new.output) (g.E.Sink.held c.run_line.new.errors))))
    (sym c.in-Ok.is ∙ c.line_of_words-line.ensures.line) c.run_line.ensures.outcome

pub returns-in-Ok-clause-without_input : goal.returns-in-Ok-clause-without_input
returns-in-Ok-clause-without_input g c =
    subst (λ (r : Result Line WordsFault). takes_input r ≡ false → (told : Option (List ℕ)) → IfSome (g.F.Images.named c.args.files.now) (λ files. MeetsLine (map string_bytes c.args.words.now) files r (λ input. outcome_of_line (map string_bytes c.args.words.now) files input r) c.run_line.result
    (now told (g.O.Sink.held c.args.output.now) (g.E.Sink.held c.args.errors.now)) (now told (g.O.Sink.held c.run_line.new.output) (g.E.Sink.held c.run_line.new.errors))))
    (sym c.in-Ok.is ∙ c.line_of_words-line.ensures.line) c.run_line.ensures.without_input

pub returns-in-Ok-clause-file_cause : goal.returns-in-Ok-clause-file_cause
returns-in-Ok-clause-file_cause g c =
    subst (λ (r : Result Line WordsFault). c.run_line.result ≡ FileFault → Rose (g.F.Images.faults c.args.files.now) (g.F.Images.faults c.run_line.new.files) ⊎ NamesNoFile (λ files input. outcome_of_line (map string_bytes c.args.words.now) files input r) (g.F.Images.named c.args.files.now))
    (sym c.in-Ok.is ∙ c.line_of_words-line.ensures.line) c.run_line.ensures.file_cause

pub returns-in-Ok-clause-missing : goal.returns-in-Ok-clause-missing
returns-in-Ok-clause-missing g c =
    subst (λ (r : Result Line WordsFault). NamesNoFile (λ files input. outcome_of_line (map string_bytes c.args.words.now) files input r) (g.F.Images.named c.args.files.now) → EndsMissing r c.run_line.result)
    (sym c.in-Ok.is ∙ c.line_of_words-line.ensures.line) c.run_line.ensures.missing

pub returns-in-Ok-clause-missing_first : goal.returns-in-Ok-clause-missing_first
returns-in-Ok-clause-missing_first g c =
    subst (λ (r : Result Line WordsFault). MissesFirst (map string_bytes c.args.words.now) r (g.F.Images.named c.args.files.now) → c.run_line.result ≡ FileFault) (sym c.in-Ok.is ∙ c.line_of_words-line.ensures.line) c.run_line.ensures.missing_first

pub returns-in-Ok-clause-no_input : goal.returns-in-Ok-clause-no_input
returns-in-Ok-clause-no_input g c =
    subst (λ (r : Result Line WordsFault). takes_input r ≡ false → (c.run_line.new.input ≡ c.args.input.now) × (c.run_line.result ≡ ReadFault → ⊥)) (sym c.in-Ok.is ∙ c.line_of_words-line.ensures.line) c.run_line.ensures.no_input

pub returns-in-Ok-clause-no_file : goal.returns-in-Ok-clause-no_file
returns-in-Ok-clause-no_file g c =
    subst (λ (r : Result Line WordsFault). names_file r ≡ false → (c.run_line.new.files ≡ c.args.files.now) × (c.run_line.result ≡ FileFault → ⊥)) (sym c.in-Ok.is ∙ c.line_of_words-line.ensures.line) c.run_line.ensures.no_file

pub returns-in-Ok-clause-no_errors : goal.returns-in-Ok-clause-no_errors
returns-in-Ok-clause-no_errors g c =
    subst (λ (r : Result Line WordsFault). takes_input r ≡ false → is_silent c.run_line.result ≡ true → c.run_line.new.errors ≡ c.args.errors.now) (sym c.in-Ok.is ∙ c.line_of_words-line.ensures.line) c.run_line.ensures.no_errors

pub returns-in-Ok-clause-refused : goal.returns-in-Ok-clause-refused
returns-in-Ok-clause-refused g c = done_refuses c.in-Ok.line _ c.run_line.result (sym c.in-Ok.is ∙ c.line_of_words-line.ensures.line) c.run_line.ensures.kind

pub returns-in-Ok-clause-kind : goal.returns-in-Ok-clause-kind
returns-in-Ok-clause-kind g c = subst (λ (r : Result Line WordsFault). IfOk r (λ l. may_end l c.run_line.result ≡ true)) (sym c.in-Ok.is ∙ c.line_of_words-line.ensures.line) c.run_line.ensures.kind

pub returns-in-Ok-clause-refused_output : goal.returns-in-Ok-clause-refused_output
returns-in-Ok-clause-refused_output g c =
    subst (λ (r : Result Line WordsFault). IfErr r (λ _. c.run_line.new.output ≡ c.args.output.now)) (sym c.in-Ok.is ∙ c.line_of_words-line.ensures.line) tt

pub returns-in-Ok-clause-refused_errors : goal.returns-in-Ok-clause-refused_errors
returns-in-Ok-clause-refused_errors g c =
    subst (λ (r : Result Line WordsFault). IfErr r (λ fault. IfSome (g.E.Sink.held c.args.errors.now) (λ had. Gains (is_failure c.run_line.result) (g.E.Sink.held c.run_line.new.errors) had (words_line fault))))
    (sym c.in-Ok.is ∙ c.line_of_words-line.ensures.line) tt

pub returns-in-Ok-clause-memory_first : goal.returns-in-Ok-clause-memory_first
returns-in-Ok-clause-memory_first g c =
    subst (λ (r : Result Line WordsFault). TakesNothingEarly (map string_bytes c.args.words.now) r (g.F.Images.named c.args.files.now) → c.run_line.result ≡ OutOfMemory → c.run_line.new.input ≡ c.args.input.now)
    (sym c.in-Ok.is ∙ c.line_of_words-line.ensures.line) c.run_line.ensures.memory_first

pub returns-in-Ok-clause-memory_unwritten : goal.returns-in-Ok-clause-memory_unwritten
returns-in-Ok-clause-memory_unwritten g c =
    subst (λ (r : Result Line WordsFault). sweeps r ≡ false → c.run_line.result ≡ OutOfMemory → (c.run_line.new.output ≡ c.args.output.now) × (c.run_line.new.errors ≡ c.args.errors.now))
    (sym c.in-Ok.is ∙ c.line_of_words-line.ensures.line) c.run_line.ensures.memory_unwritten

pub returns-in-Ok-clause-read_unwritten : goal.returns-in-Ok-clause-read_unwritten
returns-in-Ok-clause-read_unwritten g c =
    subst (λ (r : Result Line WordsFault). ReadsInputFirst (map string_bytes c.args.words.now) r (g.F.Images.named c.args.files.now) → c.run_line.result ≡ ReadFault → (c.run_line.new.output ≡ c.args.output.now) × (c.run_line.new.errors ≡ c.args.errors.now))
    (sym c.in-Ok.is ∙ c.line_of_words-line.ensures.line) c.run_line.ensures.read_unwritten

pub returns-in-Err-clause-read_unwritten : goal.returns-in-Err-clause-read_unwritten
returns-in-Err-clause-read_unwritten g c = λ first.
    absurd (subst (λ (r : Result Line WordsFault). ReadsInputFirst (map string_bytes c.args.words.now) r (g.F.Images.named c.args.files.now)) (sym (sym c.in-Err.is ∙ c.line_of_words-line.ensures.line)) first)

pub returns-in-Ok-clause-whole : goal.returns-in-Ok-clause-whole
returns-in-Ok-clause-whole g c =
    subst (λ (r : Result Line WordsFault). IfSome (g.F.Images.named c.args.files.now) (λ files. takes_input r ≡ true → reads_input_first (map string_bytes c.args.words.now) files r ≡ false → HasAllPut (InLine (map string_bytes c.args.words.now) files r c.run_line.result (g.I.Source.left c.run_line.new.input)) (λ input. outcome_of_line (map string_bytes c.args.words.now) files input r) c.run_line.result (g.I.Source.left c.args.input.now) (g.O.Sink.held c.args.output.now) (g.O.Sink.held c.run_line.new.output) (g.E.Sink.held c.args.errors.now) (g.E.Sink.held c.run_line.new.errors)))
    (sym c.in-Ok.is ∙ c.line_of_words-line.ensures.line) c.run_line.ensures.whole

pub returns-in-Err-clause-whole : goal.returns-in-Err-clause-whole
returns-in-Err-clause-whole g c =
    told_so (g.F.Images.named c.args.files.now) _ (λ files takes. absurd (let t : false ≡ true = ap takes_input (sym c.in-Err.is ∙ c.line_of_words-line.ensures.line) ∙ takes in cc))
