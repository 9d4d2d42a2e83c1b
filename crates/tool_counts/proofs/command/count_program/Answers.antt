use Rattle.std.proofs.Common.{◌≡◌, ◌⊎◌, false, IfSome, Result, Err, map, string_bytes, refl, sym, subst, ◌∙◌}
use Rattle.io_gate.specs.Streams.{Rose}
use Rattle.command_lines.specs.declared.ending.Ending.TheVariants.{Done, FileFault, ReadFault, WordsRefused, WriteFault}
use Rattle.command_model.specs.declared.command_line.Line.{Line}
use Rattle.command_model.specs.declared.command_line.WordsFault.{WordsFault}
use Rattle.commands.specs.Lines.{MissesFirst}
use Rattle.commands.specs.Promises.{is_failure}
use Rattle.tool_refusals.proofs.Endings.{said_ends, said_not, said_or, words_leave}
use Rattle.tool_counts.specs.Endings.{EndsLine, RefusesLine}
use Rattle.tool_counts.proofs.Lines.{line_told}
use Rattle.tool_counts.proofs.command.count_program.Goals as goal

pub returns-in-Err-clause-done : goal.returns-in-Err-clause-done
returns-in-Err-clause-done g c = λ e. absurd (said_not (WordsRefused c.in-Err.fault) c.refuse_words.result Done c.refuse_words.ensures (λ x. cc) (λ x. cc) e)

pub returns-in-Err-clause-ending : goal.returns-in-Err-clause-ending
returns-in-Err-clause-ending g c =
    subst (λ (r : Result Line WordsFault). IfSome (g.F.Images.named c.args.files.now) (λ files. is_failure c.refuse_words.result ≡ false → EndsLine (map string_bytes c.args.words.now) files (g.I.Source.left c.args.input.now) r c.refuse_words.result))
    (sym c.in-Err.is ∙ c.line_of_words-read.ensures.line)
    (said_ends (g.F.Images.named c.args.files.now) (λ files ending. EndsLine (map string_bytes c.args.words.now) files (g.I.Source.left c.args.input.now) (Err c.in-Err.fault) ending) (WordsRefused c.in-Err.fault) c.refuse_words.result c.refuse_words.ensures (λ files. refl))

pub returns-in-Err-clause-refused : goal.returns-in-Err-clause-refused
returns-in-Err-clause-refused g c = subst (λ (r : Result Line WordsFault). RefusesLine r c.refuse_words.result) (sym c.in-Err.is ∙ c.line_of_words-read.ensures.line) (said_or (WordsRefused c.in-Err.fault) c.refuse_words.result c.refuse_words.ensures)

pub returns-in-Err-clause-kind : goal.returns-in-Err-clause-kind
returns-in-Err-clause-kind g c = (words_leave c.in-Err.fault c.refuse_words.result c.refuse_words.ensures).kind

pub returns-in-Err-clause-file_cause : goal.returns-in-Err-clause-file_cause
returns-in-Err-clause-file_cause g c = λ e. absurd (said_not (WordsRefused c.in-Err.fault) c.refuse_words.result FileFault c.refuse_words.ensures (λ x. cc) (λ x. cc) e)

pub returns-in-Err-clause-read_cause : goal.returns-in-Err-clause-read_cause
returns-in-Err-clause-read_cause g c = λ e. absurd (said_not (WordsRefused c.in-Err.fault) c.refuse_words.result ReadFault c.refuse_words.ensures (λ x. cc) (λ x. cc) e)

pub returns-in-Err-clause-write_cause : goal.returns-in-Err-clause-write_cause
returns-in-Err-clause-write_cause g c = λ e. absurd (said_not (WordsRefused c.in-Err.fault) c.refuse_words.result WriteFault c.refuse_words.ensures (λ x. cc) (λ x. cc) e)

pub returns-in-Err-clause-errors_cause : goal.returns-in-Err-clause-errors_cause
returns-in-Err-clause-errors_cause g c = (words_leave c.in-Err.fault c.refuse_words.result c.refuse_words.ensures).errors

pub returns-in-Err-clause-untaken : goal.returns-in-Err-clause-untaken
returns-in-Err-clause-untaken g c = λ _. refl

pub returns-in-Err-clause-unwritten : goal.returns-in-Err-clause-unwritten
returns-in-Err-clause-unwritten g c = λ _. refl

pub returns-in-Err-clause-silent : goal.returns-in-Err-clause-silent
returns-in-Err-clause-silent g c = λ e. absurd ((words_leave c.in-Err.fault c.refuse_words.result c.refuse_words.ensures).silent e)

pub returns-in-Ok-clause-done : goal.returns-in-Ok-clause-done
returns-in-Ok-clause-done g c = λ done.
    line_told (map string_bytes c.args.words.now) (g.F.Images.named c.args.files.now) _ _
    (g.I.Source.left c.args.input.now) (g.O.Sink.held c.args.output.now) (g.O.Sink.held c.count_line.new.output) (sym c.in-Ok.is ∙ c.line_of_words-read.ensures.line) (c.count_line.ensures.done done)

pub returns-in-Ok-clause-ending : goal.returns-in-Ok-clause-ending
returns-in-Ok-clause-ending g c =
    subst (λ (r : Result Line WordsFault). IfSome (g.F.Images.named c.args.files.now) (λ files. is_failure c.count_line.result ≡ false → EndsLine (map string_bytes c.args.words.now) files (g.I.Source.left c.args.input.now) r c.count_line.result))
    (sym c.in-Ok.is ∙ c.line_of_words-read.ensures.line) c.count_line.ensures.ending

pub returns-in-Ok-clause-refused : goal.returns-in-Ok-clause-refused
returns-in-Ok-clause-refused g c = subst (λ (r : Result Line WordsFault). RefusesLine r c.count_line.result) (sym c.in-Ok.is ∙ c.line_of_words-read.ensures.line) c.count_line.ensures.refused

pub returns-in-Ok-clause-kind : goal.returns-in-Ok-clause-kind
returns-in-Ok-clause-kind g c = c.count_line.ensures.leaves.kind

pub returns-in-Ok-clause-file_cause : goal.returns-in-Ok-clause-file_cause
returns-in-Ok-clause-file_cause g c = λ e.
    subst (λ (r : Result Line WordsFault). Rose (g.F.Images.faults c.args.files.now) (g.F.Images.faults c.count_line.new.files) ⊎ MissesFirst (map string_bytes c.args.words.now) r (g.F.Images.named c.args.files.now))
    (sym c.in-Ok.is ∙ c.line_of_words-read.ensures.line) (c.count_line.ensures.leaves.file e)

pub returns-in-Ok-clause-read_cause : goal.returns-in-Ok-clause-read_cause
returns-in-Ok-clause-read_cause g c = c.count_line.ensures.leaves.read

pub returns-in-Ok-clause-write_cause : goal.returns-in-Ok-clause-write_cause
returns-in-Ok-clause-write_cause g c = c.count_line.ensures.leaves.write

pub returns-in-Ok-clause-errors_cause : goal.returns-in-Ok-clause-errors_cause
returns-in-Ok-clause-errors_cause g c = c.count_line.ensures.leaves.errors

pub returns-in-Ok-clause-untaken : goal.returns-in-Ok-clause-untaken
returns-in-Ok-clause-untaken g c = c.count_line.ensures.leaves.untaken

pub returns-in-Ok-clause-unwritten : goal.returns-in-Ok-clause-unwritten
returns-in-Ok-clause-unwritten g c = c.count_line.ensures.leaves.unwritten

pub returns-in-Ok-clause-silent : goal.returns-in-Ok-clause-silent
returns-in-Ok-clause-silent g c = c.count_line.ensures.leaves.silent
