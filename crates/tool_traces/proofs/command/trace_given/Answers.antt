use Rattle.std.proofs.Common.{◌≡◌, ◌⊎◌, false, IfSome, Result, Err, map, string_bytes, refl, sym, subst, ◌∙◌}
use Rattle.io_gate.specs.Streams.{Rose}
use Rattle.command_lines.specs.declared.ending.Ending.TheVariants.{Done, WordsRefused}
use Rattle.command_model.specs.declared.command_line.Line.{Line}
use Rattle.command_model.specs.declared.command_line.WordsFault.{WordsFault}
use Rattle.commands.specs.Lines.{MissesFirst}
use Rattle.commands.specs.Promises.{is_failure}
use Rattle.tool_refusals.proofs.Endings.{file_as, said_ends, said_leaves, said_not}
use Rattle.tool_traces.specs.Endings.{EndsLine}
use Rattle.tool_traces.proofs.Told.{read_told}
use Rattle.tool_traces.proofs.command.trace_given.Goals as goal

pub returns-in-Ok-clause-done : goal.returns-in-Ok-clause-done
returns-in-Ok-clause-done g c = λ done.
    read_told (map string_bytes c.args.words.now) (g.F.Images.named c.args.files.now) (g.I.Source.left c.args.input.now) (g.O.Sink.held c.args.output.now) (g.O.Sink.held c.trace_line.new.output)
    (map string_bytes c.args.same.now) c.args.given.now _ _ (sym c.in-Ok.is ∙ c.line_of_words-read.ensures.line) (c.trace_line.ensures.done done)

pub returns-in-Ok-clause-ending : goal.returns-in-Ok-clause-ending
returns-in-Ok-clause-ending g c =
    subst (λ (r : Result Line WordsFault). IfSome (g.F.Images.named c.args.files.now) (λ files. is_failure c.trace_line.result ≡ false → EndsLine (map string_bytes c.args.words.now) (map string_bytes c.args.same.now) c.args.given.now files (g.I.Source.left c.args.input.now) r c.trace_line.result))
    (sym c.in-Ok.is ∙ c.line_of_words-read.ensures.line) c.trace_line.ensures.ending

pub returns-in-Ok-clause-leaves : goal.returns-in-Ok-clause-leaves
returns-in-Ok-clause-leaves g c =
    file_as c.trace_line.result (λ f. subst (λ (r : Result Line WordsFault). Rose (g.F.Images.faults c.args.files.now) (g.F.Images.faults c.trace_line.new.files) ⊎ MissesFirst (map string_bytes c.args.same.now) r (g.F.Images.named c.args.files.now)) (sym c.in-Ok.is ∙ c.line_of_words-read.ensures.line) f)
    c.trace_line.ensures.leaves

pub returns-in-Err-clause-done : goal.returns-in-Err-clause-done
returns-in-Err-clause-done g c = λ e. absurd (said_not (WordsRefused c.in-Err.fault) c.refuse_words.result Done c.refuse_words.ensures (λ x. cc) (λ x. cc) e)

pub returns-in-Err-clause-ending : goal.returns-in-Err-clause-ending
returns-in-Err-clause-ending g c =
    subst (λ (r : Result Line WordsFault). IfSome (g.F.Images.named c.args.files.now) (λ files. is_failure c.refuse_words.result ≡ false → EndsLine (map string_bytes c.args.words.now) (map string_bytes c.args.same.now) c.args.given.now files (g.I.Source.left c.args.input.now) r c.refuse_words.result))
    (sym c.in-Err.is ∙ c.line_of_words-read.ensures.line)
    (said_ends (g.F.Images.named c.args.files.now) (λ files ending. EndsLine (map string_bytes c.args.words.now) (map string_bytes c.args.same.now) c.args.given.now files (g.I.Source.left c.args.input.now) (Err c.in-Err.fault) ending) (WordsRefused c.in-Err.fault) c.refuse_words.result c.refuse_words.ensures (λ files. refl))

pub returns-in-Err-clause-leaves : goal.returns-in-Err-clause-leaves
returns-in-Err-clause-leaves g c = said_leaves (WordsRefused c.in-Err.fault) c.refuse_words.result c.refuse_words.ensures refl refl refl (λ x. cc) (λ x. cc) (λ x. cc) (λ x. cc) refl refl
