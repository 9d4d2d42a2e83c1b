use Rattle.std.proofs.Common.{◌≡◌, ◌⊎◌, false, IfSome, Ok, map, string_bytes, refl, sym, subst}
use Rattle.io_gate.specs.Streams.{Rose}
use Rattle.command_lines.specs.declared.ending.Ending.TheVariants.{Done, WordsRefused}
use Rattle.command_model.specs.declared.command_line.Line.{Line}
use Rattle.commands.specs.Lines.{MissesFirst}
use Rattle.commands.specs.Promises.{is_failure}
use Rattle.tool_refusals.proofs.Endings.{file_as, said_ends, said_leaves, said_not}
use Rattle.tool_traces.specs.Endings.{other_command, EndsLine}
use Rattle.tool_traces.proofs.Told.{line_told, other_ends}
use Rattle.tool_traces.proofs.command.trace_line.Goals as goal

pub returns-in-Run-clause-done : goal.returns-in-Run-clause-done
returns-in-Run-clause-done g c = λ done.
    line_told (map string_bytes c.args.words.now) (g.F.Images.named c.args.files.now) (g.I.Source.left c.args.input.now) (g.O.Sink.held c.args.output.now) (g.O.Sink.held c.trace_file.new.output)
    (map string_bytes c.args.same.now) c.args.given.now c.args.line.now c.in-Run.file c.in-Run.args c.in-Run.length c.in-Run.budget c.in-Run.pages c.in-Run.is (c.trace_file.ensures.done done)

pub returns-in-Run-clause-ending : goal.returns-in-Run-clause-ending
returns-in-Run-clause-ending g c =
    subst (λ (l : Line). IfSome (g.F.Images.named c.args.files.now) (λ files. is_failure c.trace_file.result ≡ false → EndsLine (map string_bytes c.args.words.now) (map string_bytes c.args.same.now) c.args.given.now files (g.I.Source.left c.args.input.now) (Ok l) c.trace_file.result))
    (sym c.in-Run.is) c.trace_file.ensures.ending

pub returns-in-Run-clause-leaves : goal.returns-in-Run-clause-leaves
returns-in-Run-clause-leaves g c =
    file_as c.trace_file.result (λ f. subst (λ (l : Line). Rose (g.F.Images.faults c.args.files.now) (g.F.Images.faults c.trace_file.new.files) ⊎ MissesFirst (map string_bytes c.args.same.now) (Ok l) (g.F.Images.named c.args.files.now)) (sym c.in-Run.is) f)
    c.trace_file.ensures.leaves

pub returns-in_default-clause-done : goal.returns-in_default-clause-done
returns-in_default-clause-done g c = λ e. absurd (said_not (WordsRefused other_command) c.refuse_other.result Done c.refuse_other.ensures (λ x. cc) (λ x. cc) e)

pub returns-in_default-clause-ending : goal.returns-in_default-clause-ending
returns-in_default-clause-ending g c =
    said_ends (g.F.Images.named c.args.files.now) (λ files ending. EndsLine (map string_bytes c.args.words.now) (map string_bytes c.args.same.now) c.args.given.now files (g.I.Source.left c.args.input.now) (Ok c.args.line.now) ending) (WordsRefused other_command) c.refuse_other.result c.refuse_other.ensures
    (λ files. other_ends (map string_bytes c.args.words.now) (map string_bytes c.args.same.now) c.args.given.now files (g.I.Source.left c.args.input.now) c.args.line.now c.in_default.not-Run)

pub returns-in_default-clause-leaves : goal.returns-in_default-clause-leaves
returns-in_default-clause-leaves g c = said_leaves (WordsRefused other_command) c.refuse_other.result c.refuse_other.ensures refl refl refl (λ x. cc) (λ x. cc) (λ x. cc) (λ x. cc) refl refl
