use Rattle.std.proofs.Common.{◌≡◌, ◌⊎◌, false, IfSome, Ok, map, string_bytes, refl, sym, subst}
use Rattle.io_gate.specs.Streams.{Rose}
use Rattle.command_lines.specs.declared.ending.Ending.TheVariants.{Done, OutOfMemory, WordsRefused}
use Rattle.command_model.specs.declared.command_line.Line.{Line}
use Rattle.commands.specs.Lines.{MissesFirst}
use Rattle.commands.specs.Promises.{is_failure}
use Rattle.tool_refusals.proofs.Endings.{failed_ends, file_as, said_ends, said_leaves, said_not, wanting_leaves}
use Rattle.tool_counts.specs.Endings.{other_command, EndsLine, RefusesLine}
use Rattle.tool_counts.proofs.Lines.{other_ends, other_refused, run_told, sweep_told}
use Rattle.tool_counts.proofs.command.count_line.Goals as goal

pub returns-in-Err-clause-ending : goal.returns-in-Err-clause-ending
returns-in-Err-clause-ending g c = failed_ends (g.F.Images.named c.args.files.now) (λ files. EndsLine (map string_bytes c.args.words.now) files (g.I.Source.left c.args.input.now) (Ok c.args.line.now) OutOfMemory) OutOfMemory refl

pub returns-in-Err-clause-refused : goal.returns-in-Err-clause-refused
returns-in-Err-clause-refused g c = subst (λ (l : Line). RefusesLine (Ok l) OutOfMemory) (sym c.in-Run.is) tt

pub returns-in-Err-clause-leaves : goal.returns-in-Err-clause-leaves
returns-in-Err-clause-leaves g c = wanting_leaves refl refl refl

pub returns-in-Ok-clause-done : goal.returns-in-Ok-clause-done
returns-in-Ok-clause-done g c = λ done.
    run_told (map string_bytes c.args.words.now) (g.F.Images.named c.args.files.now) c.args.line.now c.in-Run.file c.in-Run.args c.in-Run.length c.in-Run.budget c.in-Run.pages c.in-Ok.lengths.items
    (g.I.Source.left c.args.input.now) (g.O.Sink.held c.args.output.now) (g.O.Sink.held c.count_file.new.output) c.in-Run.is c.in-Ok.ensures (c.count_file.ensures.done done)

pub returns-in-Ok-clause-ending : goal.returns-in-Ok-clause-ending
returns-in-Ok-clause-ending g c =
    subst (λ (l : Line). IfSome (g.F.Images.named c.args.files.now) (λ files. is_failure c.count_file.result ≡ false → EndsLine (map string_bytes c.args.words.now) files (g.I.Source.left c.args.input.now) (Ok l) c.count_file.result))
    (sym c.in-Run.is) c.count_file.ensures.ending

pub returns-in-Ok-clause-refused : goal.returns-in-Ok-clause-refused
returns-in-Ok-clause-refused g c = subst (λ (l : Line). RefusesLine (Ok l) c.count_file.result) (sym c.in-Run.is) tt

pub returns-in-Ok-clause-leaves : goal.returns-in-Ok-clause-leaves
returns-in-Ok-clause-leaves g c =
    file_as c.count_file.result (λ f. subst (λ (l : Line). Rose (g.F.Images.faults c.args.files.now) (g.F.Images.faults c.count_file.new.files) ⊎ MissesFirst (map string_bytes c.args.words.now) (Ok l) (g.F.Images.named c.args.files.now)) (sym c.in-Run.is) f)
    c.count_file.ensures.leaves

pub returns-in-Err-all_lengths-clause-ending : goal.returns-in-Err-all_lengths-clause-ending
returns-in-Err-all_lengths-clause-ending g c = failed_ends (g.F.Images.named c.args.files.now) (λ files. EndsLine (map string_bytes c.args.words.now) files (g.I.Source.left c.args.input.now) (Ok c.args.line.now) OutOfMemory) OutOfMemory refl

pub returns-in-Err-all_lengths-clause-refused : goal.returns-in-Err-all_lengths-clause-refused
returns-in-Err-all_lengths-clause-refused g c = subst (λ (l : Line). RefusesLine (Ok l) OutOfMemory) (sym c.in-Sweep.is) tt

pub returns-in-Err-all_lengths-clause-leaves : goal.returns-in-Err-all_lengths-clause-leaves
returns-in-Err-all_lengths-clause-leaves g c = wanting_leaves refl refl refl

pub returns-in-Ok-all_lengths-clause-done : goal.returns-in-Ok-all_lengths-clause-done
returns-in-Ok-all_lengths-clause-done g c = λ done.
    sweep_told (map string_bytes c.args.words.now) (g.F.Images.named c.args.files.now) c.args.line.now c.in-Sweep.file c.in-Sweep.args c.in-Sweep.budget c.in-Sweep.pages c.in-Ok-all_lengths.lengths.items
    (g.I.Source.left c.args.input.now) (g.O.Sink.held c.args.output.now) (g.O.Sink.held c.count_file-in-Ok-all_lengths.new.output) c.in-Sweep.is c.in-Ok-all_lengths.ensures (c.count_file-in-Ok-all_lengths.ensures.done done)

pub returns-in-Ok-all_lengths-clause-ending : goal.returns-in-Ok-all_lengths-clause-ending
returns-in-Ok-all_lengths-clause-ending g c =
    subst (λ (l : Line). IfSome (g.F.Images.named c.args.files.now) (λ files. is_failure c.count_file-in-Ok-all_lengths.result ≡ false → EndsLine (map string_bytes c.args.words.now) files (g.I.Source.left c.args.input.now) (Ok l) c.count_file-in-Ok-all_lengths.result))
    (sym c.in-Sweep.is) c.count_file-in-Ok-all_lengths.ensures.ending

pub returns-in-Ok-all_lengths-clause-refused : goal.returns-in-Ok-all_lengths-clause-refused
returns-in-Ok-all_lengths-clause-refused g c = subst (λ (l : Line). RefusesLine (Ok l) c.count_file-in-Ok-all_lengths.result) (sym c.in-Sweep.is) tt

pub returns-in-Ok-all_lengths-clause-leaves : goal.returns-in-Ok-all_lengths-clause-leaves
returns-in-Ok-all_lengths-clause-leaves g c =
    file_as c.count_file-in-Ok-all_lengths.result (λ f. subst (λ (l : Line). Rose (g.F.Images.faults c.args.files.now) (g.F.Images.faults c.count_file-in-Ok-all_lengths.new.files) ⊎ MissesFirst (map string_bytes c.args.words.now) (Ok l) (g.F.Images.named c.args.files.now)) (sym c.in-Sweep.is) f)
    c.count_file-in-Ok-all_lengths.ensures.leaves

pub returns-in_default-clause-done : goal.returns-in_default-clause-done
returns-in_default-clause-done g c = λ e. absurd (said_not (WordsRefused other_command) c.refuse_other.result Done c.refuse_other.ensures (λ x. cc) (λ x. cc) e)

pub returns-in_default-clause-ending : goal.returns-in_default-clause-ending
returns-in_default-clause-ending g c =
    said_ends (g.F.Images.named c.args.files.now) (λ files ending. EndsLine (map string_bytes c.args.words.now) files (g.I.Source.left c.args.input.now) (Ok c.args.line.now) ending) (WordsRefused other_command) c.refuse_other.result c.refuse_other.ensures
    (λ files. other_ends (map string_bytes c.args.words.now) files (g.I.Source.left c.args.input.now) c.args.line.now c.in_default.not-Run c.in_default.not-Sweep)

pub returns-in_default-clause-refused : goal.returns-in_default-clause-refused
returns-in_default-clause-refused g c = other_refused c.args.line.now c.refuse_other.result c.refuse_other.ensures c.in_default.not-Run c.in_default.not-Sweep

pub returns-in_default-clause-leaves : goal.returns-in_default-clause-leaves
returns-in_default-clause-leaves g c = said_leaves (WordsRefused other_command) c.refuse_other.result c.refuse_other.ensures refl refl refl (λ x. cc) (λ x. cc) (λ x. cc) (λ x. cc) refl refl
