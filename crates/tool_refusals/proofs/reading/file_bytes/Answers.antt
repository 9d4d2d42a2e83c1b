use Rattle.std.proofs.Common.{Err, inl, refl, ap, ◌∙◌}
use Rattle.io_gate.specs.declared.images.ImagesError.{ImagesError}
use Rattle.command_lines.specs.declared.ending.Ending.TheVariants.{Done, FileFault, OutOfMemory}
use Rattle.tool_refusals.proofs.Endings.{no_file, said_fails, said_leaves, said_not, wanting_leaves}
use Rattle.tool_refusals.proofs.reading.file_bytes.Goals as goal

pub returns-in-Err-Failed-clause-content : goal.returns-in-Err-Failed-clause-content
returns-in-Err-Failed-clause-content g c = no_file (g.F.Images.named c.args.files.now) c.args.name.now c.say.result (said_fails FileFault c.say.result c.say.ensures refl)

pub returns-in-Err-Failed-clause-leaves : goal.returns-in-Err-Failed-clause-leaves
returns-in-Err-Failed-clause-leaves g c =
    said_leaves FileFault c.say.result c.say.ensures refl refl refl (λ _. inl (c.read_whole.ensures.cause.rose (c.in-Err-Failed.is ∙ ap (λ (x : ImagesError). Err x) c.in-Err-Failed.field-0-is)))
    (λ e. cc) (λ e. cc) (λ e. cc) tt tt

pub returns-in-Err-Failed-clause-undone : goal.returns-in-Err-Failed-clause-undone
returns-in-Err-Failed-clause-undone g c = said_not FileFault c.say.result Done c.say.ensures (λ e. cc) (λ e. cc)

pub returns-in-Err-OutOfMemory-clause-content : goal.returns-in-Err-OutOfMemory-clause-content
returns-in-Err-OutOfMemory-clause-content g c = no_file (g.F.Images.named c.args.files.now) c.args.name.now OutOfMemory (λ e. cc)

pub returns-in-Err-OutOfMemory-clause-leaves : goal.returns-in-Err-OutOfMemory-clause-leaves
returns-in-Err-OutOfMemory-clause-leaves g c = wanting_leaves tt tt refl
