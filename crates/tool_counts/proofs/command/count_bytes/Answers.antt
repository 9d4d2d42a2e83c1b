use Rattle.std.proofs.Common.{map, string_bytes, ap, refl, sym, ◌∙◌}
use Rattle.elf_image.specs.Images.{seen, seen_image}
use Rattle.emu_system.specs.Image.{elf}
use Rattle.command_lines.specs.Outcome.{program_arguments}
use Rattle.command_lines.specs.declared.ending.Ending.TheVariants as ends
use Rattle.tool_refusals.specs.Endings.{EndsOver}
use Rattle.tool_refusals.proofs.Endings.{opened_image, refused_image, said_leaves, said_not, wanting_leaves}
use Rattle.tool_counts.proofs.Lines.{image_told}
use Rattle.tool_counts.proofs.command.count_bytes.Goals as goal

pub returns-in-Err-clause-done : goal.returns-in-Err-clause-done
returns-in-Err-clause-done g c = λ e. absurd (said_not (ends.ImageRefused c.in-Err.fault) c.refuse_image.result ends.Done c.refuse_image.ensures (λ x. cc) (λ x. cc) e)

pub returns-in-Err-clause-ending : goal.returns-in-Err-clause-ending
returns-in-Err-clause-ending g c =
    refused_image (elf c.args.bytes.now c.args.program.now.pages) (EndsOver (g.I.Source.left c.args.input.now)) c.in-Err.fault c.refuse_image.result (ap seen (sym c.in-Err.is) ∙ c.read.ensures.image) c.refuse_image.ensures

pub returns-in-Err-clause-leaves : goal.returns-in-Err-clause-leaves
returns-in-Err-clause-leaves g c = said_leaves (ends.ImageRefused c.in-Err.fault) c.refuse_image.result c.refuse_image.ensures refl refl refl (λ x. cc) (λ x. cc) (λ x. cc) (λ x. cc) refl refl

pub returns-in-Err-arguments-clause-leaves : goal.returns-in-Err-arguments-clause-leaves
returns-in-Err-arguments-clause-leaves g c = wanting_leaves refl refl refl

pub returns-in-Ok-arguments-clause-done : goal.returns-in-Ok-arguments-clause-done
returns-in-Ok-arguments-clause-done g c = λ done.
    let p = c.args.program.now in
    image_told c.args.bytes.now (map string_bytes c.deref.result.now) (program_arguments (map string_bytes c.args.words.now) p.file p.args) p.budget p.pages p.lengths.items p.headed (seen_image c.in-Ok.image) (elf c.args.bytes.now p.pages)
    (g.I.Source.left c.args.input.now) (g.O.Sink.held c.args.output.now) (g.O.Sink.held c.count_image.new.output)
    (ap seen (sym c.in-Ok.is) ∙ c.read.ensures.image) (ap (map string_bytes) c.deref.ensures.value ∙ c.in-Ok-arguments.ensures) (c.count_image.ensures.done done)

pub returns-in-Ok-arguments-clause-ending : goal.returns-in-Ok-arguments-clause-ending
returns-in-Ok-arguments-clause-ending g c = λ fine.
    opened_image (elf c.args.bytes.now c.args.program.now.pages) (EndsOver (g.I.Source.left c.args.input.now)) (seen_image c.in-Ok.image) c.count_image.result (ap seen (sym c.in-Ok.is) ∙ c.read.ensures.image) (c.count_image.ensures.ending fine)

pub returns-in-Ok-arguments-clause-leaves : goal.returns-in-Ok-arguments-clause-leaves
returns-in-Ok-arguments-clause-leaves g c = c.count_image.ensures.leaves
