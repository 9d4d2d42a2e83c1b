use Rattle.std.proofs.Common.{map, string_bytes, ap, refl, sym, ◌∙◌}
use Rattle.elf_image.specs.Images.{seen, seen_image}
use Rattle.emu_system.specs.Image.{elf}
use Rattle.command_lines.specs.Outcome.{program_arguments}
use Rattle.command_lines.specs.declared.ending.Ending.TheVariants.{Done, ImageRefused}
use Rattle.tool_refusals.proofs.Endings.{opened_image, refused_image, said_leaves, said_not, wanting_leaves}
use Rattle.tool_traces.specs.Endings.{EndsSymbols}
use Rattle.tool_traces.proofs.Told.{image_told}
use Rattle.tool_traces.proofs.command.trace_bytes.Goals as goal

pub returns-in-Err-clause-done : goal.returns-in-Err-clause-done
returns-in-Err-clause-done g c = λ e. absurd (said_not (ImageRefused c.in-Err.fault) c.refuse_image.result Done c.refuse_image.ensures (λ x. cc) (λ x. cc) e)

pub returns-in-Err-clause-ending : goal.returns-in-Err-clause-ending
returns-in-Err-clause-ending g c =
    refused_image (elf c.args.bytes.now c.args.program.now.pages) (EndsSymbols c.args.bytes.now (map string_bytes c.args.words.now) c.args.given.now (g.I.Source.left c.args.input.now)) c.in-Err.fault c.refuse_image.result
    (ap seen (sym c.in-Err.is) ∙ c.read.ensures.image) c.refuse_image.ensures

pub returns-in-Err-clause-leaves : goal.returns-in-Err-clause-leaves
returns-in-Err-clause-leaves g c = said_leaves (ImageRefused c.in-Err.fault) c.refuse_image.result c.refuse_image.ensures refl refl refl (λ x. cc) (λ x. cc) (λ x. cc) (λ x. cc) refl refl

pub returns-in-Err-arguments-clause-leaves : goal.returns-in-Err-arguments-clause-leaves
returns-in-Err-arguments-clause-leaves g c = wanting_leaves refl refl refl

pub returns-in-Ok-arguments-clause-done : goal.returns-in-Ok-arguments-clause-done
returns-in-Ok-arguments-clause-done g c = λ done.
    let p = c.args.program.now in
    image_told (map string_bytes c.args.words.now) (g.I.Source.left c.args.input.now) (g.O.Sink.held c.args.output.now) (g.O.Sink.held c.trace_asked.new.output)
    c.args.given.now c.args.bytes.now (map string_bytes c.deref.result.now) (program_arguments (map string_bytes c.args.same.now) p.file p.args) p.length p.budget p.pages
    (seen_image c.in-Ok.image) (elf c.args.bytes.now p.pages)
    (ap seen (sym c.in-Ok.is) ∙ c.read.ensures.image) (ap (map string_bytes) c.deref.ensures.value ∙ c.in-Ok-arguments.ensures) (c.trace_asked.ensures.done done)

pub returns-in-Ok-arguments-clause-ending : goal.returns-in-Ok-arguments-clause-ending
returns-in-Ok-arguments-clause-ending g c = λ fine.
    opened_image (elf c.args.bytes.now c.args.program.now.pages) (EndsSymbols c.args.bytes.now (map string_bytes c.args.words.now) c.args.given.now (g.I.Source.left c.args.input.now)) (seen_image c.in-Ok.image) c.trace_asked.result
    (ap seen (sym c.in-Ok.is) ∙ c.read.ensures.image) (c.trace_asked.ensures.ending fine)

pub returns-in-Ok-arguments-clause-leaves : goal.returns-in-Ok-arguments-clause-leaves
returns-in-Ok-arguments-clause-leaves g c = c.trace_asked.ensures.leaves
