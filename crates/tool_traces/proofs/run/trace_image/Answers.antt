use Rattle.std.proofs.Common.{map, string_bytes, refl, ◌∙◌, arith}
use Rattle.std.proofs.lemmas.Grind.{common_steps}
use Rattle.std.proofs.lemmas.Option.{IfSome_then}
use Rattle.elf_image.specs.Images.{seen_image}
use Rattle.emu_system.specs.Start.{opening}
use Rattle.step_traces.specs.Traces.{trace_text}
use Rattle.tool_refusals.proofs.Endings.{done_over, fits_over, over_leaves, untold_leaves}
use Rattle.tool_traces.proofs.Told.{input_told}
use Rattle.tool_traces.proofs.run.trace_image.Goals as goal

pub returns-in-Err-clause-done : goal.returns-in-Err-clause-done
returns-in-Err-clause-done g c = λ e. absurd (c.in-Err.ensures.undone e)

pub returns-in-Err-clause-ending : goal.returns-in-Err-clause-ending
returns-in-Err-clause-ending g c = c.in-Err.ensures.over

pub returns-in-Err-clause-leaves : goal.returns-in-Err-clause-leaves
returns-in-Err-clause-leaves g c = untold_leaves c.in-Err.ending refl c.in-Err.ensures.leaves

pub returns-in-Ok-clause-done : goal.returns-in-Ok-clause-done
returns-in-Ok-clause-done g c = λ done.
    let p = c.args.program.now in
    let asked = c.args.asked.now in
    let start = opening c.args.bytes.now (seen_image c.args.image.now) (map string_bytes c.args.args.now) p.length p.pages in
    input_told (λ i. trace_text asked.shown asked.window start i p.budget) c.deref.result.now
    (g.I.Source.left c.args.input.now) (g.I.Source.left c.input_bytes.new.input) (g.O.Sink.held c.args.output.now) (g.O.Sink.held c.trace_input.new.output)
    (IfSome_then (g.I.Source.left c.args.input.now) c.in-Ok.ensures.content (λ i r. (c.deref.ensures.value ∙ r.0, r.1))) (c.trace_input.ensures.done done)

pub returns-in-Ok-clause-ending : goal.returns-in-Ok-clause-ending
returns-in-Ok-clause-ending g c =
    done_over (g.I.Source.left c.args.input.now) c.trace_input.result
    (fits_over (g.I.Source.left c.args.input.now) (g.I.Source.left c.input_bytes.new.input) c.deref.result.now
    (IfSome_then (g.I.Source.left c.args.input.now) c.in-Ok.ensures.content (λ i r. (c.deref.ensures.value ∙ r.0, r.1)))
    (grind (arith, common_steps, c.in-Ok.ensures, c.deref.ensures)))
    c.trace_input.ensures.ending

pub returns-in-Ok-clause-leaves : goal.returns-in-Ok-clause-leaves
returns-in-Ok-clause-leaves g c = over_leaves c.trace_input.result c.in-Ok.ensures.still c.trace_input.ensures.leaves
