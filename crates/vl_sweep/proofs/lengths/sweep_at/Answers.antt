use Rattle.std.proofs.Common.{map, string_bytes, ap, ◌∙◌}
use Rattle.elf_image.specs.Images.{seen_image}
use Rattle.vl_sweep.specs.Bounded.{Bounded}
use Rattle.vl_sweep.specs.Sweeps.{sweep_of}
use Rattle.vl_sweep.proofs.LineAt.{first_is, puts_first, puts_whole}
use Rattle.vl_sweep.proofs.lengths.sweep_at.Goals as goal

pub returns-in-Ok-put_run_line-clause-line : goal.returns-in-Ok-put_run_line-clause-line
returns-in-Ok-put_run_line-clause-line g c =
    let s = sweep_of c.args.bytes.now (seen_image c.args.image.now) (map string_bytes c.args.args.now) c.args.pages c.args.budget c.args.input.now in
    let ran = c.in-Ok.ensures.run in
    let written = c.kept-kept.ensures.bytes ∙ ap (λ (b : Bounded). b.held) ran.output in
    puts_whole s c.args.length c.bits.result c.chosen.result.now c.kept-kept.result.now c.kept-count.result.now c.in-Ok.machine.parts c.bits.ensures.value
    (first_is s c.args.length c.args.first c.kept-kept.result.now c.chosen.result.now c.requires.first c.chosen.ensures written)
    ran.parts written (c.kept-count.ensures.bytes ∙ ap (λ (b : Bounded). b.held) ran.to_errors) _ ran.fits _ _ c.in-Ok-put_run_line.ensures.bytes

pub returns-clause-line : goal.returns-clause-line
returns-clause-line g c =
    let s = sweep_of c.args.bytes.now (seen_image c.args.image.now) (map string_bytes c.args.args.now) c.args.pages c.args.budget c.args.input.now in
    let ran = c.in-Ok.ensures.run in
    let written = c.kept-kept.ensures.bytes ∙ ap (λ (b : Bounded). b.held) ran.output in
    puts_first s c.args.length c.bits.result c.chosen.result.now c.kept-kept.result.now c.kept-count.result.now c.in-Ok.machine.parts c.bits.ensures.value
    (first_is s c.args.length c.args.first c.kept-kept.result.now c.chosen.result.now c.requires.first c.chosen.ensures written)
    ran.parts written (c.kept-count.ensures.bytes ∙ ap (λ (b : Bounded). b.held) ran.to_errors) _ ran.fits _ _ c.in-Err-put_run_line.ensures.bytes
