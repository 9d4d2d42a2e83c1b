use Rattle.std.proofs.Common.{ℕ, List, ◌++◌, ap, ◌∙◌}
use Rattle.elf_image.specs.Images.{seen_image}
use Rattle.vl_sweep.proofs.LoadAppended.{line_is}
use Rattle.vl_sweep.proofs.load_runs.push_line_at.Goals as goal

pub returns-in-Ok : goal.returns-in-Ok
returns-in-Ok c = record {
  line = c.in-Ok.ensures
      ∙ ap (λ (xs : List ℕ). c.args.lines.now.held ++ xs)
      (line_is c.args.bytes.now (seen_image c.args.image.now) c.args.length c.bits.result c.in_ok-machine.machine.parts c.kept.result.now c.bits.ensures.value c.in_ok-machine.ensures.run.parts
      (c.kept.ensures ∙ c.in_ok-machine.ensures.run.written));
}
