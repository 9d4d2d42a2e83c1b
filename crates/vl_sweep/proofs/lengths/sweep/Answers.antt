use Rattle.std.proofs.Common.{map, string_bytes}
use Rattle.elf_image.specs.Images.{seen_image}
use Rattle.command_model.specs.Sweep.{text_before}
use Rattle.vl_sweep.specs.Sweeps.{sweep_of}
use Rattle.vl_sweep.proofs.LinesSoFar.{none_put, whole_text}
use Rattle.vl_sweep.proofs.lengths.sweep.Goals as goal

pub returns-in_default-clause-lines : goal.returns-in_default-clause-lines
returns-in_default-clause-lines g c =
    none_put (g.O.Sink.held c.args.output.now) (text_before (sweep_of c.args.bytes.now (seen_image c.args.image.now) (map string_bytes c.args.args.now) c.args.pages c.args.budget c.args.input.now))

pub returns-clause-whole : goal.returns-clause-whole
returns-clause-whole g c = λ is.
    whole_text (sweep_of c.args.bytes.now (seen_image c.args.image.now) (map string_bytes c.args.args.now) c.args.pages c.args.budget c.args.input.now) (g.O.Sink.held c.args.output.now) _ c.sweep_lengths.result is
    c.sweep_lengths.ensures.fits c.sweep_lengths.ensures.lines
