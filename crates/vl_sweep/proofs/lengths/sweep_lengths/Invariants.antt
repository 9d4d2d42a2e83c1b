use Rattle.std.proofs.Common.{◌≡◌, map, string_bytes, true}
use Rattle.elf_image.specs.Images.{seen_image}
use Rattle.command_model.specs.SweepLaws.{first_fit}
use Rattle.vl_sweep.specs.Sweeps.{sweep_of}
use Rattle.vl_sweep.proofs.LinesSoFar.{HasLines}
use Rattle.vl_sweep.proofs.lengths.sweep_lengths.Given as goal

abbrev pub invariant-lengths : goal.invariant-lengths
invariant-lengths g l = record {
  lines : HasLines (sweep_of l.bytes (seen_image l.image) (map string_bytes l.args) l.pages l.budget l.input) l.shorter (g.O.Sink.held l.fn.output) (g.O.Sink.held l.output);
  fit : first_fit (sweep_of l.bytes (seen_image l.image) (map string_bytes l.args) l.pages l.budget l.input) l.shorter ≡ true;
  written : l.written.faults ≡ 0;
  errors : l.errors.faults ≡ 0;
  kept : g.O.Sink.faults l.output ≡ g.O.Sink.faults l.fn.output;
}
