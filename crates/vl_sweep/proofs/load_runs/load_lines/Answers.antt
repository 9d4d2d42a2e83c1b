use Rattle.std.proofs.Common.{arith}
use Rattle.elf_image.specs.Images.{seen_image}
use Rattle.vl_sweep.proofs.LoadAppended.{all_lines, one_more}
use Rattle.vl_sweep.proofs.load_runs.load_lines.Goals as goal

pub lengths-init : goal.lengths-init
lengths-init c = c.empty_sink-lines.ensures

pub lengths-preserved : goal.lengths-preserved
lengths-preserved c =
    one_more c.args.bytes.now (seen_image c.args.image.now) c.lengths.shorter c.length_behind.result c.lengths.lines.held _ c.length_behind.ensures c.lengths.invariant c.in_ok-push_line_at.ensures.line

pub returns : goal.returns
returns c = record {
  lines = all_lines c.args.bytes.now (seen_image c.args.image.now) c.lengths.shorter c.lengths.lines.held (omega (arith, c.lengths.auto.shorter-end, c.lengths-test.false)) c.lengths.invariant;
}
