use Rattle.std.proofs.Common.{arith, ◌∙◌}
use Rattle.emu_report.proofs.Puts.{puts_cut}
use Rattle.dis_text.specs.Segments.{executable_lines}
use Rattle.dis_text.proofs.Batches.{segments_put, segments_cut}
use Rattle.dis_text.proofs.segments.put_segments.Goals as goal

pub returns-in_err-put_executable-clause-bytes : goal.returns-in_err-put_executable-clause-bytes
returns-in_err-put_executable-clause-bytes g c =
    puts_cut _ _ _ _ c.from_residual.ensures.0
    (segments_cut _ _ _ (executable_lines c.args.file.now) c.args.segments.now c.loop-segment.segment-index _ (omega arith) c.loop-segment.invariant.put c.in_err-put_executable.ensures.bytes)

pub loop-segment-preserved : goal.loop-segment-preserved
loop-segment-preserved g c = record {
  put = segments_put _ _ _ (executable_lines c.args.file.now) c.args.segments.now c.loop-segment.segment-index _ (omega arith) c.loop-segment.invariant.put c.in_ok-put_executable.ensures.bytes;
  kept = c.in_ok-put_executable.ensures.cause.kept ∙ c.loop-segment.invariant.kept;
}
