use Rattle.std.proofs.Common.{arith, ◌∙◌}
use Rattle.emu_report.proofs.Lines.{lines_cut, lines_put}
use Rattle.emu_report.proofs.Puts.{puts_cut}
use Rattle.emu_report.specs.VectorLines.{line_of}
use Rattle.emu_report.proofs.registers.put_lines.Goals as goal

pub returns-in_err-put_line-clause-bytes : goal.returns-in_err-put_line-clause-bytes
returns-in_err-put_line-clause-bytes g c =
    puts_cut _ _ _ _ c.from_residual.ensures.0
    (lines_cut _ _ _ (line_of c.args.vec.now c.args.kind) c.args.count c.registers.k (omega arith) c.registers.invariant.put c.in_err-put_line.ensures.bytes)

pub registers-preserved : goal.registers-preserved
registers-preserved g c = record {
  put = lines_put _ _ _ (line_of c.args.vec.now c.args.kind) c.registers.k c.registers.invariant.put c.in_ok-put_line.ensures.bytes;
  kept = c.in_ok-put_line.ensures.cause.kept ∙ c.registers.invariant.kept;
}
