use Rattle.std.proofs.Common.{◌∙◌, arith}
use Rattle.emu_report.proofs.Lines.{lines_put}
use Rattle.emu_run.specs.Registers.{lines_of}
use Rattle.trace_lines.specs.Lines.{x_change}
use Rattle.trace_lines.proofs.Putting.{left_out, put_all_told}
use Rattle.trace_lines.proofs.scalars.put_xs.Goals as goal

pub registers-preserved : goal.registers-preserved
registers-preserved g c = record {
  put = lines_put _ _ _ (x_change c.args.old.now c.args.new.now) c.registers.k c.registers.invariant.put (let h = c.in_ok-put_x.ensures.bytes in h);
  kept = c.in_ok-put_x.ensures.cause.kept ∙ c.registers.invariant.kept;
}

pub returns-clause-bytes : goal.returns-clause-bytes
returns-clause-bytes g c = put_all_told _ _ (x_change c.args.old.now c.args.new.now) c.args.told c.registers.k 31 (omega arith) c.if-not-told.false c.registers.invariant.put

pub returns-then-not-told-clause-bytes : goal.returns-then-not-told-clause-bytes
returns-then-not-told-clause-bytes g c = left_out _ (lines_of 31 (x_change c.args.old.now c.args.new.now)) c.args.told c.if-not-told.true
