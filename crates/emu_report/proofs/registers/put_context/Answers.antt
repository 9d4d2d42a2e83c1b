use Rattle.std.proofs.Common.{◌++◌}
use Rattle.emu_run.specs.Registers.{scalar_lines, vector_lines}
use Rattle.command_model.specs.WorldReports.{thread_line}
use Rattle.emu_report.proofs.Puts.{cut_first, puts_cut, puts_second}
use Rattle.emu_report.proofs.registers.put_context.Goals as goal

pub returns-in_err-put_thread-clause-bytes : goal.returns-in_err-put_thread-clause-bytes
returns-in_err-put_thread-clause-bytes g c =
    puts_cut _ _ _ _ c.from_residual.ensures.0
    (cut_first _ _ (thread_line c.args.k) (scalar_lines c.args.core.now c.args.vec.now.bits ++ vector_lines c.args.vec.now) c.in_err-put_thread.ensures.bytes)

pub returns-clause-bytes : goal.returns-clause-bytes
returns-clause-bytes g c =
    puts_second _ _ _ (thread_line c.args.k) (scalar_lines c.args.core.now c.args.vec.now.bits ++ vector_lines c.args.vec.now) _ c.in_ok-put_thread.ensures.bytes c.put_registers.ensures.bytes
