use Rattle.emu_run.specs.Registers.{scalar_lines, vector_lines}
use Rattle.emu_report.proofs.Puts.{cut_first, puts_cut, puts_second}
use Rattle.emu_report.proofs.registers.put_registers.Goals as goal

pub returns-in_err-put_scalars-clause-bytes : goal.returns-in_err-put_scalars-clause-bytes
returns-in_err-put_scalars-clause-bytes g c =
    puts_cut _ _ _ _ c.from_residual.ensures.0
    (cut_first _ _ (scalar_lines c.args.core.now c.args.vec.now.bits) (vector_lines c.args.vec.now) c.in_err-put_scalars.ensures.bytes)

pub returns-clause-bytes : goal.returns-clause-bytes
returns-clause-bytes g c =
    puts_second _ _ _ (scalar_lines c.args.core.now c.args.vec.now.bits) (vector_lines c.args.vec.now) _ c.in_ok-put_scalars.ensures.bytes c.put_vectors.ensures.bytes
