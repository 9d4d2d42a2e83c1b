use Rattle.emu_report.proofs.Puts.{puts_equal}
use Rattle.commands.proofs.Runs.{registers_text}
use Rattle.commands.proofs.run.put_machine.Goals as goal

pub returns-clause-bytes : goal.returns-clause-bytes
returns-clause-bytes g c =
    puts_equal _ _ _ _ c.put_registers.result (registers_text c.args.machine.now.parts c.core.result.now c.vec.result.now c.core.ensures c.vec.ensures) c.put_registers.ensures.bytes
