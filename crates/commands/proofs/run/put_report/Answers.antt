use Rattle.io_gate.specs.Pieces.{puts_stopped, puts_more}
use Rattle.emu_run.specs.Reports.{ending_line}
use Rattle.emu_run.specs.Registers.{register_lines}
use Rattle.commands.proofs.run.put_report.Goals as goal

pub returns-in_err-put_ending-clause-bytes : goal.returns-in_err-put_ending-clause-bytes
returns-in_err-put_ending-clause-bytes g c =
    puts_stopped _ _ (ending_line c.args.machine.now.parts c.args.machine.now.parts.ended) (register_lines c.args.machine.now.parts) _ c.from_residual.ensures.0 c.in_err-put_ending.ensures.bytes

pub returns-clause-bytes : goal.returns-clause-bytes
returns-clause-bytes g c =
    puts_more _ _ _ (ending_line c.args.machine.now.parts c.args.machine.now.parts.ended) (register_lines c.args.machine.now.parts) _ c.in_ok-put_ending.ensures.bytes c.put_machine.ensures.bytes
