use Rattle.std.proofs.Common.{◌++◌, ap}
use Rattle.io_gate.specs.Pieces.{puts_more, puts_stopped}
use Rattle.emu_run.specs.Reports.{after_steps}
use Rattle.command_model.specs.WorldReports.{contexts_lines, stop_text}
use Rattle.emu_report.proofs.Puts.{cut_equal, put_equal}
use Rattle.commands.proofs.threads.put_world.Goals as goal

pub returns-in_err-put_stop-clause-bytes : goal.returns-in_err-put_stop-clause-bytes
returns-in_err-put_stop-clause-bytes g c =
    puts_stopped _ _ (stop_text c.args.stop ++ after_steps c.args.world.now.world.steps) (contexts_lines c.args.world.now.world) _ c.from_residual.ensures.0
    (cut_equal _ _ _ _ (ap (λ steps. stop_text c.args.stop ++ after_steps steps) c.steps.ensures) c.in_err-put_stop.ensures.bytes)

pub returns-clause-bytes : goal.returns-clause-bytes
returns-clause-bytes g c =
    puts_more _ _ _ (stop_text c.args.stop ++ after_steps c.args.world.now.world.steps) (contexts_lines c.args.world.now.world) _
    (put_equal _ _ _ _ (ap (λ steps. stop_text c.args.stop ++ after_steps steps) c.steps.ensures) c.in_ok-put_stop.ensures.bytes) c.put_contexts.ensures.bytes
