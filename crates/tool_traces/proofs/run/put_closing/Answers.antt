use Rattle.std.proofs.Common.{ap, ◌∙◌}
use Rattle.emu_model.specs.State.{Core}
use Rattle.emu_report.proofs.Puts.{puts_equal}
use Rattle.tool_traces.proofs.Told.{end_told, step_told}
use Rattle.tool_traces.proofs.run.put_closing.Goals as goal

pub returns-then-left-clause-bytes : goal.returns-then-left-clause-bytes
returns-then-left-clause-bytes g c =
    puts_equal _ _ _ _ c.put_step.result
    (step_told c.args.machine.now.parts c.args.left c.steps.result c.pc.result c.if-left.true c.steps.ensures (c.pc.ensures.value ∙ ap (λ (k : Core). k.pc) c.core.ensures))
    c.put_step.ensures.bytes

pub returns-else-left-clause-bytes : goal.returns-else-left-clause-bytes
returns-else-left-clause-bytes g c = puts_equal _ _ _ _ c.put_ending.result (end_told c.args.machine.now.parts c.args.left c.if-left.false) c.put_ending.ensures.bytes
