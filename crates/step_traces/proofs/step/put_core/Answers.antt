use Rattle.std.proofs.Common.{ap₂}
use Rattle.emu_model.specs.State.{Core}
use Rattle.trace_lines.specs.Lines.{scalar_changes}
use Rattle.step_traces.proofs.Walking.{ok_equal}
use Rattle.step_traces.proofs.step.put_core.Goals as goal

pub returns-clause-bytes : goal.returns-clause-bytes
returns-clause-bytes g c = ok_equal _ _ _ _ c.put_scalars.result (ap₂ (λ (a b : Core). scalar_changes c.args.shown.now a b) c.core.ensures c.core-2.ensures) c.put_scalars.ensures.bytes
