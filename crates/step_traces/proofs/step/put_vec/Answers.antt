use Rattle.std.proofs.Common.{ap₂}
use Rattle.emu_model.specs.State.{Vectors}
use Rattle.trace_lines.specs.Lines.{vector_changes}
use Rattle.step_traces.proofs.Walking.{ok_equal}
use Rattle.step_traces.proofs.step.put_vec.Goals as goal

pub returns-clause-bytes : goal.returns-clause-bytes
returns-clause-bytes g c = ok_equal _ _ _ _ c.put_vectors.result (ap₂ (λ (a b : Vectors). vector_changes c.args.shown.now a b) c.vec.ensures c.vec-2.ensures) c.put_vectors.ensures.bytes
