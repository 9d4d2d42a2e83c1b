use Rattle.std.proofs.Common.{ap, ◌∙◌}
use Rattle.emu_model.specs.State.{Core, Vectors}
use Rattle.emu_run.specs.Registers.{scalar_lines}
use Rattle.emu_report.proofs.Puts.{puts_equal}
use Rattle.dbg_core.proofs.lines.put_machine_scalars.Goals as goal

pub returns-clause-bytes : goal.returns-clause-bytes
returns-clause-bytes g c =
    puts_equal _ _ _ _ _ (ap (λ (k : Core). scalar_lines k c.vec.result.now.bits) c.core.ensures ∙ ap (λ (v : Vectors). scalar_lines c.args.machine.now.parts.core v.bits) c.vec.ensures) c.put_scalars.ensures.bytes
