use Rattle.std.proofs.Common.{length, arith, ap₂, ◌∙◌}
use Rattle.command_model.specs.WorldReports.{context_lines, lines_of_context}
use Rattle.emu_model.specs.State.{Core, Vectors}
use Rattle.emu_report.proofs.Lines.{lines_cut, lines_put}
use Rattle.emu_report.proofs.Puts.{cut_equal, put_equal, puts_cut}
use Rattle.commands.proofs.threads.put_contexts.Goals as goal

pub returns-in_err-put_context-clause-bytes : goal.returns-in_err-put_context-clause-bytes
returns-in_err-put_context-clause-bytes g c =
    puts_cut _ _ _ _ c.from_residual.ensures.0
    (lines_cut _ _ _ (lines_of_context c.args.world.now.world) (length c.args.world.now.world.contexts) c.registers.k (omega (arith, c.contexts-k-end.ensures.value)) c.registers.invariant.put
    (cut_equal _ _ _ _ (ap₂ (λ (core : Core) (vectors : Vectors). context_lines c.registers.k core vectors) c.context.ensures.core c.context.ensures.vectors) c.in_err-put_context.ensures.bytes))

pub registers-preserved : goal.registers-preserved
registers-preserved g c = record {
  put = lines_put _ _ _ (lines_of_context c.args.world.now.world) c.registers.k c.registers.invariant.put
      (put_equal _ _ _ _ (ap₂ (λ (core : Core) (vectors : Vectors). context_lines c.registers.k core vectors) c.context.ensures.core c.context.ensures.vectors) c.in_ok-put_context.ensures.bytes);
  kept = c.in_ok-put_context.ensures.cause.kept ∙ c.registers.invariant.kept;
}
