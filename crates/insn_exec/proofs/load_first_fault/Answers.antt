use Rattle.std.proofs.Common.{sym, ap, ◌∙◌}
use Rattle.emu_model.specs.Marks.{MarkedMemory}
use Rattle.emu_model.specs.State.{Vectors}
use Rattle.sve_effects.specs.Effects.{first_fault}
use Rattle.insn_exec.proofs.load_first_fault.Goals as goal

-- a load that wasn't done at once has left the vectors and the memory as they were
pub returns-clause-done : goal.returns-clause-done
returns-clause-done c =
    ap (λ (v : Vectors). first_fault c.args.insn.now c.args.core.now v c.args.memory.now.memory) (sym (c.load_unrefused.ensures.kept c.if-load_unrefused.false))
    ∙ ap (λ (m : MarkedMemory). first_fault c.args.insn.now c.args.core.now c.load_unrefused.new.vec m.memory) (sym c.load_unrefused.ensures.memory)
    ∙ c.load_listed.ensures.done
