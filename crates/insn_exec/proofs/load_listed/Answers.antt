use Rattle.std.proofs.Common.{List, sym, ap, ◌∙◌}
use Rattle.emu_model.specs.Elements.{Element}
use Rattle.sve_effects.specs.Effects.{first_fault_of}
use Rattle.insn_exec.proofs.load_listed.Goals as goal

-- the elements of the list are those of the row
pub returns-clause-done : goal.returns-clause-done
returns-clause-done c =
    ap (λ (es : List Element). first_fault_of c.args.insn.now es c.args.core.now c.args.vec.now c.args.memory.now.memory) (sym c.elements_of-list.ensures.elements)
    ∙ c.exec.ensures.done
