use Rattle.std.proofs.Common.{refl, sym, ◌∙◌}
use Rattle.sve_loads.proofs.InGroup.{load_row}
use Rattle.sve_loads.proofs.by_row.perform_load_imm.Goals as goal

pub returns-clause-done : goal.returns-clause-done
returns-clause-done c = λ is. load_row _ _ c.args.core.now c.args.vec.now c.args.mem.now.memory _ refl (c.load_imm.ensures.loaded is) (sym c.in-LoadImm.is ∙ c.form.ensures.form)
