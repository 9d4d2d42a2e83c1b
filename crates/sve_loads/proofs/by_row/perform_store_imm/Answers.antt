use Rattle.std.proofs.Common.{refl, sym, ◌∙◌}
use Rattle.sve_loads.proofs.InGroup.{store_row}
use Rattle.sve_loads.proofs.by_row.perform_store_imm.Goals as goal

pub returns-clause-done : goal.returns-clause-done
returns-clause-done c = λ is. store_row _ _ c.args.core.now c.args.vec.now c.args.mem.now.memory _ refl (c.store_imm.ensures.stored is) (sym c.in-StoreImm.is ∙ c.form.ensures.form)
