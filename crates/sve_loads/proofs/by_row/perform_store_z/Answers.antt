use Rattle.std.proofs.Common.{refl, sym, subst, ◌∙◌}
use Rattle.emu_model.specs.declared.access.Kind.TheVariants.{Write}
use Rattle.sve_insn.specs.declared.form.SveForm.{SveForm}
use Rattle.sve_loads.specs.AtOnce.{IsAtOnce}
use Rattle.sve_loads.specs.Plans.{store_plan}
use Rattle.sve_loads.proofs.InGroup.{store_row}
use Rattle.sve_loads.proofs.by_row.perform_store_z.Goals as goal

pub returns-clause-done : goal.returns-clause-done
returns-clause-done c = λ is. store_row _ _ c.args.core.now c.args.vec.now c.args.mem.now.memory _ refl (c.store_z.ensures.stored is) (sym c.in-StoreZ.is ∙ c.form.ensures.form)

pub returns-clause-stores : goal.returns-clause-stores
returns-clause-stores c = λ n base own once.
    c.store_z.ensures.at_once n base (subst (λ (f : SveForm). IsAtOnce n base Write (store_plan f c.args.core.now c.args.vec.now) c.args.core.now c.args.vec.now c.args.mem.now.memory) (sym c.form.ensures.form ∙ c.in-StoreZ.is) once)
