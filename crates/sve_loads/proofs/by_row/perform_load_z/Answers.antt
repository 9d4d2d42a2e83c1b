use Rattle.std.proofs.Common.{refl, sym, subst, ◌∙◌}
use Rattle.emu_model.specs.declared.access.Kind.TheVariants.{Read}
use Rattle.sve_insn.specs.declared.form.SveForm.{SveForm}
use Rattle.sve_loads.specs.AtOnce.{IsAtOnce}
use Rattle.sve_loads.specs.Plans.{load_plan}
use Rattle.sve_loads.proofs.InGroup.{load_row}
use Rattle.sve_loads.proofs.by_row.perform_load_z.Goals as goal

pub returns-clause-done : goal.returns-clause-done
returns-clause-done c = λ is. load_row _ _ c.args.core.now c.args.vec.now c.args.mem.now.memory _ refl (c.load_z.ensures.loaded is) (sym c.in-LoadZ.is ∙ c.form.ensures.form)

pub returns-clause-loads : goal.returns-clause-loads
returns-clause-loads c = λ n base own once.
    c.load_z.ensures.at_once n base (subst (λ (f : SveForm). IsAtOnce n base Read (load_plan f c.args.core.now c.args.vec.now) c.args.core.now c.args.vec.now c.args.mem.now.memory) (sym c.form.ensures.form ∙ c.in-LoadZ.is) once)
