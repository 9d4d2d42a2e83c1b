use Rattle.std.proofs.Common.{refl, sym, subst, ◌∙◌}
use Rattle.emu_model.specs.declared.access.Kind.TheVariants.{Read, Write}
use Rattle.sve_insn.specs.declared.form.SveForm.{SveForm}
use Rattle.sve_loads.specs.AtOnce.{IsAtOnce}
use Rattle.sve_loads.specs.Plans.{load_plan, store_plan}
use Rattle.sve_loads.proofs.InGroup.{load_row, store_row}
use Rattle.sve_loads.proofs.at_once.by_form.Goals as goal

pub returns-in-LoadImm-clause-done : goal.returns-in-LoadImm-clause-done
returns-in-LoadImm-clause-done c = λ is. load_row _ _ c.args.core.now c.args.vec.now c.args.mem.now.memory _ refl (c.load_imm.ensures.loaded is) (sym c.in-LoadImm.is ∙ c.form.ensures.form)

pub returns-in-LoadReg-clause-done : goal.returns-in-LoadReg-clause-done
returns-in-LoadReg-clause-done c = λ is. load_row _ _ c.args.core.now c.args.vec.now c.args.mem.now.memory _ refl (c.load_reg.ensures.loaded is) (sym c.in-LoadReg.is ∙ c.form.ensures.form)

pub returns-in-LoadNtImm-clause-done : goal.returns-in-LoadNtImm-clause-done
returns-in-LoadNtImm-clause-done c = λ is. load_row _ _ c.args.core.now c.args.vec.now c.args.mem.now.memory _ refl (c.load_nt_imm.ensures.loaded is) (sym c.in-LoadNtImm.is ∙ c.form.ensures.form)

pub returns-in-LoadNtReg-clause-done : goal.returns-in-LoadNtReg-clause-done
returns-in-LoadNtReg-clause-done c = λ is. load_row _ _ c.args.core.now c.args.vec.now c.args.mem.now.memory _ refl (c.load_nt_reg.ensures.loaded is) (sym c.in-LoadNtReg.is ∙ c.form.ensures.form)

pub returns-in-LoadZ-clause-done : goal.returns-in-LoadZ-clause-done
returns-in-LoadZ-clause-done c = λ is. load_row _ _ c.args.core.now c.args.vec.now c.args.mem.now.memory _ refl (c.load_z.ensures.loaded is) (sym c.in-LoadZ.is ∙ c.form.ensures.form)

pub returns-in-StoreImm-clause-done : goal.returns-in-StoreImm-clause-done
returns-in-StoreImm-clause-done c = λ is. store_row _ _ c.args.core.now c.args.vec.now c.args.mem.now.memory _ refl (c.store_imm.ensures.stored is) (sym c.in-StoreImm.is ∙ c.form.ensures.form)

pub returns-in-StoreReg-clause-done : goal.returns-in-StoreReg-clause-done
returns-in-StoreReg-clause-done c = λ is. store_row _ _ c.args.core.now c.args.vec.now c.args.mem.now.memory _ refl (c.store_reg.ensures.stored is) (sym c.in-StoreReg.is ∙ c.form.ensures.form)

pub returns-in-StoreNtImm-clause-done : goal.returns-in-StoreNtImm-clause-done
returns-in-StoreNtImm-clause-done c = λ is. store_row _ _ c.args.core.now c.args.vec.now c.args.mem.now.memory _ refl (c.store_nt_imm.ensures.stored is) (sym c.in-StoreNtImm.is ∙ c.form.ensures.form)

pub returns-in-StoreNtReg-clause-done : goal.returns-in-StoreNtReg-clause-done
returns-in-StoreNtReg-clause-done c = λ is. store_row _ _ c.args.core.now c.args.vec.now c.args.mem.now.memory _ refl (c.store_nt_reg.ensures.stored is) (sym c.in-StoreNtReg.is ∙ c.form.ensures.form)

pub returns-in-StoreZ-clause-done : goal.returns-in-StoreZ-clause-done
returns-in-StoreZ-clause-done c = λ is. store_row _ _ c.args.core.now c.args.vec.now c.args.mem.now.memory _ refl (c.store_z.ensures.stored is) (sym c.in-StoreZ.is ∙ c.form.ensures.form)

pub returns-in-LoadZ-clause-loads : goal.returns-in-LoadZ-clause-loads
returns-in-LoadZ-clause-loads c = λ n base own once.
    c.load_z.ensures.at_once n base (subst (λ (f : SveForm). IsAtOnce n base Read (load_plan f c.args.core.now c.args.vec.now) c.args.core.now c.args.vec.now c.args.mem.now.memory) (sym c.form.ensures.form ∙ c.in-LoadZ.is) once)

pub returns-in-StoreZ-clause-stores : goal.returns-in-StoreZ-clause-stores
returns-in-StoreZ-clause-stores c = λ n base own once.
    c.store_z.ensures.at_once n base (subst (λ (f : SveForm). IsAtOnce n base Write (store_plan f c.args.core.now c.args.vec.now) c.args.core.now c.args.vec.now c.args.mem.now.memory) (sym c.form.ensures.form ∙ c.in-StoreZ.is) once)
