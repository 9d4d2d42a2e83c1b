-- What the rows of loads and stores of consecutive elements do.
use Rattle.std.proofs.Common.{◌≡◌, true, sym, ap, ◌∙◌}
use Rattle.sve_insn.specs.declared.form.SveForm.{SveForm}
use Rattle.emu_model.specs.Access.{Memory}
use Rattle.emu_model.specs.Done.{Done}
use Rattle.emu_model.specs.State.{Core, Vectors}
use Rattle.sve_effects.specs.declared.groups.Group.{Group}
use Rattle.sve_effects.specs.declared.groups.Group.TheVariants.{Loads, Stores}
use Rattle.sve_effects.specs.Effects.{group_of, vector_load, vector_store, is_contiguous_load, is_contiguous_store, same_group}
use Rattle.sve_effects.specs.Rows.{performed}
use Rattle.element_loops.specs.Planned.{load_by, store_by}
use Rattle.sve_gather.proofs.InGroup.{as_in}
use Rattle.sve_loads.specs.Plans.{load_plan, store_plan}
use Rattle.sve_loads.specs.PlanLaws.{load_planned, store_planned}

module _ (form : SveForm) (c : Core) (v : Vectors) (m : Memory) where
  pub load_done : group_of form ≡ Loads → performed form c v m ≡ vector_load form c v m
  load_done e = as_in form c v m Loads e

  pub store_done : group_of form ≡ Stores → performed form c v m ≡ vector_store form c v m
  store_done e = as_in form c v m Stores e

-- which test of a group a form of it meets
pub load_own : (form : SveForm) → group_of form ≡ Loads → is_contiguous_load form ≡ true
load_own form e = ap (λ (g : Group). same_group Loads g) e

pub store_own : (form : SveForm) → group_of form ≡ Stores → is_contiguous_store form ≡ true
store_own form e = ap (λ (g : Group). same_group Stores g) e

-- what the plan of a row does, the instruction does
module _ (f g : SveForm) (c : Core) (v : Vectors) (m : Memory) (d : Done) where
  pub load_row : group_of f ≡ Loads → load_by (load_plan f c v) c v m ≡ d → f ≡ g → performed g c v m ≡ d
  load_row e h same = ap (λ (i : SveForm). performed i c v m) (sym same) ∙ load_done f c v m e ∙ sym (load_planned f c v m (load_own f e)) ∙ h

  pub store_row : group_of f ≡ Stores → store_by (store_plan f c v) c v m ≡ d → f ≡ g → performed g c v m ≡ d
  store_row e h same = ap (λ (i : SveForm). performed i c v m) (sym same) ∙ store_done f c v m e ∙ sym (store_planned f c v m (store_own f e)) ∙ h
