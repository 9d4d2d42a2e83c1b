-- What a row does, where its group is known.
use Rattle.std.proofs.Common.{◌≡◌, Bool, true, false, ◌||◌, ◌⊎◌, inl, inr, refl, ap, ◌∙◌}
use Rattle.std.proofs.lemmas.Bool.{both_ways}
use Rattle.sve_insn.specs.declared.form.SveForm.{SveForm}
use Rattle.emu_model.specs.Access.{Memory}
use Rattle.emu_model.specs.Done.{went_on_with}
use Rattle.emu_model.specs.State.{Core, Vectors}
use Rattle.sve_effects.specs.declared.groups.Group.{Group}
use Rattle.sve_effects.specs.declared.groups.Group.TheVariants.{Lanes, Permutes, Counts, Folds, Predicates, Loads, Stores, Gathers, Scatters, FirstFaults}
use Rattle.sve_effects.specs.Effects.{group_of, by_fault, is_data, after_data, is_predicate, first_fault, is_contiguous_load, is_contiguous_store, is_gather, is_scatter, is_first_fault, same_group}
use Rattle.sve_effects.specs.Rows.{performed}
use Rattle.sve_gather.proofs.InGroup.{as_in, done_in, form_done}

-- the groups of the rows that reach no memory
abbrev is_register_group : Group → Bool
is_register_group g = (same_group Lanes g || (same_group Permutes g || (same_group Counts g || same_group Folds g))) || same_group Predicates g

registers_in : (c : Core) (v : Vectors) (m : Memory) (g : Group) (form : SveForm) → is_register_group g ≡ true → done_in c v m g form ≡ went_on_with (after_data form c v) m
registers_in c v m Lanes form h = refl
registers_in c v m Permutes form h = refl
registers_in c v m Counts form h = refl
registers_in c v m Folds form h = refl
registers_in c v m Predicates form h = refl
registers_in c v m g form h = absurd (both_ways false refl h)

module _ (form : SveForm) (c : Core) (v : Vectors) (m : Memory) where
  pub registers_done : (is_data form || is_predicate form) ≡ true → performed form c v m ≡ went_on_with (after_data form c v) m
  registers_done h = form_done c v m form ∙ registers_in c v m (group_of form) form h

  pub first_fault_done : group_of form ≡ FirstFaults → performed form c v m ≡ first_fault form c v m
  first_fault_done e = as_in form c v m FirstFaults e

-- which test of a group a form of it meets
pub load_own : (form : SveForm) → group_of form ≡ Loads → (is_contiguous_load form || is_contiguous_store form) ≡ true
load_own form e = ap (λ (g : Group). same_group Loads g || same_group Stores g) e

pub store_own : (form : SveForm) → group_of form ≡ Stores → (is_contiguous_load form || is_contiguous_store form) ≡ true
store_own form e = ap (λ (g : Group). same_group Loads g || same_group Stores g) e

pub gather_own : (form : SveForm) → group_of form ≡ Gathers → (is_gather form || is_scatter form) ≡ true
gather_own form e = ap (λ (g : Group). same_group Gathers g || same_group Scatters g) e

pub scatter_own : (form : SveForm) → group_of form ≡ Scatters → (is_gather form || is_scatter form) ≡ true
scatter_own form e = ap (λ (g : Group). same_group Gathers g || same_group Scatters g) e

pub first_fault_own : (form : SveForm) → group_of form ≡ FirstFaults → is_first_fault form ≡ true
first_fault_own form e = ap (λ (g : Group). same_group FirstFaults g) e

pub registers_own : (form : SveForm) → (group_of form ≡ Lanes) ⊎ ((group_of form ≡ Permutes) ⊎ ((group_of form ≡ Counts) ⊎ ((group_of form ≡ Folds) ⊎ (group_of form ≡ Predicates)))) → (is_data form || is_predicate form) ≡ true
registers_own form (inl e) = ap (λ (g : Group). is_register_group g) e
registers_own form (inr (inl e)) = ap (λ (g : Group). is_register_group g) e
registers_own form (inr (inr (inl e))) = ap (λ (g : Group). is_register_group g) e
registers_own form (inr (inr (inr (inl e)))) = ap (λ (g : Group). is_register_group g) e
registers_own form (inr (inr (inr (inr e)))) = ap (λ (g : Group). is_register_group g) e

pub memory_own : (form : SveForm) → (group_of form ≡ Loads) ⊎ ((group_of form ≡ Stores) ⊎ ((group_of form ≡ Gathers) ⊎ ((group_of form ≡ Scatters) ⊎ (group_of form ≡ FirstFaults)))) → (is_data form || is_predicate form) ≡ false
memory_own form (inl e) = ap (λ (g : Group). is_register_group g) e
memory_own form (inr (inl e)) = ap (λ (g : Group). is_register_group g) e
memory_own form (inr (inr (inl e))) = ap (λ (g : Group). is_register_group g) e
memory_own form (inr (inr (inr (inl e)))) = ap (λ (g : Group). is_register_group g) e
memory_own form (inr (inr (inr (inr e)))) = ap (λ (g : Group). is_register_group g) e

-- a gather reaches memory, whether it is first-faulting or not
pub gathers_reach : (is_first : Bool) → is_register_group (by_fault is_first) ≡ false
gathers_reach true = refl
gathers_reach false = refl
