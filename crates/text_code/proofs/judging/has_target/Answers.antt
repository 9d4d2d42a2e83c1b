use Rattle.std.proofs.Common.{Bool, ◌||◌, refl, ◌∙◌, rules, tests}
use Rattle.std.proofs.lemmas.Iterator.{YieldsList-from_slice}
use Rattle.std.proofs.lemmas.Iterator.Search.{any_from_yields_List}
use Rattle.std.proofs.lemmas.List.Recursion.{same_from_clauses}
use Rattle.std.specs.List.{list_any}
use Rattle.text_model.specs.declared.slots.Slot.{Slot}
use Rattle.text_model.specs.Reading.{is_target, has_target}
use Rattle.text_code.proofs.judging.has_target.Goals as goal

pub returns : goal.returns
returns c =
    let ss = c.args.slots.now in
    any_from_yields_List (λ (s : Slot). is_target s.codec.kind) _ _ c.any.result c.any.ensures.ran (YieldsList-from_slice ss cc) (λ x b q k. search (rules, tests))
    ∙ same_from_clauses (list_any (λ (s : Slot). is_target s.codec.kind)) has_target (λ (s : Slot) (b : Bool). is_target s.codec.kind || b) refl (λ _ _. refl) (λ _ _. refl) ss
