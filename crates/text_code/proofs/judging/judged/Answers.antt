use Rattle.std.proofs.Common.{◌≡◌, ◌&&◌, ℤ, to_z, of_z, rules, sym, ap, ◌∙◌}
use Rattle.std.proofs.lemmas.Int.{to_z-of_z}
use Rattle.std.specs.Int.{w128}
use Rattle.std.specs.Prelude.{FitsSigned}
use Rattle.text_model.specs.declared.classes.Class.{Class}
use Rattle.text_model.specs.Classes.{same_class}
use Rattle.text_code.specs.Judging.{is_shown}
use Rattle.text_code.proofs.Slots.{shape_sound}
use Rattle.text_code.proofs.Steps.{first_sound, rest_sound}
use Rattle.text_code.proofs.Judged.{lacks_item, wrong_class, judged_on, items_left, all_fine, not_fine}
use Rattle.text_code.proofs.judging.judged.Goals as goal

pub returns-in_default-split_first : goal.returns-in_default-split_first
returns-in_default-split_first c =
    lacks_item c.loop-slot.left.now c.in-Some.more.now c.loop-slot.next.now c.in-Some.slot.now c.args.word c.loop-slot.fine _ c.in-Some.ensures.cases.0 c.loop-slot.invariant.0 c.in_default-split_first.ensures.cases

pub returns-then-not-same_class : goal.returns-then-not-same_class
returns-then-not-same_class c =
    let i = c.in-Some-split_first.item.now in
    wrong_class c.loop-slot.left.now c.in-Some.more.now c.loop-slot.next.now c.in-Some-split_first.rest.now c.in-Some.slot.now i c.args.word c.loop-slot.fine _
    c.in-Some.ensures.cases.0 c.loop-slot.invariant.0 c.in-Some-split_first.ensures.cases.0
    (ap (λ (k : Class). same_class k i.class) (sym c.class_in.ensures) ∙ sym c.same_class.ensures ∙ c.if-not-same_class.true)

pub loop-slot-preserved : goal.loop-slot-preserved
loop-slot-preserved c =
    let i = c.in-Some-split_first.item.now in
    let f : FitsSigned w128 c.in-Some-split_first.item.now.value = search rules in
    let e : to_z w128 (of_z w128 c.in-Some-split_first.item.now.value) ≡ c.in-Some-split_first.item.now.value = to_z-of_z w128 c.in-Some-split_first.item.now.value f in (
      judged_on c.loop-slot.left.now c.in-Some.more.now c.loop-slot.next.now c.in-Some-split_first.rest.now c.in-Some.slot.now i c.args.word c.loop-slot.fine _
          c.in-Some.ensures.cases.0 c.loop-slot.invariant.0 c.still_fine-fine.result c.in-Some-split_first.ensures.cases.0
          (ap (λ (k : Class). same_class k i.class) (sym c.class_in.ensures) ∙ sym c.same_class.ensures ∙ c.if-not-same_class.false)
          (c.still_fine-fine.ensures ∙ ap (λ (z : ℤ). c.loop-slot.fine && is_shown c.in-Some.slot.now c.args.word z) e),
      rest_sound c.loop-slot.left.now c.in-Some.more.now c.in-Some.slot.now c.in-Some.ensures.cases.0 c.loop-slot.invariant.1,
    )

pub class_in-requires : goal.class_in-requires
class_in-requires c = shape_sound c.in-Some.slot.now (first_sound c.loop-slot.left.now c.in-Some.more.now c.in-Some.slot.now c.in-Some.ensures.cases.0 c.loop-slot.invariant.1)

pub still_fine-fine-requires : goal.still_fine-fine-requires
still_fine-fine-requires c = first_sound c.loop-slot.left.now c.in-Some.more.now c.in-Some.slot.now c.in-Some.ensures.cases.0 c.loop-slot.invariant.1

pub returns-then-not-is_empty : goal.returns-then-not-is_empty
returns-then-not-is_empty c = items_left c.loop-slot.left.now c.loop-slot.next.now c.args.word c.loop-slot.fine _ c.in_default.ensures.cases c.loop-slot.invariant.0 (sym c.is_empty.ensures ∙ c.if-not-is_empty.true)

pub returns-then-fine : goal.returns-then-fine
returns-then-fine c = all_fine c.loop-slot.left.now c.loop-slot.next.now c.args.word c.loop-slot.fine _ c.in_default.ensures.cases c.loop-slot.invariant.0 (sym c.is_empty.ensures ∙ c.if-not-is_empty.false) c.if-fine.true

pub returns-else-fine : goal.returns-else-fine
returns-else-fine c = not_fine c.loop-slot.left.now c.loop-slot.next.now c.args.word c.loop-slot.fine _ c.in_default.ensures.cases c.loop-slot.invariant.0 (sym c.is_empty.ensures ∙ c.if-not-is_empty.false) c.if-fine.false
