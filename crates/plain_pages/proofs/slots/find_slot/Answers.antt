use Rattle.std.proofs.Common.{arith, ap, ◌∙◌}
use Rattle.std.proofs.lemmas.List.{get_or_default}
use Rattle.plain_pages.specs.declared.slots.Slot.{Slot}
use Rattle.plain_pages.proofs.Ordered.{missing}
use Rattle.plain_pages.proofs.slots.find_slot.Goals as goal
use Rattle.plain_pages.proofs.slots.find_slot.Goals.{else-at-slots-via-then-at-slots+else-slots-at, else-at-slots-via-else-at-slots}

pub returns-else-at-slots : goal.returns-else-at-slots
returns-else-at-slots c = missing c.args.slots.now c.requires c.args.page c.place-at.result c.place-at.ensures.below c.place-at.ensures.from (λ d lt e.
    elim c.else-at-slots.branch [
      | else-at-slots-via-then-at-slots+else-slots-at w ↦ absurd (w.if-slots-at.false (ap (λ (s : Slot). s.number) (get_or_default c.args.slots.now c.place-at.result w.index-slots-at.result d lt) ∙ e))
      | else-at-slots-via-else-at-slots w ↦ absurd (omega arith)
    ])
