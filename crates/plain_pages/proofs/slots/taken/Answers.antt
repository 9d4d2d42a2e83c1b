use Rattle.std.proofs.Common.{◌<◌, ◌+◌, get_or, drop, sym, subst, arith}
use Rattle.std.specs.List.{AllByRecursion}
use Rattle.std.proofs.lemmas.List.{get_or_default}
use Rattle.plain_pages.specs.declared.slots.Slot.{Slot}
use Rattle.plain_pages.specs.Slots.{IsFrom, entries_of}
use Rattle.guest_pages.proofs.Ordered.{all_map}
use Rattle.guest_pages.proofs.Parts.{none_taken}
use Rattle.plain_pages.proofs.Parts.{first_taken, rest_from, nothing_past}
use Rattle.plain_pages.proofs.slots.taken.Goals as goal
use Rattle.plain_pages.proofs.slots.taken.Goals.{else-at-slots-via-then-at-slots+else-slots-at, else-at-slots-via-else-at-slots}

pub returns-then-slots-at : goal.returns-then-slots-at
returns-then-slots-at c =
    let same = get_or_default c.args.slots.now c.args.at c.index-slots-at.result c.index-slots-at-then-slots-at.result c.if-at-slots.true in
    let near : (get_or c.args.slots.now c.args.at c.index-slots-at-then-slots-at.result).number < c.args.first + c.args.count =
    subst (λ (s : Slot). s.number < c.args.first + c.args.count) same c.if-slots-at.true in
    record {
      least = sym (first_taken c.args.slots.now c.args.at c.args.first c.args.count c.index-slots-at-then-slots-at.result c.requires.ascending c.if-at-slots.true c.requires.below c.requires.from near);
      past = tt;
    }

-- no slot from the place on is in the range
far : (c : goal.Joined-else-at-slots) → AllByRecursion (IsFrom (c.args.first + c.args.count)) (drop c.args.at (entries_of c.args.slots.now))
far c = elim c.else-at-slots.branch [
  | else-at-slots-via-then-at-slots+else-slots-at w ↦
      all_map (IsFrom (get_or c.args.slots.now c.args.at w.index-slots-at.result).number) (IsFrom (c.args.first + c.args.count)) (drop c.args.at (entries_of c.args.slots.now)) (λ e a. omega (arith, a, w.if-slots-at.false))
      (rest_from c.args.slots.now c.args.at w.index-slots-at.result c.requires.ascending w.if-at-slots.true)
  | else-at-slots-via-else-at-slots w ↦ nothing_past (IsFrom (c.args.first + c.args.count)) c.args.slots.now c.args.at w.if-at-slots.false
]

pub returns-else-at-slots : goal.returns-else-at-slots
returns-else-at-slots c = record {
  least = sym (none_taken (entries_of c.args.slots.now) c.args.at c.args.first (c.args.first + c.args.count) c.requires.below (far c) c.args.count (omega arith));
  past = far c;
}
