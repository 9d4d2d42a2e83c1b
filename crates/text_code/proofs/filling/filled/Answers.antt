use Rattle.std.proofs.Common.{length, sym, ap, ◌∙◌, arith}
use Rattle.text_code.proofs.Slots.{style_sound}
use Rattle.text_code.proofs.Steps.{first_sound, rest_sound, kept_out, kept_given, lacking, over}
use Rattle.text_code.proofs.filling.filled.Goals as goal

pub loop-slot-preserved-then-out : goal.loop-slot-preserved-then-out
loop-slot-preserved-then-out c =
    let e = c.in-Some.ensures.cases.0 in
    let l = ap length e in (
      kept_out c.args.slots.now c.loop-slot.left.now c.in-Some.more.now c.args.items.now c.loop-slot.next.now c.loop-slot.all.items c.push.new.self.items c.in-Some.slot.now
          c.loop-slot.out c.is_left_out-out.result c.left_out.result c.copied.result e (c.copied.ensures ∙ c.first.ensures.value) c.is_left_out-out.ensures c.if-out.true c.left_out.ensures c.push.ensures.items
          c.loop-slot.invariant.0,
      omega (arith, l, c.push.ensures.len),
      rest_sound _ _ _ e c.loop-slot.invariant.2,
    )

pub loop-slot-preserved : goal.loop-slot-preserved
loop-slot-preserved c =
    let e = c.in-Some.ensures.cases.0 in
    let l = ap length e in (
      kept_given c.args.slots.now c.loop-slot.left.now c.in-Some.more.now c.args.items.now c.loop-slot.next.now c.loop-slot.all.items c.push-else-out.new.self.items c.in-Some.slot.now
          c.loop-slot.out c.is_left_out-out.result c.raised.result c.copied.result e (c.copied.ensures ∙ c.first.ensures.value) c.is_left_out-out.ensures
          c.in-Some-split_first.item.now c.in-Some-split_first.rest.now c.in-Some-split_first.ensures.cases.0 c.if-out.false c.raised.ensures c.push-else-out.ensures.items c.loop-slot.invariant.0,
      omega (arith, l, c.push-else-out.ensures.len),
      rest_sound _ _ _ e c.loop-slot.invariant.2,
    )

pub returns-else-is_empty : goal.returns-else-is_empty
returns-else-is_empty c = over c.args.slots.now c.loop-slot.left.now c.args.items.now c.loop-slot.next.now c.loop-slot.all.items c.loop-slot.out c.in_default.ensures.cases c.loop-slot.invariant.0 c.loop-slot.invariant.1 (sym c.is_empty.ensures ∙ c.if-is_empty.false)

pub returns-in_default-split_first : goal.returns-in_default-split_first
returns-in_default-split_first c =
    lacking c.args.slots.now c.loop-slot.left.now c.in-Some.more.now c.args.items.now c.loop-slot.next.now c.loop-slot.all.items c.in-Some.slot.now c.loop-slot.out c.is_left_out-out.result c.copied.result
    c.in-Some.ensures.cases.0 (c.copied.ensures ∙ c.first.ensures.value) c.is_left_out-out.ensures c.in_default-split_first.ensures.cases c.if-out.false c.loop-slot.invariant.0 c.loop-slot.invariant.1

pub left_out-requires : goal.left_out-requires
left_out-requires c = first_sound c.loop-slot.left.now c.in-Some.more.now c.in-Some.slot.now c.in-Some.ensures.cases.0 c.loop-slot.invariant.2

pub raised-requires : goal.raised-requires
raised-requires c = style_sound c.in-Some.slot.now (first_sound c.loop-slot.left.now c.in-Some.more.now c.in-Some.slot.now c.in-Some.ensures.cases.0 c.loop-slot.invariant.2)
