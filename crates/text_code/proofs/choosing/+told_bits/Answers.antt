use Rattle.std.proofs.Common.{◌≡◌, ◌∷◌, true, length, sym, ap, ap₂, ◌∙◌, subst, arith, bit_or}
use Rattle.text_model.specs.declared.slots.Slot.{Slot}
use Rattle.text_model.specs.Text.{ones_of, slot_places, told_bits}
use Rattle.text_model.specs.Lists.{slot_at, slots_of}
use Rattle.text_code.specs.Sound.{is_sound}
use Rattle.text_code.proofs.Slots.{slots_there, slots_ended}
use Rattle.text_code.proofs.Steps.{first_sound, rest_sound}
use Rattle.text_code.proofs.choosing.+told_bits.Goals as goal

pub slot_bits-requires : goal.slot_bits-requires
slot_bits-requires t c =
    let there = slots_there c.args.numbers.now c.in-Some.more.now c.in-Some.number.now c.in-Some.ensures.cases.0 c.if-number-ne-END.true in
    subst (λ (s : Slot). is_sound s ≡ true) (sym c.slot.ensures) (first_sound (slots_of c.args.numbers.now) (slots_of c.in-Some.more.now) (slot_at c.in-Some.number.now) there c.requires)

pub told_bits-requires : goal.told_bits-requires
told_bits-requires t c =
    let there = slots_there c.args.numbers.now c.in-Some.more.now c.in-Some.number.now c.in-Some.ensures.cases.0 c.if-number-ne-END.true in
    let l : length c.args.numbers.now ≡ length (c.in-Some.number.now ∷ c.in-Some.more.now) = ap length c.in-Some.ensures.cases.0 in
    (omega (arith, l), rest_sound (slots_of c.args.numbers.now) (slots_of c.in-Some.more.now) (slot_at c.in-Some.number.now) there c.requires)

pub returns-in-Some : goal.returns-in-Some
returns-in-Some t c =
    let there = slots_there c.args.numbers.now c.in-Some.more.now c.in-Some.number.now c.in-Some.ensures.cases.0 c.if-number-ne-END.true in
    ap₂ bit_or (c.slot_bits.ensures ∙ ap (λ (s : Slot). ones_of (slot_places s)) c.slot.ensures) c.told_bits.ensures ∙ sym (ap told_bits there)

pub returns-in_default : goal.returns-in_default
returns-in_default t c = sym (ap told_bits (slots_ended c.args.numbers.now c.in-Some.more.now c.in-Some.number.now c.in-Some.ensures.cases.0 c.if-number-ne-END.false))
