use Rattle.std.proofs.Common.{◌≡◌, ◌∷◌, List, true, length, sym, ap, ◌∙◌, subst, arith, ◌&&◌, Bool, false}
use Rattle.text_model.specs.declared.slots.Slot.{Slot}
use Rattle.text_model.specs.Slots.{fits, all_fit}
use Rattle.text_model.specs.Lists.{slot_at, slots_of}
use Rattle.text_code.specs.Sound.{is_sound}
use Rattle.text_code.proofs.Slots.{slots_there, slots_ended}
use Rattle.text_code.proofs.Steps.{first_sound, rest_sound}
use Rattle.text_code.proofs.choosing.+all_fit.Goals as goal

pub fits-requires : goal.fits-requires
fits-requires t c =
    let there = slots_there c.args.numbers.now c.in-Some.more.now c.in-Some.number.now c.in-Some.ensures.cases.0 c.if-number-ne-END.true in
    subst (λ (s : Slot). is_sound s ≡ true) (sym c.slot.ensures) (first_sound (slots_of c.args.numbers.now) (slots_of c.in-Some.more.now) (slot_at c.in-Some.number.now) there c.requires)

pub all_fit-requires : goal.all_fit-requires
all_fit-requires t c =
    let there = slots_there c.args.numbers.now c.in-Some.more.now c.in-Some.number.now c.in-Some.ensures.cases.0 c.if-number-ne-END.true in
    let l : length c.args.numbers.now ≡ length (c.in-Some.number.now ∷ c.in-Some.more.now) = ap length c.in-Some.ensures.cases.0 in
    (omega (arith, l), rest_sound (slots_of c.args.numbers.now) (slots_of c.in-Some.more.now) (slot_at c.in-Some.number.now) there c.requires)

pub returns-then-fits : goal.returns-then-fits
returns-then-fits t c =
    let there = slots_there c.args.numbers.now c.in-Some.more.now c.in-Some.number.now c.in-Some.ensures.cases.0 c.if-number-ne-END.true in
    let fit : fits (slot_at c.in-Some.number.now) c.args.word ≡ true = ap (λ (s : Slot). fits s c.args.word) (sym c.slot.ensures) ∙ sym c.fits.ensures ∙ c.if-fits.true in
    c.all_fit.ensures ∙ sym (ap (λ (ss : List Slot). all_fit ss c.args.word) there ∙ ap (λ (b : Bool). b && all_fit (slots_of c.in-Some.more.now) c.args.word) fit)

pub returns-else-fits : goal.returns-else-fits
returns-else-fits t c =
    let there = slots_there c.args.numbers.now c.in-Some.more.now c.in-Some.number.now c.in-Some.ensures.cases.0 c.if-number-ne-END.true in
    let fit : fits (slot_at c.in-Some.number.now) c.args.word ≡ false = ap (λ (s : Slot). fits s c.args.word) (sym c.slot.ensures) ∙ sym c.fits.ensures ∙ c.if-fits.false in
    c.if-fits.false ∙ sym (ap (λ (ss : List Slot). all_fit ss c.args.word) there ∙ ap (λ (b : Bool). b && all_fit (slots_of c.in-Some.more.now) c.args.word) fit)

pub returns-in_default : goal.returns-in_default
returns-in_default t c =
    sym (ap (λ (ss : List Slot). all_fit ss c.args.word) (slots_ended c.args.numbers.now c.in-Some.more.now c.in-Some.number.now c.in-Some.ensures.cases.0 c.if-number-ne-END.false))
