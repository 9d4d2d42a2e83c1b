use Rattle.std.proofs.Common.{◌≡◌, ℕ, ◌^◌, ◌<◌, pos, to_z, of_z, rules, refl, sym, ap, ap₂, ◌∙◌, subst}
use Rattle.std.proofs.lemmas.Int.{to_z-of_z}
use Rattle.std.specs.Int.{w128}
use Rattle.std.specs.Prelude.{FitsSigned}
use Rattle.text_model.specs.declared.slots.Kind.{Kind}
use Rattle.text_model.specs.Slots.{places, bits_in, joined, shown_number, target_address}
use Rattle.text_model.specs.Text.{printed}
use Rattle.text_code.proofs.Slots.{parts_sound, narrow, kind_sound}
use Rattle.text_code.proofs.Targets.{target_sound, printed_as_shown}
use Rattle.text_code.proofs.showing.printed.Goals as goal

pub number_of-number-requires-clause-narrow : goal.number_of-number-requires-clause-narrow
number_of-number-requires-clause-narrow c = narrow c.args.slot (bits_in (places c.args.slot.codec.parts)) c.requires refl

pub shown-requires : goal.shown-requires
shown-requires c =
    let e = c.width_of.ensures.value in
    record {
      sound = kind_sound c.args.slot c.width_of.result c.requires e;
      narrow = narrow c.args.slot c.width_of.result c.requires e;
      small = subst (λ (n : ℕ). c.number_of-number.result < 2 ^ n) (sym e) c.number_of-number.ensures.small;
    }

pub number_of-number-requires-clause-parts : goal.number_of-number-requires-clause-parts
number_of-number-requires-clause-parts c = parts_sound c.args.slot c.requires

pub address-requires-clause-sound : goal.address-requires-clause-sound
address-requires-clause-sound c = target_sound c.args.slot c.in-Target.by c.in-Target.page c.in-Target.is c.requires

pub width_of-requires : goal.width_of-requires
width_of-requires c = parts_sound c.args.slot c.requires

pub returns-in-Target : goal.returns-in-Target
returns-in-Target c =
    let b : ℕ = bits_in (places c.args.slot.codec.parts) in
    let v : ℕ = joined (places c.args.slot.codec.parts) c.args.word in
    let f : FitsSigned w128 c.from.result = search rules in
    let e : to_z w128 (of_z w128 c.from.result) ≡ c.from.result = to_z-of_z w128 c.from.result f in
    e ∙ c.from.ensures ∙ ap pos (c.address.ensures ∙ ap (λ (v : ℕ). target_address c.in-Target.by c.in-Target.page b v c.args.pc) c.number_of-number.ensures.value)
    ∙ ap (λ (k : Kind). printed k b v c.args.pc) (sym c.in-Target.is)

pub returns-in_default : goal.returns-in_default
returns-in_default c =
    let k : Kind = c.args.slot.codec.kind in
    let b : ℕ = bits_in (places c.args.slot.codec.parts) in
    let v : ℕ = joined (places c.args.slot.codec.parts) c.args.word in
    let f : FitsSigned w128 c.shown.result = search rules in
    let e : to_z w128 (of_z w128 c.shown.result) ≡ c.shown.result = to_z-of_z w128 c.shown.result f in
    e ∙ c.shown.ensures ∙ ap₂ (shown_number k) c.width_of.ensures.value c.number_of-number.ensures.value ∙ printed_as_shown k b v c.args.pc c.in_default.not-Target
