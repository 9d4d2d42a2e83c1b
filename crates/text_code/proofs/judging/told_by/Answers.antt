use Rattle.std.proofs.Common.{◌≡◌, ℕ, ℤ, to_z, of_z, rules, sym, ap, ap₂, ◌∙◌}
use Rattle.std.proofs.lemmas.Int.{to_z-of_z}
use Rattle.std.specs.Int.{w128}
use Rattle.std.specs.Prelude.{FitsSigned}
use Rattle.text_model.specs.declared.slots.Shape.{Shape}
use Rattle.text_model.specs.Slots.{place_of, places, bits_in}
use Rattle.text_model.specs.Told.{Built, class_tells, codec_tells, told_number, parted, bound, all_bound}
use Rattle.text_code.specs.Tables.{built_of}
use Rattle.text_code.proofs.Parted.{told_both, no_class}
use Rattle.text_code.proofs.Slots.{parts_sound, narrow, kind_sound, told_in_word}
use Rattle.text_code.proofs.judging.told_by.Goals as goal
use Rattle.text_code.proofs.judging.told_by.Goals.{in-Told, in_default}

pub told-requires-clause-narrow : goal.told-requires-clause-narrow
told-requires-clause-narrow c = narrow c.args.slot c.width_of.result c.requires c.width_of.ensures.value

pub with_parts-requires : goal.with_parts-requires
with_parts-requires c = parts_sound c.args.slot c.requires

pub with-built-requires : goal.with-built-requires
with-built-requires c = told_in_word c.args.slot c.in-Told.b c.in-Told.group c.in-Told.is c.requires

pub width_of-requires : goal.width_of-requires
width_of-requires c = parts_sound c.args.slot c.requires

pub told-requires-clause-sound : goal.told-requires-clause-sound
told-requires-clause-sound c = kind_sound c.args.slot c.width_of.result c.requires c.width_of.ensures.value

pub returns : goal.returns
returns c =
    let a : Built = built_of c.args.built in
    let class = c.args.item.class in
    let shape : Shape = c.args.slot.shape in
    let codec = c.args.slot.codec in
    let classed : built_of c.match-slot.built ≡ all_bound a (class_tells c.args.slot.shape c.args.item.class)
    = elim c.match-slot.branch [
      | in-Told w ↦
          ap built_of w.built-is ∙ w.with-built.ensures
          ∙ ap (λ (n : ℕ). bound a (record { place = place_of w.in-Told.b; value = n })) (w.from.ensures ∙ w.place_in.ensures)
          ∙ ap (λ (s : Shape). all_bound a (class_tells s class)) (sym w.in-Told.is)
      | in_default w ↦ ap built_of w.built-is ∙ ap (all_bound a) (sym (no_class shape class w.in_default.not-Told))
    ] in
    let f : FitsSigned w128 c.args.item.value = search rules in
    let e : to_z w128 (of_z w128 c.args.item.value) ≡ c.args.item.value = to_z-of_z w128 c.args.item.value f in
    let value : c.told.result ≡ told_number codec.kind (bits_in (places codec.parts)) c.args.item.value = c.told.ensures ∙ ap₂ (λ (n : ℕ) (z : ℤ). told_number codec.kind n z) c.width_of.ensures.value e in
    c.with_parts.ensures
    ∙ ap₂ (λ (b : Built) (n : ℕ). all_bound b (parted (places codec.parts) n)) classed value
    ∙ sym (told_both a (class_tells shape class) (codec_tells codec c.args.item.value))
