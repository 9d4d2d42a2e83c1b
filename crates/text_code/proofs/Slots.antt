-- What a sound slot has.
use Rattle.std.proofs.Common.{◌≡◌, ℕ, ◌≤◌, ◌&&◌, if◌then◌else◌, Bool, true, nat_le, List, ◌∷◌, [], sym, ap, ◌∙◌, subst}
use Rattle.std.proofs.lemmas.Bool.{and_parts, leb-true, eq-eqb, ne_eqb}
use Rattle.text_model.specs.declared.slots.Bits.{Bits}
use Rattle.text_model.specs.declared.classes.Group.{Group}
use Rattle.text_model.specs.declared.slots.Shape.TheVariants.{Told}
use Rattle.text_model.specs.declared.slots.Slot.{Slot}
use Rattle.text_model.specs.Slots.{places, bits_in}
use Rattle.text_model.specs.Lists.{slot_at, slots_of}
use Rattle.text_code.specs.Sound.{are_in_word, are_parts, is_sound_shape, is_sound_kind, is_sound_codec, is_sound_style, is_sound}

pub codec_sound : (s : Slot) → is_sound s ≡ true → is_sound_codec s.codec ≡ true
codec_sound s h = (and_parts (is_sound_shape s.shape) (is_sound_codec s.codec) (and_parts (is_sound_style s.style) (is_sound_shape s.shape && is_sound_codec s.codec) h).1).1

pub shape_sound : (s : Slot) → is_sound s ≡ true → is_sound_shape s.shape ≡ true
shape_sound s h = (and_parts (is_sound_shape s.shape) (is_sound_codec s.codec) (and_parts (is_sound_style s.style) (is_sound_shape s.shape && is_sound_codec s.codec) h).1).0

pub style_sound : (s : Slot) → is_sound s ≡ true → is_sound_style s.style ≡ true
style_sound s h = (and_parts (is_sound_style s.style) (is_sound_shape s.shape && is_sound_codec s.codec) h).0

pub parts_sound : (s : Slot) → is_sound s ≡ true → are_parts s.codec.parts ≡ true
parts_sound s h =
    let n : ℕ = bits_in (places s.codec.parts) in
    (and_parts (are_parts s.codec.parts) (nat_le n 32 && is_sound_kind s.codec.kind n) (codec_sound s h)).0

module _ (s : Slot) (n : ℕ) (h : is_sound s ≡ true) (e : n ≡ bits_in (places s.codec.parts)) where
  pub narrow : n ≤ 32
  narrow =
      let b : ℕ = bits_in (places s.codec.parts) in
      let k = and_parts (are_parts s.codec.parts) (nat_le b 32 && is_sound_kind s.codec.kind b) (codec_sound s h) in
      subst (λ (x : ℕ). x ≤ 32) (sym e) (leb-true b 32 (and_parts (nat_le b 32) (is_sound_kind s.codec.kind b) k.1).0)

  pub kind_sound : is_sound_kind s.codec.kind n ≡ true
  kind_sound =
      let b : ℕ = bits_in (places s.codec.parts) in
      let k = and_parts (are_parts s.codec.parts) (nat_le b 32 && is_sound_kind s.codec.kind b) (codec_sound s h) in
      subst (λ (x : ℕ). is_sound_kind s.codec.kind x ≡ true) (sym e) (and_parts (nat_le b 32) (is_sound_kind s.codec.kind b) k.1).1

pub told_in_word : (s : Slot) (b : Bits) (g : Group) → s.shape ≡ Told b g → is_sound s ≡ true → are_in_word b ≡ true
told_in_word s b g e h = sym (ap is_sound_shape e) ∙ shape_sound s h

-- ---- slots by their numbers

pub slots_there : (ns more : List ℕ) (n : ℕ) → ns ≡ n ∷ more → (n ≡ 0 → ⊥) → slots_of ns ≡ slot_at n ∷ slots_of more
slots_there ns more n e z = ap slots_of e ∙ ap (λ (b : Bool). if b then [] else slot_at n ∷ slots_of more) (ne_eqb n 0 z)

pub slots_ended : (ns more : List ℕ) (n : ℕ) → ns ≡ n ∷ more → n ≡ 0 → slots_of ns ≡ []
slots_ended ns more n e z = ap slots_of e ∙ ap (λ (b : Bool). if b then [] else slot_at n ∷ slots_of more) (eq-eqb n 0 z)
