-- A word with the bits of its target 0 is shown by the patterns that show the word.
use Rattle.std.proofs.Common.{◌≡◌, ℕ, ◌-◌, ◌^◌, ◌==◌, ◌&&◌, if◌then◌else◌, Bool, true, Option, Some, List, [], ◌∷◌, ◌++◌, bit_and, refl, sym, ap, ap₂, ◌∙◌, inl, inr}
use Rattle.std.proofs.lemmas.Bool.{cases_Bool, and_parts, and_from, eqb-true, false≢true}
use Rattle.std.proofs.lemmas.Nat.{and_assoc}
use Rattle.emu_bits.specs.Rows.{Place}
use Rattle.text_model.specs.declared.slots.Shape.{Shape}
use Rattle.text_model.specs.declared.slots.Shape.TheVariants.{Only, Told, Shown}
use Rattle.text_model.specs.declared.slots.Kind.{Kind}
use Rattle.text_model.specs.declared.slots.Kind.TheVariants.{Target}
use Rattle.text_model.specs.declared.slots.Slot.{Slot}
use Rattle.text_model.specs.Slots.{places, joined, has_class, can_show, fits, all_fit}
use Rattle.text_model.specs.Reading.{Pattern, is_target}
use Rattle.text_model.specs.Text.{told_bits, shows, chosen}
use Rattle.text_model.proofs.Tests.{is_number_shape, shape_places, has_all, has_none, looks_within, look_within}
use Rattle.text_model.proofs.Printed.{same_has_class, same_joined}

module _ (w m : ℕ) where
  both_parts : (ps qs : List Place) → has_all m (ps ++ qs) ≡ true → (has_all m ps ≡ true) × (has_all m qs ≡ true)
  both_parts [] qs h = (refl, h)
  both_parts (p ∷ ps) qs h =
      let h2 = and_parts _ (has_all m (ps ++ qs)) h in
      let k = both_parts ps qs h2.1 in
      (and_from _ (has_all m ps) h2.0 k.0, k.1)

  number_has_class : (k : Shape) (v : ℕ) → is_number_shape k ≡ true → has_class k v ≡ true
  number_has_class (Only c) v h = refl
  number_has_class (Told b g) v h = absurd (false≢true h)
  number_has_class (Shown b g) v h = absurd (false≢true h)

  target_shown : (k : Kind) (v : ℕ) → is_target k ≡ true → can_show k v ≡ true
  target_shown (Target n g) v h = refl
  target_shown k v h = absurd (false≢true h)

  target_fits : (s : Slot) (v : ℕ) → is_target s.codec.kind ≡ true → is_number_shape s.shape ≡ true → fits s v ≡ true
  target_fits s v h k = and_from _ _ (number_has_class s.shape v k) (target_shown s.codec.kind (joined (places s.codec.parts) v) h)

  same_fits : (s : Slot) → looks_within m s ≡ true → fits s w ≡ fits s (bit_and w m)
  same_fits s h =
      let f = λ (b : Bool). if b then is_number_shape s.shape && has_none m (places s.codec.parts) else has_all m (shape_places s.shape ++ places s.codec.parts) in
      elim (cases_Bool (is_target s.codec.kind)) [
        | inl e ↦ (let n = and_parts (is_number_shape s.shape) (has_none m (places s.codec.parts)) (sym (ap f e) ∙ h) in
            target_fits s w e n.0 ∙ sym (target_fits s (bit_and w m) e n.0))
        | inr e ↦ (let k = both_parts (shape_places s.shape) (places s.codec.parts) (sym (ap f e) ∙ h) in
            ap₂ (λ (x y : Bool). x && y) (same_has_class w m s.shape k.0) (ap (can_show s.codec.kind) (same_joined w m (places s.codec.parts) k.1)))
      ]

  same_all_fit : (ss : List Slot) → look_within m ss ≡ true → all_fit ss w ≡ all_fit ss (bit_and w m)
  same_all_fit [] h = refl
  same_all_fit (s ∷ ss) h =
      let h2 = and_parts (looks_within m s) (look_within m ss) h in
      ap₂ (λ (x y : Bool). x && y) (same_fits s h2.0) (same_all_fit ss h2.1)

  -- a pattern that looks at bits of the mask alone, but for a target outside of it
  abbrev pub is_kept : Pattern → Bool
  is_kept p = bit_and m (2 ^ 32 - 1 - told_bits p.slots) == 2 ^ 32 - 1 - told_bits p.slots && look_within m p.slots

  abbrev pub all_kept : List Pattern → Bool
  all_kept [] = true
  all_kept (p ∷ ps) = is_kept p && all_kept ps

  same_shows : (p : Pattern) → is_kept p ≡ true → shows p w ≡ shows p (bit_and w m)
  same_shows p h =
      let n : ℕ = 2 ^ 32 - 1 - told_bits p.slots in
      let h2 = and_parts (bit_and m n == n) (look_within m p.slots) h in
      let e : bit_and (bit_and w m) n ≡ bit_and w n = and_assoc n w m ∙ ap (bit_and w) (eqb-true _ _ h2.0) in
      ap₂ (λ (x : ℕ) (y : Bool). x == p.base && y) (sym e) (same_all_fit p.slots h2.1)

  pub same_chosen : (ps : List Pattern) → all_kept ps ≡ true → chosen ps w ≡ chosen ps (bit_and w m)
  same_chosen [] h = refl
  same_chosen (p ∷ ps) h =
      let h2 = and_parts (is_kept p) (all_kept ps) h in
      ap₂ (λ (b : Bool) (o : Option Pattern). if b then Some p else o) (same_shows p h2.0) (same_chosen ps h2.1)
