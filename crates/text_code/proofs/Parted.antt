-- The parts of a number: where they lie, and what is told at them.
use Rattle.std.proofs.Common.{◌≡◌, ℕ, ◌+◌, ◌/◌, ◌^◌, ◌&&◌, true, List, [], ◌∷◌, ◌++◌, refl, sym, ap, ap₂, ◌∙◌, arith}
use Rattle.std.proofs.lemmas.Bool.{and_parts}
use Rattle.emu_bits.specs.Rows.{width}
use Rattle.text_model.specs.declared.slots.Bits.{Bits}
use Rattle.text_model.specs.declared.slots.Parts.{Parts}
use Rattle.text_model.specs.declared.slots.Parts.TheVariants.{At, Two, Three}
use Rattle.text_model.specs.declared.slots.Shape.{Shape}
use Rattle.text_model.specs.declared.slots.Shape.TheVariants.{Only, Told, Shown}
use Rattle.text_model.specs.declared.classes.Class.{Class}
use Rattle.text_model.specs.declared.classes.Group.{Group}
use Rattle.text_model.specs.Slots.{place_of, places}
use Rattle.text_model.specs.Told.{Built, Binding, class_tells, parted, bound, all_bound}
use Rattle.text_code.specs.Sound.{are_in_word, are_parts}

-- ---- each lies in a word

pub one_in_word : (p : Parts) (a : Bits) → p ≡ At a → are_parts p ≡ true → are_in_word a ≡ true
one_in_word p a e h = sym (ap are_parts e) ∙ h

pub two_in_word : (p : Parts) (a b : Bits) → p ≡ Two a b → are_parts p ≡ true → (are_in_word a ≡ true) × (are_in_word b ≡ true)
two_in_word p a b e h = and_parts (are_in_word a) (are_in_word b) (sym (ap are_parts e) ∙ h)

pub three_in_word : (p : Parts) (a b c : Bits) → p ≡ Three a b c → are_parts p ≡ true → (are_in_word a ≡ true) × (are_in_word b ≡ true) × (are_in_word c ≡ true)
three_in_word p a b c e h =
    let k = and_parts (are_in_word a) (are_in_word b && are_in_word c) (sym (ap are_parts e) ∙ h) in
    let l = and_parts (are_in_word b) (are_in_word c) k.1 in
    (k.0, l.0, l.1)

-- ---- what is told there

module _ (s : Built) (v : ℕ) where
  abbrev pub at_bits : Bits → ℕ → Binding
  at_bits b n = record { place = place_of b; value = n }

  whole : v ≡ v / 2 ^ 0
  whole = omega arith

  pub told_at_one : (p : Parts) (a : Bits) (r : Built) → p ≡ At a → r ≡ bound s (at_bits a v) → r ≡ all_bound s (parted (places p) v)
  told_at_one p a r e is = is ∙ ap (λ (n : ℕ). bound s (at_bits a n)) whole ∙ ap (λ (p : Parts). all_bound s (parted (places p) v)) (sym e)

  pub told_at_two : (p : Parts) (a b : Bits) (w : ℕ) (q r : Built) → p ≡ Two a b → w ≡ width (place_of b) → q ≡ bound s (at_bits a (v / 2 ^ w)) → r ≡ bound q (at_bits b v)
      → r ≡ all_bound s (parted (places p) v)
  told_at_two p a b w q r e is first second =
      let below : w ≡ width (place_of b) + 0 = omega (arith, is) in
      second ∙ ap₂ (λ (q : Built) (n : ℕ). bound q (at_bits b n)) (first ∙ ap (λ (w : ℕ). bound s (at_bits a (v / 2 ^ w))) below) whole
      ∙ ap (λ (p : Parts). all_bound s (parted (places p) v)) (sym e)

  pub told_at_three : (p : Parts) (a b c : Bits) (w x y : ℕ) (q r t : Built) → p ≡ Three a b c → w ≡ width (place_of b) → x ≡ width (place_of c) → y ≡ width (place_of c)
      → q ≡ bound s (at_bits a (v / 2 ^ (w + x))) → r ≡ bound q (at_bits b (v / 2 ^ y)) → t ≡ bound r (at_bits c v) → t ≡ all_bound s (parted (places p) v)
  told_at_three p a b c w x y q r t e is_w is_x is_y first second third =
      let below : w + x ≡ width (place_of b) + (width (place_of c) + 0) = omega (arith, is_w, is_x) in
      let last : y ≡ width (place_of c) + 0 = omega (arith, is_y) in
      third
      ∙ ap₂ (λ (r : Built) (n : ℕ). bound r (at_bits c n)) (second ∙ ap₂ (λ (q : Built) (y : ℕ). bound q (at_bits b (v / 2 ^ y))) (first ∙ ap (λ (w : ℕ). bound s (at_bits a (v / 2 ^ w))) below) last) whole
      ∙ ap (λ (p : Parts). all_bound s (parted (places p) v)) (sym e)

-- ---- what an item tells, at the field of its class and at the parts of its number

pub told_both : (a : Built) (bs cs : List Binding) → all_bound a (bs ++ cs) ≡ all_bound (all_bound a bs) cs
told_both a [] cs = refl
told_both a (b ∷ bs) cs = told_both (bound a b) bs cs

pub no_class : (s : Shape) (x : Class) → ((b : Bits) (g : Group) → s ≡ Told b g → ⊥) → class_tells s x ≡ []
no_class (Only c) x isnt = refl
no_class (Told b g) x isnt = absurd (isnt b g refl)
no_class (Shown b g) x isnt = refl
