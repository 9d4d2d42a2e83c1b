-- One step of the loops that make a word of items and judge them.
use Rattle.std.proofs.Common.{◌≡◌, ℕ, ◌<◌, ◌==◌, ◌&&◌, Bool, true, false, Result, Ok, Err, List, [], ◌∷◌, length, refl, sym, ap, ap₂, ◌∙◌, arith}
use Rattle.std.proofs.lemmas.Bool.{eq-eqb, eqb-true, true≢false}
use Rattle.text_model.specs.declared.slots.Slot.{Slot}
use Rattle.text_model.specs.declared.slots.Item.{Item}
use Rattle.text_model.specs.declared.slots.Refusal.{Refusal}
use Rattle.text_model.specs.declared.slots.Refusal.TheVariants.{BadOperands, OutOfRange}
use Rattle.text_model.specs.Slots.{class_in, items_in}
use Rattle.text_model.specs.Classes.{same_class}
use Rattle.text_model.specs.Told.{Built, built, all_bound, slot_tells}
use Rattle.text_model.specs.Reading.{same_classes}
use Rattle.text_code.specs.Judging.{verdict, is_shown, are_shown}
use Rattle.text_code.proofs.Steps.{none_left, some_next, judged_step, other_class}

abbrev verdict_of : List Slot → List Item → ℕ → Bool → Result (Unit {0}) Refusal
verdict_of ss is w fine = verdict (same_classes (items_in ss w) is) (fine && are_shown ss is w) tt

module _ (left more : List Slot) (next rest : List Item) (s : Slot) (i : Item) (w : ℕ) (fine : Bool) (r : Result (Unit {0}) Refusal)
    (l : left ≡ s ∷ more) (so : r ≡ verdict_of left next w fine) where
  pub wrong_class : next ≡ i ∷ rest → same_class (class_in s.shape w) i.class ≡ false → Err BadOperands ≡ r
  wrong_class n h = sym (so ∙ ap₂ (λ (ss : List Slot) (is : List Item). verdict_of ss is w fine) l n ∙ other_class s more i rest w (fine && are_shown (s ∷ more) (i ∷ rest) w) h)

  pub judged_on : (f : Bool) → next ≡ i ∷ rest → same_class (class_in s.shape w) i.class ≡ true → f ≡ (fine && is_shown s w i.value) → r ≡ verdict_of more rest w f
  judged_on f n h e =
      so ∙ ap₂ (λ (ss : List Slot) (is : List Item). verdict_of ss is w fine) l n ∙ judged_step s more i rest w fine h
      ∙ ap (λ (b : Bool). verdict_of more rest w b) (sym e)

module _ (left more : List Slot) (next rest : List Item) (s : Slot) (i : Item) (l : left ≡ s ∷ more) where
  pub told_on : (a b c : Built) → next ≡ i ∷ rest → c ≡ built a left next → b ≡ all_bound a (slot_tells s i) → c ≡ built b more rest
  told_on a b c n h e = h ∙ ap₂ (built a) l n ∙ ap (λ (x : Built). built x more rest) (sym e)

pub lacks_item : (left more : List Slot) (next : List Item) (s : Slot) (w : ℕ) (fine : Bool) (r : Result (Unit {0}) Refusal) → left ≡ s ∷ more → r ≡ verdict_of left next w fine → length next ≡ 0
    → Err BadOperands ≡ r
lacks_item left more next s w fine r l so z = sym (so ∙ ap₂ (λ (ss : List Slot) (is : List Item). verdict_of ss is w fine) l (none_left next z))

pub told_out : (left more : List Slot) (next : List Item) (s : Slot) (a c : Built) → left ≡ s ∷ more → length next ≡ 0 → c ≡ built a left next → a ≡ c
told_out left more next s a c l z h = sym (h ∙ ap₂ (built a) l (none_left next z))

pub told_all : (left : List Slot) (next : List Item) (a c : Built) → length left ≡ 0 → c ≡ built a left next → a ≡ c
told_all left next a c z h = sym (h ∙ ap (λ (ss : List Slot). built a ss next) (none_left left z))

too_long : (is : List Item) → 0 < length is → (w : ℕ) (fine : Bool) → verdict_of [] is w fine ≡ Err BadOperands
too_long [] h w fine = absurd (omega arith)
too_long (i ∷ is) h w fine = refl

module _ (left : List Slot) (next : List Item) (w : ℕ) (fine : Bool) (r : Result (Unit {0}) Refusal) (z : length left ≡ 0) (so : r ≡ verdict_of left next w fine) where
  at_end : r ≡ verdict_of [] next w fine
  at_end = so ∙ ap (λ (ss : List Slot). verdict_of ss next w fine) (none_left left z)

  pub items_left : (length next == 0) ≡ false → Err BadOperands ≡ r
  items_left n = sym (at_end ∙ too_long next (some_next next (λ (q : length next ≡ 0). true≢false (sym (eq-eqb _ _ q) ∙ n))) w fine)

  ended : (length next == 0) ≡ true → r ≡ verdict {A = Unit {0}} true (fine && true) tt
  ended n = at_end ∙ ap (λ (is : List Item). verdict_of [] is w fine) (none_left next (eqb-true _ _ n))

  pub all_fine : (length next == 0) ≡ true → fine ≡ true → Ok tt ≡ r
  all_fine n f = sym (ended n ∙ ap (λ (b : Bool). verdict {A = Unit {0}} true (b && true) tt) f)

  pub not_fine : (length next == 0) ≡ true → fine ≡ false → Err OutOfRange ≡ r
  not_fine n f = sym (ended n ∙ ap (λ (b : Bool). verdict {A = Unit {0}} true (b && true) tt) f)
