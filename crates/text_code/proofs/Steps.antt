-- One step of each loop over slots, items and spots.
use Rattle.std.proofs.Common.{◌≡◌, ℕ, ◌+◌, ◌<◌, ◌≤◌, ◌==◌, ◌&&◌, Bool, true, false, Option, Result, Err, List, [], ◌∷◌, ◌++◌, length, refl, sym, ap, ap₂, ◌∙◌, subst, arith, length-append}
use Rattle.std.proofs.Math.Bool.{and_assoc}
use Rattle.std.proofs.Math.Seq.{append_snoc}
use Rattle.std.proofs.lemmas.Bool.{and_parts, and_left, and_right, eq-eqb, true≢false}
use Rattle.std.specs.List.{slice_get}
use Rattle.text_model.specs.declared.slots.Slot.{Slot}
use Rattle.text_model.specs.declared.slots.Item.{Item}
use Rattle.text_model.specs.declared.slots.Need.{Need}
use Rattle.text_model.specs.declared.slots.Need.TheVariants.{Must, Begins, Inside}
use Rattle.text_model.specs.declared.slots.Refusal.{Refusal}
use Rattle.text_model.specs.declared.slots.Refusal.TheVariants.{BadOperands}
use Rattle.text_model.specs.Slots.{class_in, items_in}
use Rattle.text_model.specs.Classes.{same_class}
use Rattle.text_model.specs.Reading.{is_left_out, raised, item_for, items_behind, filled, same_classes}
use Rattle.text_code.specs.Sound.{is_sound, are_sound}
use Rattle.text_code.specs.Judging.{verdict, is_shown, are_shown}
use Rattle.text_code.specs.Filling.{first_of}

-- one more item behind those that there are
pub pushed : {A : Type 0} (all : List A) (x : A) (ys zs : List A) → ys ≡ x ∷ zs → all ++ ys ≡ (all ++ x ∷ []) ++ zs
pushed all x ys zs h = ap (λ (l : List _). all ++ l) h ∙ sym (append_snoc all x zs)

-- ---- slots that are left

pub first_sound : (left more : List Slot) (s : Slot) → left ≡ s ∷ more → are_sound left ≡ true → is_sound s ≡ true
first_sound left more s e h = (and_parts (is_sound s) (are_sound more) (sym (ap are_sound e) ∙ h)).0

pub rest_sound : (left more : List Slot) (s : Slot) → left ≡ s ∷ more → are_sound left ≡ true → are_sound more ≡ true
rest_sound left more s e h = (and_parts (is_sound s) (are_sound more) (sym (ap are_sound e) ∙ h)).1

-- ---- items filled in

pub out_step : (s : Slot) (ss : List Slot) (out : Bool) (is : List Item) (i : Item) → is_left_out s.need out is ≡ true → i ∷ [] ≡ item_for true s []
    → filled out (s ∷ ss) is ≡ i ∷ filled true ss is
out_step s ss out is i h e = ap (λ (o : Bool). item_for o s is ++ filled o ss (items_behind o is)) h ∙ ap (λ (js : List Item). js ++ filled true ss is) (sym e)

pub given_step : (s : Slot) (ss : List Slot) (out : Bool) (i : Item) (is : List Item) → is_left_out s.need out (i ∷ is) ≡ false
    → filled out (s ∷ ss) (i ∷ is) ≡ raised s.style i ∷ filled false ss is
given_step s ss out i is h = ap (λ (o : Bool). item_for o s (i ∷ is) ++ filled o ss (items_behind o (i ∷ is))) h

pub lacking_step : (s : Slot) (ss : List Slot) (out : Bool) → is_left_out s.need out [] ≡ false → filled out (s ∷ ss) [] ≡ filled false ss []
lacking_step s ss out h = ap (λ (o : Bool). item_for o s [] ++ filled o ss (items_behind o [])) h

one_left_out : (o : Bool) (s : Slot) → length (item_for o s []) ≤ 1
one_left_out true s = omega arith
one_left_out false s = omega arith

nothing_behind : (o : Bool) → items_behind o [] ≡ []
nothing_behind true = refl
nothing_behind false = refl

pub none_left : {A : Type 0} (xs : List A) → length xs ≡ 0 → xs ≡ []
none_left [] h = refl
none_left (x ∷ xs) h = absurd (omega (arith, h))

pub some_next : {A : Type 0} (xs : List A) → (length xs ≡ 0 → ⊥) → 0 < length xs
some_next [] h = absurd (h refl)
some_next (x ∷ xs) h = omega arith

-- no more items than slots are put in
few_filled : (ss : List Slot) (out : Bool) → length (filled out ss []) ≤ length ss
few_filled [] out = omega arith
few_filled (s ∷ ss) out =
    let o : Bool = is_left_out s.need out [] in
    let a = one_left_out o s in
    let b : length (filled o ss (items_behind o [])) ≤ length ss = subst (λ (js : List Item). length (filled o ss js) ≤ length ss) (sym (nothing_behind o)) (few_filled ss o) in
    let e = length-append (item_for o s []) (filled o ss (items_behind o [])) in
    omega (arith, a, b, e)

fewer : (ss : List Slot) (w : ℕ) (is : List Item) → length is < length ss → same_classes (items_in ss w) is ≡ false
fewer [] w is h = absurd (omega arith)
fewer (s ∷ ss) w [] h = refl
fewer (s ∷ ss) w (i ∷ is) h = and_right (same_class (class_in s.shape w) i.class) _ (fewer ss w is (omega arith))

more : (ss : List Slot) (w : ℕ) (is : List Item) → length ss < length is → same_classes (items_in ss w) is ≡ false
more [] w [] h = absurd (omega arith)
more [] w (i ∷ is) h = refl
more (s ∷ ss) w [] h = absurd (omega arith)
more (s ∷ ss) w (i ∷ is) h = and_right (same_class (class_in s.shape w) i.class) _ (more ss w is (omega arith))

-- an item that is lacking
pub too_few : (ss : List Slot) (is all : List Item) (out : Bool) (s : Slot) (rest : List Slot) → filled false ss is ≡ all ++ filled out (s ∷ rest) [] → length (s ∷ rest) + length all ≡ length ss
    → is_left_out s.need out [] ≡ false → (w : ℕ) → same_classes (items_in ss w) (filled false ss is) ≡ false
too_few ss is all out s rest h l n w =
    let e : filled false ss is ≡ all ++ filled false rest [] = h ∙ ap (λ (js : List Item). all ++ js) (lacking_step s rest out n) in
    let k : length (filled false ss is) ≡ length all + length (filled false rest []) = ap length e ∙ length-append all (filled false rest []) in
    let f = few_filled rest false in
    fewer ss w (filled false ss is) (omega (arith, k, f, l))

-- items behind the last slot
pub too_many : (ss : List Slot) (is all next : List Item) → filled false ss is ≡ all ++ next → length all ≡ length ss → 0 < length next
    → (w : ℕ) → same_classes (items_in ss w) (filled false ss is) ≡ false
too_many ss is all next h l n w =
    let k : length (filled false ss is) ≡ length all + length next = ap length h ∙ length-append all next in
    more ss w (filled false ss is) (omega (arith, k, n, l))

-- what a slot asks of the items that are left, it asks of the first of them
first_same : (n : Need) (out : Bool) (is : List Item) → is_left_out n out (first_of (slice_get is 0)) ≡ is_left_out n out is
first_same n out [] = refl
first_same Must out (i ∷ is) = refl
first_same Begins out (i ∷ is) = refl
first_same (Inside v) out (i ∷ is) = refl

module _ (slots left more : List Slot) (items next all new : List Item) (slot : Slot) (out o : Bool) (i : Item) (first : Option Item)
    (l : left ≡ slot ∷ more) (f : first ≡ slice_get next 0) (t : o ≡ is_left_out slot.need out (first_of first)) where
  asked : (b : Bool) → o ≡ b → is_left_out slot.need out next ≡ b
  asked b h = sym (first_same slot.need out next) ∙ ap (λ (n : Option Item). is_left_out slot.need out (first_of n)) (sym f) ∙ sym t ∙ h

  pub kept_out : o ≡ true → i ∷ [] ≡ item_for true slot [] → new ≡ all ++ i ∷ [] → filled false slots items ≡ all ++ filled out left next → filled false slots items ≡ new ++ filled o more next
  kept_out h e n inv =
      inv ∙ ap (λ (ss : List Slot). all ++ filled out ss next) l ∙ pushed all i (filled out (slot ∷ more) next) (filled true more next) (out_step slot more out next i (asked true h) e)
      ∙ ap₂ (λ (xs : List Item) (b : Bool). xs ++ filled b more next) (sym n) (sym h)

  pub kept_given : (x : Item) (rest : List Item) → next ≡ x ∷ rest → o ≡ false → i ≡ raised slot.style x → new ≡ all ++ i ∷ [] → filled false slots items ≡ all ++ filled out left next
      → filled false slots items ≡ new ++ filled o more rest
  kept_given x rest r h e n inv =
      let a : is_left_out slot.need out (x ∷ rest) ≡ false = ap (is_left_out slot.need out) (sym r) ∙ asked false h in
      inv ∙ ap₂ (λ (ss : List Slot) (is : List Item). all ++ filled out ss is) l r
      ∙ pushed all i (filled out (slot ∷ more) (x ∷ rest)) (filled false more rest) (given_step slot more out x rest a ∙ ap (λ (y : Item). y ∷ filled false more rest) (sym e))
      ∙ ap₂ (λ (xs : List Item) (b : Bool). xs ++ filled b more rest) (sym n) (sym h)

pub lacking : (slots left more : List Slot) (items next all : List Item) (slot : Slot) (out o : Bool) (first : Option Item) → left ≡ slot ∷ more → first ≡ slice_get next 0
    → o ≡ is_left_out slot.need out (first_of first) → length next ≡ 0 → o ≡ false → filled false slots items ≡ all ++ filled out left next → length left + length all ≡ length slots
    → (w : ℕ) → same_classes (items_in slots w) (filled false slots items) ≡ false
lacking slots left more items next all slot out o first l f t z h inv k w =
    let e : next ≡ [] = none_left next z in
    let d : is_left_out slot.need out next ≡ false = sym (first_same slot.need out next) ∙ ap (λ (n : Option Item). is_left_out slot.need out (first_of n)) (sym f) ∙ sym t ∙ h in
    let m : length left ≡ length (slot ∷ more) = ap (λ (ss : List Slot). length ss) l in
    too_few slots items all out slot more (inv ∙ ap₂ (λ (ss : List Slot) (is : List Item). all ++ filled out ss is) l e) (omega (arith, m, k)) (ap (is_left_out slot.need out) (sym e) ∙ d) w

pub over : (slots left : List Slot) (items next all : List Item) (out : Bool) → length left ≡ 0 → filled false slots items ≡ all ++ filled out left next → length left + length all ≡ length slots → (length next == 0) ≡ false
    → (w : ℕ) → same_classes (items_in slots w) (filled false slots items) ≡ false
over slots left items next all out z inv k n w =
    let e : left ≡ [] = none_left left z in
    let m : (length next ≡ 0) → ⊥ = λ q. true≢false (sym (eq-eqb _ _ q) ∙ n) in
    too_many slots items all next (inv ∙ ap (λ (ss : List Slot). all ++ filled out ss next) e) (omega (arith, z, k)) (some_next next m) w

-- ---- items judged

pub judged_step : (s : Slot) (ss : List Slot) (i : Item) (is : List Item) (w : ℕ) (fine : Bool) → same_class (class_in s.shape w) i.class ≡ true
    → ◌≡◌ {A = Result (Unit {0}) Refusal} (verdict (same_classes (items_in (s ∷ ss) w) (i ∷ is)) (fine && are_shown (s ∷ ss) (i ∷ is) w) tt)
    (verdict (same_classes (items_in ss w) is) ((fine && is_shown s w i.value) && are_shown ss is w) tt)
judged_step s ss i is w fine h =
    let f = λ (b c : Bool). verdict {A = Unit {0}} b c tt in
    ap (λ (b : Bool). f (b && same_classes (items_in ss w) is) (fine && (is_shown s w i.value && are_shown ss is w))) h
    ∙ ap (λ (b : Bool). f (same_classes (items_in ss w) is) b) (sym (and_assoc fine (is_shown s w i.value) (are_shown ss is w)))

pub other_class : (s : Slot) (ss : List Slot) (i : Item) (is : List Item) (w : ℕ) (fine : Bool) → same_class (class_in s.shape w) i.class ≡ false
    → ◌≡◌ {A = Result (Unit {0}) Refusal} (verdict (same_classes (items_in (s ∷ ss) w) (i ∷ is)) fine tt) (Err BadOperands)
other_class s ss i is w fine h =
    let f = λ (b c : Bool). verdict {A = Unit {0}} b c tt in
    ap (λ (b : Bool). f b fine) (and_left _ (same_classes (items_in ss w) is) h)
