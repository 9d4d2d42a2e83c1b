-- What a pattern makes of another's items: nothing that it reads, where the test says so.
use Rattle.std.proofs.Common.{◌≡◌, ℕ, zero, suc, ◌-◌, ◌^◌, ◌<◌, ◌≤◌, pos, ◌+ℤ◌, unsigned_abs, ◌==◌, ◌&&◌, ◌||◌, if◌then◌else◌, Bool, true, false, not, List, [], ◌∷◌, ◌++◌, length, get_or, nat_le, refl, sym, ap, ◌∙◌, subst, arith, inl, inr, length-append}
use Rattle.std.proofs.lemmas.Bool.{cases_Bool, and_parts, and_left, and_right, or_cases, or_left, or_right, not-true, eqb-true, eq-eqb, ne_eqb, false≢true}
use Rattle.std.specs.Int.{is_negative}
use Rattle.text_model.specs.declared.classes.Class.{Class}
use Rattle.text_model.specs.declared.classes.Class.TheVariants.{Unknown, Comma}
use Rattle.text_model.specs.declared.classes.Group.{Group}
use Rattle.text_model.specs.declared.classes.Group.TheVariants.{General}
use Rattle.text_model.specs.declared.slots.Shape.{Shape}
use Rattle.text_model.specs.declared.slots.Shape.TheVariants.{Only, Told, Shown}
use Rattle.text_model.specs.declared.slots.Style.{Style}
use Rattle.text_model.specs.declared.slots.Style.TheVariants.{Hexadecimal}
use Rattle.text_model.specs.declared.slots.Need.{Need}
use Rattle.text_model.specs.declared.slots.Need.TheVariants.{Must, Begins, Inside}
use Rattle.text_model.specs.declared.slots.Slot.{Slot}
use Rattle.text_model.specs.declared.slots.Item.{Item}
use Rattle.text_model.specs.ClassNumbers.{class_number}
use Rattle.text_model.specs.Classes.{same_class}
use Rattle.text_model.specs.Slots.{place_of, at_place, classes_of, class_at, class_in, items_in}
use Rattle.text_model.specs.Reading.{is_left_out, raised, item_for, items_behind, filled, same_classes}
use Rattle.text_model.proofs.Own.{self}
use Rattle.text_model.proofs.Tests.{is_in, none_shared, class_numbers, classes_in, are_exclusive, skips, is_comma_shape, takes, are_unlike}

-- Items of the classes that slots show of a word.
abbrev pub Shaped : List Slot → ℕ → List Item → Type 0
Shaped [] w [] = Unit {0}
Shaped [] w (i ∷ is) = ⊥
Shaped (s ∷ ss) w [] = ⊥
Shaped (s ∷ ss) w (i ∷ is) = (i.class ≡ class_in s.shape w) × Shaped ss w is

-- ---- the classes of a shape

pub some_class : (g : Group) → 0 < length (classes_of g)
some_class General = omega arith
some_class g = omega arith

got_in : (cs : List Class) (v : ℕ) (d : Class) → is_in (class_number (get_or cs v d)) (class_number d ∷ class_numbers cs) ≡ true
got_in [] v d = or_left _ _ (self (class_number d))
got_in (c ∷ cs) zero d = or_right (class_number c == class_number d) _ (or_left _ _ (self (class_number c)))
got_in (c ∷ cs) (suc v) d =
    let x : ℕ = class_number (get_or cs v d) in
    elim (or_cases (x == class_number d) (is_in x (class_numbers cs)) (got_in cs v d)) [
      | inl e ↦ or_left _ _ e
      | inr e ↦ or_right (x == class_number d) _ (or_right (x == class_number c) _ e)
    ]

first_in : (cs : List Class) (d : Class) → 0 < length cs → is_in (class_number (get_or cs 0 d)) (class_numbers cs) ≡ true
first_in [] d h = absurd (omega arith)
first_in (c ∷ cs) d h = or_left _ _ (self (class_number c))

picked_in : (g : Group) (v : ℕ) → is_in (class_number (class_at g v)) (class_numbers (classes_of g)) ≡ true
picked_in g v =
    let cs : List Class = classes_of g in
    let d : Class = get_or cs 0 Unknown in
    elim (or_cases (class_number (get_or cs v d) == class_number d) (is_in (class_number (get_or cs v d)) (class_numbers cs)) (got_in cs v d)) [
      | inl e ↦ ap (λ (x : ℕ). is_in x (class_numbers cs)) (eqb-true _ _ e) ∙ first_in cs Unknown (some_class g)
      | inr e ↦ e
    ]

pub in_classes : (k : Shape) (w : ℕ) → is_in (class_number (class_in k w)) (classes_in k) ≡ true
in_classes (Only c) w = or_left _ _ (self (class_number c))
in_classes (Told b g) w = picked_in g (at_place (place_of b) w)
in_classes (Shown b g) w = picked_in g (at_place (place_of b) w)

pub not_shared : (xs ys : List ℕ) (x : ℕ) → none_shared xs ys ≡ true → is_in x xs ≡ true → is_in x ys ≡ false
not_shared [] ys x n h = absurd (false≢true h)
not_shared (z ∷ zs) ys x n h =
    let n2 = and_parts (not (is_in z ys)) (none_shared zs ys) n in
    elim (or_cases (x == z) (is_in x zs) h) [
      | inl e ↦ ap (λ (t : ℕ). is_in t ys) (eqb-true x z e) ∙ not-true (is_in z ys) n2.0
      | inr e ↦ not_shared zs ys x n2.1 e
    ]

-- a class of a shape isn't another that is no class of the shape
not_it : (k : Shape) (w c : ℕ) → is_in c (classes_in k) ≡ false → (c == class_number (class_in k w)) ≡ false
not_it k w c h = ne_eqb c (class_number (class_in k w)) (λ e. false≢true (sym h ∙ ap (λ (t : ℕ). is_in t (classes_in k)) e ∙ in_classes k w))

exclusive : (k l : Shape) (v w : ℕ) → are_exclusive k l ≡ true → same_class (class_in l v) (class_in k w) ≡ false
exclusive k l v w h =
    ne_eqb (class_number (class_in l v)) (class_number (class_in k w)) (λ e.
    false≢true (sym (not_shared (classes_in k) (classes_in l) (class_number (class_in k w)) h (in_classes k w)) ∙ ap (λ (t : ℕ). is_in t (classes_in l)) (sym e) ∙ in_classes l v))

-- ---- parts left out

swapped : (a b : ℕ) → (a == b) ≡ (b == a)
swapped a b = elim (cases_Bool (a == b)) [
  | inl e ↦ e ∙ sym (eq-eqb b a (sym (eqb-true a b e)))
  | inr e ↦ e ∙ sym (ne_eqb b a (λ k. false≢true (sym e ∙ eq-eqb a b (sym k))))
]

of_class : (i : Item) (k : Shape) (w c : ℕ) → i.class ≡ class_in k w → (class_number i.class == c) ≡ (class_number (class_in k w) == c)
of_class i k w c h = ap (λ (d : Class). class_number d == c) h

skipped : (n : Need) (out : Bool) (k : Shape) (w : ℕ) (i : Item) (is : List Item) → i.class ≡ class_in k w → skips n out k ≡ true → is_left_out n out (i ∷ is) ≡ true
skipped Must out k w i is e h = absurd (false≢true h)
skipped Begins out k w i is e h =
    let c : ℕ = class_number Comma in
    ap not (of_class i k w c e ∙ swapped (class_number (class_in k w)) c ∙ not_it k w c (not-true _ h))
skipped (Inside v) out k w i is e h = h

a_comma : (k : Shape) (w : ℕ) → is_comma_shape k ≡ true → (class_number (class_in k w) == class_number Comma) ≡ true
a_comma (Only c) w h = h
a_comma (Told b g) w h = absurd (false≢true h)
a_comma (Shown b g) w h = absurd (false≢true h)

taken : (n : Need) (out : Bool) (k : Shape) (w : ℕ) (i : Item) (is : List Item) → i.class ≡ class_in k w → takes n out k ≡ true → is_left_out n out (i ∷ is) ≡ false
taken Must out k w i is e h = refl
taken Begins out k w i is e h = ap not (of_class i k w (class_number Comma) e ∙ a_comma k w h)
taken (Inside v) out k w i is e h = not-true out h

-- ---- lengths

for_one : (o : Bool) (s : Slot) (is : List Item) → length (item_for o s is) ≤ 1
for_one true s is = omega arith
for_one false s [] = omega arith
for_one false s (i ∷ is) = omega arith

no_more : (o : Bool) → items_behind o [] ≡ []
no_more true = refl
no_more false = refl

pub short : (ss : List Slot) (out : Bool) → length (filled out ss []) ≤ length ss
short [] out = omega arith
short (s ∷ ss) out =
    let o : Bool = is_left_out s.need out [] in
    let none : items_behind o [] ≡ [] = no_more o in
    let l : length (filled o ss (items_behind o [])) ≤ length ss = subst (λ (is : List Item). length (filled o ss is) ≤ length ss) (sym none) (short ss o) in
    let a = for_one o s [] in
    let e = length-append (item_for o s []) (filled o ss (items_behind o [])) in
    omega (arith, l, a, e)

pub shorter : (ss : List Slot) (w : ℕ) (is : List Item) → length is < length ss → same_classes (items_in ss w) is ≡ false
shorter [] w is h = absurd (omega arith)
shorter (s ∷ ss) w [] h = refl
shorter (s ∷ ss) w (i ∷ is) h = and_right _ _ (shorter ss w is (omega arith))

-- ---- the walk along both

pub raised_class : (y : Style) (i : Item) → (raised y i).class ≡ i.class
raised_class (Hexadecimal w) i =
    let f = λ (b : Bool). (if b then record i { value = i.value +ℤ pos (2 ^ w) } else i).class in
    elim (cases_Bool (is_negative i.value && nat_le (unsigned_abs i.value) (2 ^ (w - 1)))) [
      | inl e ↦ ap f e
      | inr e ↦ ap f e
    ]
raised_class y i = refl

-- what is compared, by whether the first slot's item was left out
compared : Slot → List Slot → ℕ → List Item → Bool → Bool
compared q qs v is o = same_classes (items_in (q ∷ qs) v) (item_for o q is ++ filled o qs (items_behind o is))

pub unlike : (qs ps : List Slot) (out : Bool) (v w : ℕ) (is : List Item) → Shaped ps w is → are_unlike out qs ps ≡ true → same_classes (items_in qs v) (filled out qs is) ≡ false
unfolding compared
unlike [] [] out v w is s h = absurd (false≢true h)
unlike [] (p ∷ ps) out v w [] s h = absurd s
unlike [] (p ∷ ps) out v w (i ∷ is) s h = refl
unlike (q ∷ qs) [] out v w (i ∷ is) s h = absurd s
unlike (q ∷ qs) [] out v w [] s h = elim (cases_Bool (is_left_out q.need out [])) [
  | inl e ↦ ap (compared q qs v []) e ∙ and_right _ _ (unlike qs [] true v w [] tt (sym (ap (λ (b : Bool). if b then are_unlike true qs [] else true) e) ∙ h))
  | inr e ↦ (let l : length (filled false qs []) ≤ length qs = short qs false in
      ap (compared q qs v []) e ∙ shorter (q ∷ qs) v (filled false qs []) (omega arith))
]
unlike (q ∷ qs) (p ∷ ps) out v w [] s h = absurd s
unlike (q ∷ qs) (p ∷ ps) out v w (i ∷ is) s h =
    let rest : Bool = takes q.need out p.shape && (are_exclusive p.shape q.shape || are_unlike false qs ps) in
    let g = λ (b : Bool). if b then are_unlike true qs (p ∷ ps) else rest in
    elim (cases_Bool (skips q.need out p.shape)) [
      | inl e ↦ ap (compared q qs v (i ∷ is)) (skipped q.need out p.shape w i is s.0 e)
          ∙ and_right _ _ (unlike qs (p ∷ ps) true v w (i ∷ is) s (sym (ap g e) ∙ h))
      | inr e ↦ (let t = and_parts (takes q.need out p.shape) (are_exclusive p.shape q.shape || are_unlike false qs ps) (sym (ap g e) ∙ h) in
          ap (compared q qs v (i ∷ is)) (taken q.need out p.shape w i is s.0 t.0)
          ∙ elim (or_cases (are_exclusive p.shape q.shape) (are_unlike false qs ps) t.1) [
            | inl x ↦ and_left _ _ (ap (λ (c : Class). same_class (class_in q.shape v) c) (raised_class q.style i ∙ s.0) ∙ exclusive p.shape q.shape v w x)
            | inr x ↦ and_right _ _ (unlike qs ps false v w is s.1 x)
          ])
    ]
