-- From the test: each word of a line has a pattern.
use Rattle.std.proofs.Common.{◌≡◌, ℕ, suc, ◌+◌, ◌-◌, ◌*◌, ◌^◌, ◌<◌, ◌≤◌, ◌==◌, ◌&&◌, ◌||◌, if◌then◌else◌, cond, Bool, true, not, Option, Some, None, List, [], ◌∷◌, length, bit_and, bit_or, refl, sym, ap, ap₂, ◌∙◌, arith, inl, inr}
use Rattle.std.proofs.lemmas.Bool.{cases_Bool, and_parts, or_cases, eqb-true, lt-ltb, leb-true, false≢true}
use Rattle.std.proofs.lemmas.Nat.{and_assoc}
use Rattle.emu_bits.specs.Rows.{Place, width, ones_in, outside, values, fill, Line, Row, next, number_of, row_in}
use Rattle.emu_bits.proofs.AllBelow.{each_below}
use Rattle.emu_bits.proofs.Computed.{are_apart}
use Rattle.emu_bits.proofs.Encoding.{and_over_or, fill_own, answer_of}
use Rattle.text_model.specs.declared.slots.Shape.{Shape}
use Rattle.text_model.specs.declared.slots.Shape.TheVariants.{Only, Told, Shown}
use Rattle.text_model.specs.declared.slots.Kind.{Kind}
use Rattle.text_model.specs.declared.slots.Kind.TheVariants.{NamedCount, UnnamedCount}
use Rattle.text_model.specs.declared.slots.Slot.{Slot}
use Rattle.text_model.specs.Slots.{place_of, places, at_place, joined, classes_of, has_class, can_show, all_fit}
use Rattle.text_model.specs.Reading.{Pattern}
use Rattle.text_model.specs.Text.{told_bits, shows, chosen}
use Rattle.text_model.proofs.Building.{small_at}
use Rattle.text_model.proofs.Printed.{same_has_class, same_joined}
use Rattle.text_model.proofs.Tests.{has_all, shape_places, has_every_class, shows_every, is_settled, all_settled, is_chosen_by, all_chosen_by, every, is_some_pattern, each_row, is_total}

-- ---- what doesn't look outside of a mask

module _ (w m : ℕ) where
  every_class : (k : Shape) (v : ℕ) → has_every_class k ≡ true → has_class k v ≡ true
  every_class (Only c) v h = refl
  every_class (Told b g) v h = let l : at_place (place_of b) v < 2 ^ width (place_of b) = small_at (place_of b) v in let n : 2 ^ width (place_of b) ≤ length (classes_of g) = leb-true _ _ h in lt-ltb _ _ (omega (arith, l, n))
  every_class (Shown b g) v h = let l : at_place (place_of b) v < 2 ^ width (place_of b) = small_at (place_of b) v in let n : 2 ^ width (place_of b) ≤ length (classes_of g) = leb-true _ _ h in lt-ltb _ _ (omega (arith, l, n))

  settled_class : (k : Shape) → (has_every_class k || has_all m (shape_places k)) ≡ true → has_class k w ≡ has_class k (bit_and w m)
  settled_class k h = elim (or_cases (has_every_class k) (has_all m (shape_places k)) h) [
    | inl e ↦ every_class k w e ∙ sym (every_class k (bit_and w m) e)
    | inr e ↦ same_has_class w m k e
  ]

  always_shown : (k : Kind) (u v : ℕ) → shows_every k ≡ true → can_show k u ≡ can_show k v
  always_shown NamedCount u v h = absurd (false≢true h)
  always_shown UnnamedCount u v h = absurd (false≢true h)
  always_shown k u v h = refl

  settled_kind : (k : Kind) (ps : List Place) → (shows_every k || has_all m ps) ≡ true → can_show k (joined ps w) ≡ can_show k (joined ps (bit_and w m))
  settled_kind k ps h = elim (or_cases (shows_every k) (has_all m ps) h) [
    | inl e ↦ always_shown k (joined ps w) (joined ps (bit_and w m)) e
    | inr e ↦ ap (can_show k) (same_joined w m ps e)
  ]

  settled : (ss : List Slot) → all_settled m ss ≡ true → all_fit ss w ≡ all_fit ss (bit_and w m)
  settled [] h = refl
  settled (s ∷ ss) h =
      let h2 = and_parts (is_settled m s) (all_settled m ss) h in
      let h3 = and_parts (has_every_class s.shape || has_all m (shape_places s.shape)) _ h2.0 in
      ap₂ (λ (a b : Bool). a && b)
      (ap₂ (λ (a b : Bool). a && b) (settled_class s.shape h3.0) (settled_kind s.codec.kind (places s.codec.parts) h3.1))
      (settled ss h2.1)

  same_shows : (p : Pattern) → is_chosen_by m p ≡ true → shows p w ≡ shows p (bit_and w m)
  same_shows p h =
      let n : ℕ = 2 ^ 32 - 1 - told_bits p.slots in
      let h2 = and_parts (bit_and m n == n) (all_settled m p.slots) h in
      ap₂ (λ (x : ℕ) (b : Bool). x == p.base && b) (ap (bit_and w) (sym (eqb-true _ _ h2.0)) ∙ sym (and_assoc n w m)) (settled p.slots h2.1)

  pub same_chosen : (ps : List Pattern) → all_chosen_by m ps ≡ true → chosen ps w ≡ chosen ps (bit_and w m)
  same_chosen [] h = refl
  same_chosen (p ∷ ps) h =
      let h2 = and_parts (is_chosen_by m p) (all_chosen_by m ps) h in
      ap₂ (λ (b : Bool) (o : Option Pattern). if b then Some p else o) (same_shows p h2.0) (same_chosen ps h2.1)

-- ---- a word's own values are among those tried

every_own : (ps : List Place) (w x : ℕ) (q : List ℕ → ℕ → Bool) → every ps x q ≡ true → q (values ps w) (fill ps (values ps w) x) ≡ true
every_own [] w x q h = h
every_own (p ∷ ps) w x q h =
    let v : ℕ = at_place p w in
    every_own ps w (bit_or x (v * 2 ^ p.low)) (λ vs y. q (v ∷ vs) y)
    (each_below (2 ^ width p) (λ u. every ps (bit_or x (u * 2 ^ p.low)) (λ vs y. q (u ∷ vs) y)) v h (small_at p w))

-- ---- rows

no_next : (o : Option ℕ) (k : ℕ) → next o ≡ Some k → (j : ℕ) × (o ≡ Some j) × (k ≡ suc j)
no_next None k h = absurd (cc)
no_next (Some j) k h = (j, refl, cc)

-- the row whose base word a word has
found_row : (xs : List ℕ) (y k n w : ℕ) (fs : List Place) (ok : ℕ → List ℕ → Bool) (qs : List Pattern) → number_of y xs ≡ Some k → each_row n xs fs ok qs ≡ true
    → every fs y (λ vs z. not (ok (n + k) vs) || is_some_pattern (chosen qs z)) ≡ true
found_row [] y k n w fs ok qs f h = absurd (cc)
found_row (x ∷ xs) y k n w fs ok qs f h =
    let t = λ (i z : ℕ). every fs z (λ vs u. not (ok i vs) || is_some_pattern (chosen qs u)) in
    let h2 = and_parts (t n x) (each_row (n + 1) xs fs ok qs) h in
    elim (cases_Bool (y == x)) [
      | inl e ↦ (let g : Some 0 ≡ Some k = sym (ap (λ (b : Bool). cond b (Some 0) (next (number_of y xs))) e) ∙ f in
          let z : 0 ≡ k = cc in
          let i : n + k ≡ n = omega (arith, z) in
          ap₂ t i (eqb-true y x e) ∙ h2.0)
      | inr e ↦ (let g = no_next (number_of y xs) k (sym (ap (λ (b : Bool). cond b (Some 0) (next (number_of y xs))) e) ∙ f) in
          let i : n + k ≡ n + 1 + g.0 = omega (arith, g.2) in
          ap (λ (j : ℕ). t j y) i ∙ found_row xs y g.0 (n + 1) w fs ok qs g.1 h2.1)
    ]

some_pattern : (o : Option Pattern) → is_some_pattern o ≡ true → (p : Pattern) × (o ≡ Some p)
some_pattern None h = absurd (false≢true h)
some_pattern (Some p) h = (p, refl)

-- Each word of a line has a pattern.
pub total : {F : Type 0} (qs : List Pattern) (l : Line F) (fs : List Place) (ok : ℕ → List ℕ → Bool) (w : ℕ) (r : Row F) → is_total qs l fs ok ≡ true
    → row_in l w ≡ Some r → ok r.number (values fs w) ≡ true → (p : Pattern) × (chosen qs w ≡ Some p)
total qs l fs ok w r h e y =
    let m : ℕ = bit_or (outside l.places) (ones_in fs) in
    let h1 = and_parts (are_apart fs) _ h in
    let h2 = and_parts (all_chosen_by m qs) (each_row 0 l.words fs ok qs) h1.1 in
    let x : ℕ = bit_and w (outside l.places) in
    let a = answer_of l w r e in
    let t = every_own fs w x (λ vs z. not (ok (0 + r.number) vs) || is_some_pattern (chosen qs z)) (found_row l.words x r.number 0 w fs ok qs a.found h2.1) in
    let z : 0 + r.number ≡ r.number = omega arith in
    let word : fill fs (values fs w) x ≡ bit_and w m = fill_own w fs x h1.0 ∙ sym (and_over_or w (outside l.places) (ones_in fs)) in
    let s : (not (ok r.number (values fs w)) || is_some_pattern (chosen qs (bit_and w m))) ≡ true =
    ap₂ (λ (i u : ℕ). not (ok i (values fs w)) || is_some_pattern (chosen qs u)) (sym z) (sym word) ∙ t in
    some_pattern (chosen qs w) (ap is_some_pattern (same_chosen w m qs h2.0) ∙ sym (ap (λ (b : Bool). not b || is_some_pattern (chosen qs (bit_and w m))) y) ∙ s)
