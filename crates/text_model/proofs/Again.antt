-- What a pattern shows is read as the word, over any patterns that are readable and apart.
use Rattle.std.proofs.Common.{◌≡◌, ℕ, zero, suc, ◌&&◌, ◌||◌, if◌then◌else◌, Bool, true, false, not, Option, Some, None, Result, Ok, Err, List, [], ◌∷◌, sym, ap, ap₂, ◌∙◌, inl, inr, ◌⊎◌}
use Rattle.std.proofs.lemmas.Bool.{cases_Bool, and_parts}
use Rattle.std.specs.Str.{bytes_eq}
use Rattle.text_model.specs.declared.slots.Item.{Item}
use Rattle.text_model.specs.declared.slots.Refusal.{Refusal}
use Rattle.text_model.specs.declared.slots.Refusal.TheVariants.{UnknownName, BadOperands, OutOfRange}
use Rattle.text_model.specs.Slots.{items_in, all_fit}
use Rattle.text_model.specs.Reading.{Pattern, Read, Operands, filled, same_classes, same_values, all_canonical, word_told, has_target, judged, items_to_read, answer, best, reads}
use Rattle.text_model.proofs.Tests.{are_good, is_readable, are_unlike, retargeted, is_apart, is_apart_from, all_apart, all_readable}
use Rattle.text_model.proofs.Own.{own_name, all_kept, IsShown, read_own}
use Rattle.text_model.proofs.Unlike.{Shaped, unlike}

-- Operands that a pattern shows of a word.
pub record AreOf (p : Pattern) (w : ℕ) (o : Operands) : Type 0 where
  pub own : (if has_target p.slots then o.untargeted else o.items) ≡ items_in p.slots w
  pub items : Shaped p.slots w o.items
  pub untargeted : Shaped p.slots w o.untargeted ⊎ Shaped (retargeted p.slots) w o.untargeted

pub own : (p : Pattern) (w : ℕ) (in_table : ℕ → Bool) (o : Operands) → is_readable p ≡ true → IsShown in_table p w → AreOf p w o
    → answer in_table p p.name o ≡ Ok (record { word = w; aimed = has_target p.slots })
own p w in_table o r h a =
    let is : items_to_read p o ≡ items_in p.slots w = ap (filled false p.slots) a.own ∙ all_kept p.slots w (and_parts (are_good p.slots) _ r).0 in
    ap (λ (b : Bool). if b then judged in_table p (items_to_read p o) (word_told p (items_to_read p o)) else Err UnknownName) (own_name p.name)
    ∙ ap (λ (js : List Item). judged in_table p js (word_told p js)) is
    ∙ read_own p w in_table r h

-- ---- another pattern

-- a pattern of another shape refuses
refused : (p : Pattern) (in_table : ℕ → Bool) (is : List Item) (v : ℕ) → same_classes (items_in p.slots v) is ≡ false → judged in_table p is v ≡ Err BadOperands
refused p in_table is v h =
    let fine : Bool = same_values (items_in p.slots v) is && (all_fit p.slots v && (all_canonical p.slots v && in_table v)) in
    ap (λ (b : Bool). if b then (if fine then Ok (record { word = v; aimed = has_target p.slots }) else Err OutOfRange) else Err BadOperands) h

unlike_operands : (p q : Pattern) (w v : ℕ) (o : Operands) → (are_unlike false p.slots q.slots && (not (has_target p.slots) || are_unlike false p.slots (retargeted q.slots))) ≡ true
    → AreOf q w o → same_classes (items_in p.slots v) (items_to_read p o) ≡ false
unlike_operands p q w v o h a =
    let h2 = and_parts (are_unlike false p.slots q.slots) _ h in
    let f = λ (is : List Item). same_classes (items_in p.slots v) (filled false p.slots is) in
    elim (cases_Bool (has_target p.slots)) [
      | inl e ↦ ap (λ (b : Bool). f (if b then o.untargeted else o.items)) e
          ∙ elim a.untargeted [
            | inl s ↦ unlike p.slots q.slots false v w o.untargeted s h2.0
            | inr s ↦ unlike p.slots (retargeted q.slots) false v w o.untargeted s (sym (ap (λ (b : Bool). not b || are_unlike false p.slots (retargeted q.slots)) e) ∙ h2.1)
          ]
      | inr e ↦ ap (λ (b : Bool). f (if b then o.untargeted else o.items)) e ∙ unlike p.slots q.slots false v w o.items a.items h2.0
    ]

pub other : (p q : Pattern) (w : ℕ) (in_table : ℕ → Bool) (o : Operands) → is_apart p q ≡ true → AreOf q w o → (e : Refusal) × (answer in_table p q.name o ≡ Err e)
other p q w in_table o h a =
    let is : List Item = items_to_read p o in
    let f = λ (b : Bool). if b then judged in_table p is (word_told p is) else Err UnknownName in
    let rest : Bool = are_unlike false p.slots q.slots && (not (has_target p.slots) || are_unlike false p.slots (retargeted q.slots)) in
    elim (cases_Bool (bytes_eq q.name p.name)) [
      | inl e ↦ (
        BadOperands,
        ap f e ∙ refused p in_table is (word_told p is)
            (unlike_operands p q w (word_told p is) o (sym (ap (λ (b : Bool). not b || rest) e) ∙ h) a),
      )
      | inr e ↦ (UnknownName, ap f e)
    ]

-- ---- all patterns

abbrev pub pattern_at : List Pattern → ℕ → Option Pattern
pattern_at [] n = None
pattern_at (p ∷ ps) zero = Some p
pattern_at (p ∷ ps) (suc n) = pattern_at ps n

some_of : (p q : Pattern) → Some p ≡ Some q → p ≡ q
some_of p q h = cc

apart_at : (p : Pattern) (qs : List Pattern) (n : ℕ) (q : Pattern) → is_apart_from p qs ≡ true → pattern_at qs n ≡ Some q → is_apart p q ≡ true
apart_at p [] n q a h = absurd (cc)
apart_at p (r ∷ rs) zero q a h = ap (is_apart p) (sym (some_of r q h)) ∙ (and_parts (is_apart p r) (is_apart_from p rs) a).0
apart_at p (r ∷ rs) (suc n) q a h = apart_at p rs n q (and_parts (is_apart p r) (is_apart_from p rs) a).1 h

-- Shown and read again: the word.
pub read_again : (ps : List Pattern) (n : ℕ) (p : Pattern) (w : ℕ) (in_table : ℕ → Bool) (o : Operands) → all_readable ps ≡ true → all_apart ps ≡ true
    → pattern_at ps n ≡ Some p → IsShown in_table p w → AreOf p w o → reads in_table ps p.name o ≡ Ok (record { word = w; aimed = has_target p.slots })
read_again [] n p w in_table o r a e s h = absurd (cc)
read_again (q ∷ qs) zero p w in_table o r a e s h =
    let r2 = and_parts (is_readable q) (all_readable qs) r in
    ap (λ (x : Result Read Refusal). best x (reads in_table qs p.name o))
    (ap (λ (x : Pattern). answer in_table x p.name o) (some_of q p e) ∙ own p w in_table o (ap is_readable (sym (some_of q p e)) ∙ r2.0) s h)
read_again (q ∷ qs) (suc n) p w in_table o r a e s h =
    let r2 = and_parts (is_readable q) (all_readable qs) r in
    let a2 = and_parts (is_apart_from q qs) (all_apart qs) a in
    let x = other q p w in_table o (apart_at q qs n p a2.0 e) h in
    ap₂ best x.1 (read_again qs n p w in_table o r2.1 a2.1 e s h)
