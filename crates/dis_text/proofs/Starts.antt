-- Two tables whose patterns of one name begin with operands of different classes read no statement both.
use Rattle.std.proofs.Common.{◌≡◌, ℕ, ◌+◌, ◌≤◌, ◌&&◌, ◌||◌, if◌then◌else◌, Bool, true, false, not, Result, Ok, Err, List, [], ◌∷◌, ◌++◌, length, refl, sym, ap, ◌∙◌, arith, inl, inr, pos}
use Rattle.std.proofs.lemmas.Bool.{cases_Bool, and_parts, or_cases, not-true, eqb-true, false≢true, true≢false}
use Rattle.text_model.specs.declared.classes.Class.TheVariants.{Number}
use Rattle.text_model.specs.declared.slots.Need.{Need}
use Rattle.text_model.specs.declared.slots.Need.TheVariants.{Must, Begins, Inside}
use Rattle.text_model.specs.declared.slots.Slot.{Slot}
use Rattle.text_model.specs.declared.slots.Item.{Item}
use Rattle.text_model.specs.declared.slots.Refusal.{Refusal}
use Rattle.text_model.specs.declared.slots.Refusal.TheVariants.{UnknownName, BadOperands, OutOfRange}
use Rattle.text_model.specs.ClassNumbers.{class_number}
use Rattle.text_model.specs.Classes.{same_class}
use Rattle.text_model.specs.Slots.{class_in, items_in, all_fit}
use Rattle.text_model.specs.Reading.{Pattern, Read, Operands, is_left_out, item_for, items_behind, filled, raised, same_classes, same_values, all_canonical, has_target, word_told, judged, items_to_read, answer, best, reads}
use Rattle.text_model.specs.Words.{item}
use Rattle.text_model.specs.Statement.{Statement, is_address, untargeted, lowered, ends_in_label, items_of, operands_of, with_target, reads_tokens}
use Rattle.text_model.proofs.Tests.{is_in, none_shared, classes_in}
use Rattle.text_model.proofs.Unlike.{in_classes, not_shared, short, shorter, raised_class}
use Rattle.std.proofs.lemmas.Slice.Eq.{bytes_eq-Decides}
use Rattle.std.specs.Str.{bytes_eq}

-- ---- the test

abbrev is_must : Need → Bool
is_must Must = true
is_must n = false

-- both have a first operand, and it is never of one class, nor a number
abbrev pub begin_apart : List Slot → List Slot → Bool
begin_apart [] ts = false
begin_apart (s ∷ ss) [] = false
begin_apart (s ∷ ss) (t ∷ ts) =
    (is_must s.need && is_must t.need)
    && (none_shared (classes_in s.shape) (classes_in t.shape) && (not (is_in (class_number Number) (classes_in s.shape)) && not (is_in (class_number Number) (classes_in t.shape))))

abbrev pub starts_apart : Pattern → Pattern → Bool
starts_apart p q = not (bytes_eq p.name q.name) || begin_apart p.slots q.slots

abbrev pub starts_apart_from : Pattern → List Pattern → Bool
starts_apart_from p [] = true
starts_apart_from p (q ∷ qs) = starts_apart p q && starts_apart_from p qs

abbrev pub all_start_apart : List Pattern → List Pattern → Bool
all_start_apart [] qs = true
all_start_apart (p ∷ ps) qs = starts_apart_from p qs && all_start_apart ps qs

-- ---- the class of the first item

abbrev first_is_in : List Item → List ℕ → Bool
first_is_in [] cs = false
first_is_in (i ∷ is) cs = is_in (class_number i.class) cs

verdict_good : (a b : Bool) (r s : Read) → (if a then (if b then Ok r else Err OutOfRange) else Err BadOperands) ≡ Ok s → a ≡ true
verdict_good true b r s h = refl
verdict_good false b r s h = absurd (cc)

must_is : (n : Need) → is_must n ≡ true → n ≡ Must
must_is Must h = refl
must_is Begins h = absurd (false≢true h)
must_is (Inside v) h = absurd (false≢true h)

-- what is compared, by whether the first slot's item was left out
compared : Slot → List Slot → ℕ → List Item → Bool → Bool
compared s ss w is o = same_classes (items_in (s ∷ ss) w) (item_for o s is ++ filled o ss (items_behind o is))

not_left_out : (n : Need) (is : List Item) → n ≡ Must → is_left_out n false is ≡ false
not_left_out n is h = ap (λ (m : Need). is_left_out m false is) h

must_shaped : (s : Slot) (ss : List Slot) (w : ℕ) (is : List Item) → s.need ≡ Must → same_classes (items_in (s ∷ ss) w) (filled false (s ∷ ss) is) ≡ true → first_is_in is (classes_in s.shape) ≡ true
unfolding compared
must_shaped s ss w [] n h =
    let k : compared s ss w [] false ≡ true = sym (ap (compared s ss w []) (not_left_out s.need [] n)) ∙ h in
    let l : length (filled false ss []) ≤ length ss = short ss false in
    absurd (false≢true (sym (shorter (s ∷ ss) w (filled false ss []) (omega (arith, l))) ∙ k))
must_shaped s ss w (i ∷ is) n h =
    let k : compared s ss w (i ∷ is) false ≡ true = sym (ap (compared s ss w (i ∷ is)) (not_left_out s.need (i ∷ is) n)) ∙ h in
    let c = and_parts (same_class (class_in s.shape w) (raised s.style i).class) (same_classes (items_in ss w) (filled false ss is)) k in
    let e : class_number (class_in s.shape w) ≡ class_number i.class = eqb-true _ _ c.0 ∙ ap class_number (raised_class s.style i) in
    ap (λ (x : ℕ). is_in x (classes_in s.shape)) (sym e) ∙ in_classes s.shape w

first_read : (in_table : ℕ → Bool) (p : Pattern) (s : Slot) (ss : List Slot) (is : List Item) (w : ℕ) (r : Read) → p.slots ≡ s ∷ ss → is_must s.need ≡ true → judged in_table p (filled false p.slots is) w ≡ Ok r
    → first_is_in is (classes_in s.shape) ≡ true
first_read in_table p s ss is w r e m h =
    let good = same_values (items_in p.slots w) (filled false p.slots is) && (all_fit p.slots w && (all_canonical p.slots w && in_table w)) in
    let v = verdict_good (same_classes (items_in p.slots w) (filled false p.slots is)) good (record { word = w; aimed = has_target p.slots }) r h in
    must_shaped s ss w is (must_is s.need m) (sym (ap (λ (x : List Slot). same_classes (items_in x w) (filled false x is)) e) ∙ v)

-- the first operand is what it is, whether the last may be a target or not
first_untargeted : (label : Bool) (is : List Item) (cs : List ℕ) → is_in (class_number Number) cs ≡ false → first_is_in (untargeted label is) cs ≡ true → first_is_in is cs ≡ true
first_untargeted label [] cs n h = h
first_untargeted label (i ∷ []) cs n h =
    let f = λ (b : Bool). first_is_in ((if b then item Number (pos 0) else i) ∷ []) cs in
    elim (cases_Bool (label || is_address i)) [
      | inl e ↦ absurd (false≢true (sym n ∙ (sym (ap f e) ∙ h)))
      | inr e ↦ sym (ap f e) ∙ h
    ]
first_untargeted label (i ∷ j ∷ js) cs n h = h

-- ---- the tables

answered : (in_table : ℕ → Bool) (p : Pattern) (name : List ℕ) (o : Operands) (r : Read) → answer in_table p name o ≡ Ok r
    → (bytes_eq name p.name ≡ true) × (judged in_table p (items_to_read p o) (word_told p (items_to_read p o)) ≡ Ok r)
answered in_table p name o r h =
    let f = λ (b : Bool). if b then judged in_table p (items_to_read p o) (word_told p (items_to_read p o)) else Err UnknownName in
    elim (cases_Bool (bytes_eq name p.name)) [
      | inl e ↦ (e, sym (ap f e) ∙ h)
      | inr e ↦ (let k = sym (ap f e) ∙ h in absurd (cc))
    ]

-- the first item of a statement that a pattern reads is of a class of its first slot
begun : (in_table : ℕ → Bool) (p : Pattern) (s : Slot) (ss : List Slot) (label : Bool) (is : List Item) (w : ℕ) (r : Read) → p.slots ≡ s ∷ ss → is_must s.need ≡ true
    → is_in (class_number Number) (classes_in s.shape) ≡ false → judged in_table p (items_to_read p (record { items = is; untargeted = untargeted label is })) w ≡ Ok r
    → first_is_in is (classes_in s.shape) ≡ true
begun in_table p s ss label is w r e m n h =
    let g = λ (b : Bool). judged in_table p (filled false p.slots (if b then untargeted label is else is)) w in
    elim (cases_Bool (has_target p.slots)) [
      | inl t ↦ first_untargeted label is (classes_in s.shape) n (first_read in_table p s ss (untargeted label is) w r e m (sym (ap g t) ∙ h))
      | inr t ↦ first_read in_table p s ss is w r e m (sym (ap g t) ∙ h)
    ]

no_first : (is : List Item) (xs ys : List ℕ) → none_shared xs ys ≡ true → first_is_in is xs ≡ true → first_is_in is ys ≡ true → ⊥
no_first [] xs ys n a b = false≢true a
no_first (i ∷ is) xs ys n a b = false≢true (sym (not_shared xs ys (class_number i.class) n a) ∙ b)

same : (s t : List ℕ) → bytes_eq s t ≡ true → s ≡ t
same s t h = (bytes_eq-Decides s t).0 h

module _ (in_one in_other : ℕ → Bool) (name : List ℕ) (label : Bool) (is : List Item) where
  abbrev operands : Operands
  operands = record { items = is; untargeted = untargeted label is }

  apart_slots : (p q : Pattern) (ss ts : List Slot) (r t : Read) → p.slots ≡ ss → q.slots ≡ ts → begin_apart ss ts ≡ true
      → judged in_one p (items_to_read p operands) (word_told p (items_to_read p operands)) ≡ Ok r → judged in_other q (items_to_read q operands) (word_told q (items_to_read q operands)) ≡ Ok t → ⊥
  apart_slots p q [] ts r t e f b h k = false≢true b
  apart_slots p q (s ∷ ss) [] r t e f b h k = false≢true b
  apart_slots p q (s ∷ ss) (u ∷ us) r t e f b h k =
      let b2 = and_parts (is_must s.need && is_must u.need) _ b in
      let m = and_parts (is_must s.need) (is_must u.need) b2.0 in
      let b3 = and_parts (none_shared (classes_in s.shape) (classes_in u.shape)) _ b2.1 in
      let n = and_parts (not (is_in (class_number Number) (classes_in s.shape))) (not (is_in (class_number Number) (classes_in u.shape))) b3.1 in
      no_first is (classes_in s.shape) (classes_in u.shape) b3.0
      (begun in_one p s ss label is (word_told p (items_to_read p operands)) r e m.0 (not-true _ n.0) h)
      (begun in_other q u us label is (word_told q (items_to_read q operands)) t f m.1 (not-true _ n.1) k)

  apart_patterns : (p q : Pattern) (r t : Read) → starts_apart p q ≡ true → answer in_one p name operands ≡ Ok r → answer in_other q name operands ≡ Ok t → ⊥
  apart_patterns p q r t b h k =
      let a = answered in_one p name operands r h in
      let c = answered in_other q name operands t k in
      let e : bytes_eq p.name q.name ≡ true = ap (λ (x : List ℕ). bytes_eq x q.name) (sym (same name p.name a.0)) ∙ c.0 in
      elim (or_cases (not (bytes_eq p.name q.name)) (begin_apart p.slots q.slots) b) [
        | inl n ↦ true≢false (sym e ∙ not-true _ n)
        | inr n ↦ apart_slots p q p.slots q.slots r t refl refl n a.1 c.1
      ]

  by_best : (x y : Result Read Refusal) (r : Read) → best x y ≡ Ok r → (x ≡ Ok r → ⊥) → (y ≡ Ok r → ⊥) → ⊥
  by_best (Ok a) y r h j k = j h
  by_best (Err e) (Ok b) r h j k = k h
  by_best (Err e) (Err f) r h j k = absurd (cc)

  apart_from : (p : Pattern) (qs : List Pattern) (r t : Read) → starts_apart_from p qs ≡ true → answer in_one p name operands ≡ Ok r → reads in_other qs name operands ≡ Ok t → ⊥
  apart_from p [] r t b h k = absurd (cc)
  apart_from p (q ∷ qs) r t b h k =
      let b2 = and_parts (starts_apart p q) (starts_apart_from p qs) b in
      by_best (answer in_other q name operands) (reads in_other qs name operands) t k (apart_patterns p q r t b2.0 h) (apart_from p qs r t b2.1 h)

  -- No operands of a name are read by both.
  reads_apart : (ps qs : List Pattern) (r t : Read) → all_start_apart ps qs ≡ true → reads in_one ps name operands ≡ Ok r → reads in_other qs name operands ≡ Ok t → ⊥
  reads_apart [] qs r t b h k = absurd (cc)
  reads_apart (p ∷ ps) qs r t b h k =
      let b2 = and_parts (starts_apart_from p qs) (all_start_apart ps qs) b in
      by_best (answer in_one p name operands) (reads in_one ps name operands) r h (λ e. apart_from p qs r t b2.0 e k) (λ e. reads_apart ps qs r t b2.1 e k)

got : (ts : List (List ℕ)) (x : Result Read Refusal) (s : Statement) → with_target ts x ≡ Ok s → (r : Read) × (x ≡ Ok r)
got ts (Ok r) s h = (r, refl)
got ts (Err e) s h = absurd (cc)

-- No statement is read by both tables.
pub none_by_both : (in_one in_other : ℕ → Bool) (ps qs : List Pattern) (name : List ℕ) (ts : List (List ℕ)) (s t : Statement) → all_start_apart ps qs ≡ true
    → reads_tokens in_one ps name ts ≡ Ok s → reads_tokens in_other qs name ts ≡ Ok t → ⊥
none_by_both in_one in_other ps qs name ts s t b h k =
    let r = got ts (reads in_one ps (lowered name) (operands_of ts)) s h in
    let u = got ts (reads in_other qs (lowered name) (operands_of ts)) t k in
    reads_apart in_one in_other (lowered name) (ends_in_label ts) (items_of ts) ps qs r.0 u.0 b r.1 u.1
