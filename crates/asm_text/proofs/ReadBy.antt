-- A statement that is read is read by a pattern of the table, which passes what all of them pass.
use Rattle.std.proofs.Common.{◌≡◌, ℕ, ◌&&◌, if◌then◌else◌, Bool, true, false, Option, None, Result, Ok, Err, List, [], ◌∷◌, refl, sym, ap, subst, ◌∙◌, ◌⊎◌, inl, inr}
use Rattle.std.specs.Prelude.{IsSome}
use Rattle.std.proofs.lemmas.Bool.{cases_Bool, and_parts, false≢true}
use Rattle.std.specs.Str.{bytes_eq}
use Rattle.text_model.specs.declared.slots.Item.{Item}
use Rattle.text_model.specs.declared.slots.Refusal.{Refusal}
use Rattle.text_model.specs.declared.slots.Refusal.TheVariants.{UnknownName, BadOperands, OutOfRange}
use Rattle.text_model.specs.Slots.{items_in, all_fit}
use Rattle.text_model.specs.Reading.{Pattern, Read, Operands, same_classes, same_values, all_canonical, has_target, word_told, judged, items_to_read, answer, best, reads}
use Rattle.text_model.specs.Statement.{Destination, Statement, lowered, items_of, operands_of, last_target, with_target, reads_tokens}

abbrev pub every : (Pattern → Bool) → List Pattern → Bool
every test [] = true
every test (p ∷ ps) = test p && every test ps

-- what reads a word
record ReadsIt (test : Pattern → Bool) (r : Read) : Type 0 where
  pattern : Pattern
  items : List Item
  passes : test pattern ≡ true
  word : r.word ≡ word_told pattern items
  canonical : all_canonical pattern.slots r.word ≡ true
  aimed : r.aimed ≡ has_target pattern.slots

verdict : (a b : Bool) (r s : Read) → (if a then (if b then Ok r else Err OutOfRange) else Err BadOperands) ≡ Ok s → (b ≡ true) × (r ≡ s)
verdict true true r s h = (refl, cc)
verdict true false r s h = absurd (cc)
verdict false b r s h = absurd (cc)

judged_as : (in_table : ℕ → Bool) (test : Pattern → Bool) (p : Pattern) (is : List Item) (r : Read) → test p ≡ true → judged in_table p is (word_told p is) ≡ Ok r → ReadsIt test r
judged_as in_table test p is r t h =
    let w : ℕ = word_told p is in
    let fine : Bool = same_values (items_in p.slots w) is && (all_fit p.slots w && (all_canonical p.slots w && in_table w)) in
    let v = verdict (same_classes (items_in p.slots w) is) fine (record { word = w; aimed = has_target p.slots }) r h in
    let v2 = and_parts (same_values (items_in p.slots w) is) _ v.0 in
    let v3 = and_parts (all_fit p.slots w) _ v2.1 in
    let v4 = and_parts (all_canonical p.slots w) (in_table w) v3.1 in
    let e : r.word ≡ w = ap (λ (x : Read). x.word) (sym v.1) in
    record {
      pattern = p;
      items = is;
      passes = t;
      word = e;
      canonical = ap (all_canonical p.slots) e ∙ v4.0;
      aimed = ap (λ (x : Read). x.aimed) (sym v.1);
    }

answered : (in_table : ℕ → Bool) (test : Pattern → Bool) (p : Pattern) (name : List ℕ) (o : Operands) (r : Read) → test p ≡ true → answer in_table p name o ≡ Ok r → ReadsIt test r
answered in_table test p name o r t h =
    let is : List Item = items_to_read p o in
    let f = λ (b : Bool). if b then judged in_table p is (word_told p is) else Err UnknownName in
    elim (cases_Bool (bytes_eq name p.name)) [
      | inl e ↦ judged_as in_table test p is r t (sym (ap f e) ∙ h)
      | inr e ↦ (let k = sym (ap f e) ∙ h in absurd (cc))
    ]

one_of : (x y : Result Read Refusal) (r : Read) → best x y ≡ Ok r → (x ≡ Ok r) ⊎ (y ≡ Ok r)
one_of (Ok a) y r h = inl h
one_of (Err e) (Ok b) r h = inr h
one_of (Err e) (Err f) r h = absurd (cc)

read_as : (in_table : ℕ → Bool) (test : Pattern → Bool) (ps : List Pattern) (name : List ℕ) (o : Operands) (r : Read) → every test ps ≡ true → reads in_table ps name o ≡ Ok r → ReadsIt test r
read_as in_table test [] name o r t h = absurd (cc)
read_as in_table test (p ∷ ps) name o r t h =
    let t2 = and_parts (test p) (every test ps) t in
    elim (one_of (answer in_table p name o) (reads in_table ps name o) r h) [
      | inl e ↦ answered in_table test p name o r t2.0 e
      | inr e ↦ read_as in_table test ps name o r t2.1 e
    ]

-- what reads a statement
pub record IsReadBy (test : Pattern → Bool) (s : Statement) : Type 0 where
  pub pattern : Pattern
  pub items : List Item
  pub passes : test pattern ≡ true
  pub word : s.word ≡ word_told pattern items
  pub canonical : all_canonical pattern.slots s.word ≡ true
  pub target : IsSome s.target → has_target pattern.slots ≡ true

aimed_if : (b : Bool) (d : Option Destination) → IsSome (if b then d else None) → b ≡ true
aimed_if true d h = refl
aimed_if false d h = absurd (false≢true h)

stated_as : (test : Pattern → Bool) (ts : List (List ℕ)) (x : Result Read Refusal) (s : Statement) → ((r : Read) → x ≡ Ok r → ReadsIt test r) → with_target ts x ≡ Ok s → IsReadBy test s
stated_as test ts (Err e) s f h = absurd (cc)
stated_as test ts (Ok r) s f h =
    let a = f r refl in
    let t : Statement = record { word = r.word; target = if r.aimed then last_target ts (items_of ts) else None } in
    let e : t ≡ s = cc in
    let w : s.word ≡ r.word = ap (λ (x : Statement). x.word) (sym e) in
    record {
      pattern = a.pattern;
      items = a.items;
      passes = a.passes;
      word = w ∙ a.word;
      canonical = ap (all_canonical a.pattern.slots) w ∙ a.canonical;
      target = λ (i : IsSome s.target). sym a.aimed ∙ aimed_if r.aimed (last_target ts (items_of ts)) (subst (λ (x : Statement). IsSome x.target) (sym e) i);
    }

pub read_by : (in_table : ℕ → Bool) (test : Pattern → Bool) (ps : List Pattern) (name : List ℕ) (ts : List (List ℕ)) (s : Statement) → every test ps ≡ true
    → reads_tokens in_table ps name ts ≡ Ok s → IsReadBy test s
read_by in_table test ps name ts s t h =
    stated_as test ts (reads in_table ps (lowered name) (operands_of ts)) s (λ r e. read_as in_table test ps (lowered name) (operands_of ts) r t e) h
