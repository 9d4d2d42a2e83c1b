-- No SVE instruction has a target: computed over the patterns, and what follows for reading.
use Rattle.asm_sve.specs.Table.{sve_patterns}
use Rattle.asm_sve.specs.Opened.{texts_open}
use Rattle.std.proofs.Common.{◌≡◌, ℕ, zero, suc, ◌&&◌, if◌then◌else◌, Bool, true, false, not, Option, Some, None, Result, Ok, Err, List, [], ◌∷◌, refl, sym, ap, ◌∙◌, inl, inr}
use Rattle.std.proofs.lemmas.Bool.{cases_Bool, and_parts, or_parts, not-true, true≢false}
use Rattle.std.specs.Str.{bytes_eq}
use Rattle.emu_bits.specs.Rows.{Place}
use Rattle.text_model.specs.declared.slots.Kind.{Kind}
use Rattle.text_model.specs.declared.slots.Kind.TheVariants.{Target}
use Rattle.text_model.specs.declared.slots.Slot.{Slot}
use Rattle.text_model.specs.declared.slots.Item.{Item}
use Rattle.text_model.specs.declared.slots.Refusal.{Refusal}
use Rattle.text_model.specs.declared.slots.Refusal.TheVariants.{UnknownName, BadOperands, OutOfRange}
use Rattle.text_model.specs.Slots.{places, items_in, all_fit}
use Rattle.text_model.specs.Reading.{Pattern, Read, Operands, is_target, has_target, same_classes, same_values, all_canonical, word_told, judged, items_to_read, answer, best, reads}
use Rattle.text_model.specs.Statement.{Statement, lowered, operands_of, last_target, items_of, with_target, reads_tokens}
use Rattle.text_model.specs.Aim.{Reach, reach_or, reach_of}
use Rattle.text_model.proofs.Again.{pattern_at}

abbrev none_targeted : List Pattern → Bool
none_targeted [] = true
none_targeted (p ∷ ps) = not (has_target p.slots) && none_targeted ps

untargeted : none_targeted sve_patterns ≡ true
unfolding texts_open
untargeted = refl

-- ---- the word is whole

other_kind : (k : Kind) (ps : List Place) (r : Option Reach) → is_target k ≡ false → reach_or k ps r ≡ r
other_kind (Target n g) ps r h = absurd (true≢false h)
other_kind k ps r h = refl

no_reach : (ss : List Slot) → has_target ss ≡ false → reach_of ss ≡ None
no_reach [] h = refl
no_reach (s ∷ ss) h =
    let h2 = or_parts (is_target s.codec.kind) (has_target ss) h in
    other_kind s.codec.kind (places s.codec.parts) (reach_of ss) h2.0 ∙ no_reach ss h2.1

some_is : (p q : Pattern) → Some p ≡ Some q → p ≡ q
some_is p q h = cc

no_reach_at : (ps : List Pattern) (n : ℕ) (p : Pattern) → none_targeted ps ≡ true → pattern_at ps n ≡ Some p → reach_of p.slots ≡ None
no_reach_at [] n p h e = absurd (cc)
no_reach_at (q ∷ qs) zero p h e =
    let h2 = and_parts (not (has_target q.slots)) (none_targeted qs) h in
    ap (λ (x : Pattern). reach_of x.slots) (sym (some_is q p e)) ∙ no_reach q.slots (not-true _ h2.0)
no_reach_at (q ∷ qs) (suc n) p h e = no_reach_at qs n p (and_parts (not (has_target q.slots)) (none_targeted qs) h).1 e

pub sve_reach : (n : ℕ) (p : Pattern) → pattern_at sve_patterns n ≡ Some p → reach_of p.slots ≡ None
sve_reach n p e = no_reach_at sve_patterns n p untargeted e

-- ---- what is read has no target

good : (a b : Bool) (r s : Read) → (if a then (if b then Ok r else Err OutOfRange) else Err BadOperands) ≡ Ok s → r ≡ s
good true true r s h = cc
good true false r s h = absurd (cc)
good false b r s h = absurd (cc)

unaimed_answer : (in_table : ℕ → Bool) (p : Pattern) (name : List ℕ) (o : Operands) (r : Read) → has_target p.slots ≡ false → answer in_table p name o ≡ Ok r → r.aimed ≡ false
unaimed_answer in_table p name o r n h =
    let is : List Item = items_to_read p o in
    let w : ℕ = word_told p is in
    let f = λ (b : Bool). if b then judged in_table p is w else Err UnknownName in
    elim (cases_Bool (bytes_eq name p.name)) [
      | inl e ↦ (let fine : Bool = same_values (items_in p.slots w) is && (all_fit p.slots w && (all_canonical p.slots w && in_table w)) in
          let g = good (same_classes (items_in p.slots w) is) fine (record { word = w; aimed = has_target p.slots }) r (sym (ap f e) ∙ h) in
          sym (ap (λ (x : Read). x.aimed) g) ∙ n)
      | inr e ↦ (let k = sym (ap f e) ∙ h in absurd (cc))
    ]

by_best : (x y : Result Read Refusal) (r : Read) → best x y ≡ Ok r → (x ≡ Ok r → r.aimed ≡ false) → (y ≡ Ok r → r.aimed ≡ false) → r.aimed ≡ false
by_best (Ok a) y r h j k = j h
by_best (Err e) (Ok b) r h j k = k h
by_best (Err e) (Err f) r h j k = absurd (cc)

unaimed_read : (in_table : ℕ → Bool) (ps : List Pattern) (name : List ℕ) (o : Operands) (r : Read) → none_targeted ps ≡ true → reads in_table ps name o ≡ Ok r → r.aimed ≡ false
unaimed_read in_table [] name o r n h = absurd (cc)
unaimed_read in_table (p ∷ ps) name o r n h =
    let n2 = and_parts (not (has_target p.slots)) (none_targeted ps) n in
    by_best (answer in_table p name o) (reads in_table ps name o) r h (unaimed_answer in_table p name o r (not-true _ n2.0)) (unaimed_read in_table ps name o r n2.1)

no_target : (ts : List (List ℕ)) (x : Result Read Refusal) (s : Statement) → ((r : Read) → x ≡ Ok r → r.aimed ≡ false) → with_target ts x ≡ Ok s → s.target ≡ None
no_target ts (Err e) s f h = absurd (cc)
no_target ts (Ok r) s f h =
    let t : Statement = record { word = r.word; target = if r.aimed then last_target ts (items_of ts) else None } in
    let e : t ≡ s = cc in
    sym (ap (λ (x : Statement). x.target) e) ∙ ap (λ (b : Bool). if b then last_target ts (items_of ts) else None) (f r refl)

-- What the patterns read has no target.
pub sve_target : (in_table : ℕ → Bool) (name : List ℕ) (ts : List (List ℕ)) (s : Statement) → reads_tokens in_table sve_patterns name ts ≡ Ok s → s.target ≡ None
sve_target in_table name ts s h =
    no_target ts (reads in_table sve_patterns (lowered name) (operands_of ts)) s (λ r e. unaimed_read in_table sve_patterns (lowered name) (operands_of ts) r untargeted e) h
