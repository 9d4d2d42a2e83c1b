-- Reading by all patterns of a table is reading by those of the name.
use Rattle.std.proofs.Common.{◌≡◌, ℕ, ◌+◌, ◌<◌, ◌≤◌, int_eq, ◌&&◌, if◌then◌else◌, Bool, true, false, Result, Ok, Err, List, [], ◌∷◌, length, refl, sym, ap, ap₂, ◌∙◌, arith, inl, inr, length-append}
use Rattle.std.proofs.lemmas.Bool.{cases_Bool, and_parts, and_right, false≢true, leb-true}
use Rattle.std.specs.Str.{bytes_eq}
use Rattle.text_model.specs.declared.slots.Slot.{Slot}
use Rattle.text_model.specs.declared.slots.Item.{Item}
use Rattle.text_model.specs.declared.slots.Refusal.{Refusal}
use Rattle.text_model.specs.declared.slots.Refusal.TheVariants.{UnknownName, BadOperands, OutOfRange}
use Rattle.text_model.specs.Slots.{places, joined, value_in, items_in, fits, all_fit}
use Rattle.text_model.specs.Reading.{Pattern, Read, Operands, is_left_out, item_for, items_behind, filled, same_classes, same_values, is_canonical, all_canonical, word_told, has_target, judged, items_to_read, later_refusal, best, reads}
use Rattle.text_model.specs.Statement.{untargeted}
use Rattle.text_code.specs.Judging.{verdict, are_shown, answer_to}
use Rattle.text_code.specs.Reads.{with_name, all_sound, answer_named, reads_named, asked_of}

-- ---- refusals

pub no_worse : (x : Result Read Refusal) → best (Err UnknownName) x ≡ x
no_worse (Ok r) = refl
no_worse (Err UnknownName) = refl
no_worse (Err BadOperands) = refl
no_worse (Err OutOfRange) = refl

unknown_first : (c : Refusal) → later_refusal UnknownName (later_refusal UnknownName c) ≡ later_refusal (later_refusal UnknownName UnknownName) c
unknown_first UnknownName = refl
unknown_first BadOperands = refl
unknown_first OutOfRange = refl

last_stays : (b c : Refusal) → later_refusal OutOfRange (later_refusal b c) ≡ later_refusal (later_refusal OutOfRange b) c
last_stays UnknownName UnknownName = refl
last_stays UnknownName BadOperands = refl
last_stays UnknownName OutOfRange = refl
last_stays BadOperands UnknownName = refl
last_stays BadOperands BadOperands = refl
last_stays BadOperands OutOfRange = refl
last_stays OutOfRange UnknownName = refl
last_stays OutOfRange BadOperands = refl
last_stays OutOfRange OutOfRange = refl

later_both : (a b c : Refusal) → later_refusal a (later_refusal b c) ≡ later_refusal (later_refusal a b) c
later_both UnknownName UnknownName c = unknown_first c
later_both UnknownName BadOperands UnknownName = refl
later_both UnknownName BadOperands BadOperands = refl
later_both UnknownName BadOperands OutOfRange = refl
later_both UnknownName OutOfRange UnknownName = refl
later_both UnknownName OutOfRange BadOperands = refl
later_both UnknownName OutOfRange OutOfRange = refl
later_both BadOperands UnknownName UnknownName = refl
later_both BadOperands UnknownName BadOperands = refl
later_both BadOperands UnknownName OutOfRange = refl
later_both BadOperands BadOperands UnknownName = refl
later_both BadOperands BadOperands BadOperands = refl
later_both BadOperands BadOperands OutOfRange = refl
later_both BadOperands OutOfRange UnknownName = refl
later_both BadOperands OutOfRange BadOperands = refl
later_both BadOperands OutOfRange OutOfRange = refl
later_both OutOfRange b c = last_stays b c

pub both_refused : (a b : Refusal) (x : Result Read Refusal) → best (Err a) (best (Err b) x) ≡ best (Err (later_refusal a b)) x
both_refused a b (Ok r) = refl
both_refused a b (Err c) = ap (λ (e : Refusal). Err e) (later_both a b c)

-- ---- the patterns of a name

pub reads_same : (in_table : ℕ → Bool) (ps : List Pattern) (name : List ℕ) (o : Operands) → reads in_table ps name o ≡ reads_named in_table (with_name name ps) o
reads_same in_table [] name o = refl
reads_same in_table (p ∷ ps) name o =
    let a : Result Read Refusal = answer_named in_table p o in
    let f = λ (b : Bool). best (if b then a else Err UnknownName) (reads in_table ps name o) in
    let g = λ (b : Bool). reads_named in_table (if b then p ∷ with_name name ps else with_name name ps) o in
    elim (cases_Bool (bytes_eq name p.name)) [
      | inl e ↦ ap f e ∙ ap (best a) (reads_same in_table ps name o) ∙ ap g (sym e)
      | inr e ↦ ap f e ∙ no_worse (reads in_table ps name o) ∙ reads_same in_table ps name o ∙ ap g (sym e)
    ]

-- ---- what is read is in the table

verdict_held : (shaped fine : Bool) (r s : Read) → verdict shaped fine r ≡ Ok s → (fine ≡ true) × (r ≡ s)
verdict_held false fine r s h = absurd (cc)
verdict_held true false r s h = absurd (cc)
verdict_held true true r s h = (refl, cc)

judged_held : (in_table : ℕ → Bool) (p : Pattern) (is : List Item) (w : ℕ) (r : Read) → judged in_table p is w ≡ Ok r → in_table r.word ≡ true
judged_held in_table p is w r h =
    let fine : Bool = same_values (items_in p.slots w) is && (all_fit p.slots w && (all_canonical p.slots w && in_table w)) in
    let v = verdict_held (same_classes (items_in p.slots w) is) fine (record { word = w; aimed = has_target p.slots }) r h in
    let a = and_parts (same_values (items_in p.slots w) is) _ v.0 in
    let b = and_parts (all_fit p.slots w) _ a.1 in
    let c = and_parts (all_canonical p.slots w) (in_table w) b.1 in
    ap (λ (x : Read). in_table x.word) (sym v.1) ∙ c.1

best_held : (in_table : ℕ → Bool) (x y : Result Read Refusal) (r : Read) → best x y ≡ Ok r → (x ≡ Ok r → in_table r.word ≡ true) → (y ≡ Ok r → in_table r.word ≡ true) → in_table r.word ≡ true
best_held in_table (Ok a) y r h j k = j h
best_held in_table (Err e) (Ok b) r h j k = k h
best_held in_table (Err e) (Err f) r h j k = absurd (cc)

pub named_held : (in_table : ℕ → Bool) (ps : List Pattern) (o : Operands) (r : Read) → reads_named in_table ps o ≡ Ok r → in_table r.word ≡ true
named_held in_table [] o r h = absurd (cc)
named_held in_table (p ∷ ps) o r h =
    best_held in_table (answer_named in_table p o) (reads_named in_table ps o) r h
    (λ e. judged_held in_table p (items_to_read p o) (word_told p (items_to_read p o)) r e) (named_held in_table ps o r)

-- ---- one pattern, with the table asked last

regrouped : (a b c x y z : Bool) → ((a && (b && c)) && (x && (y && z))) ≡ ((a && x) && ((b && y) && (c && z)))
regrouped true true true x y z = refl
regrouped true true false x y z = sym (and_right x (y && false) (and_right y false refl))
regrouped true false c x y z = sym (and_right x false refl)
regrouped false b c x y z = refl

same_shown : (ss : List Slot) (is : List Item) (w : ℕ) → same_classes (items_in ss w) is ≡ true → are_shown ss is w ≡ (same_values (items_in ss w) is && (all_fit ss w && all_canonical ss w))
same_shown [] [] w h = refl
same_shown [] (i ∷ is) w h = absurd (false≢true h)
same_shown (s ∷ ss) [] w h = absurd (false≢true h)
same_shown (s ∷ ss) (i ∷ is) w h =
    let h2 = and_parts _ (same_classes (items_in ss w) is) h in
    let a : Bool = int_eq (value_in s.codec w) i.value in
    let b : Bool = fits s w in
    let c : Bool = is_canonical s.codec.kind (joined (places s.codec.parts) w) in
    let x : Bool = same_values (items_in ss w) is in
    let y : Bool = all_fit ss w in
    let z : Bool = all_canonical ss w in
    ap (λ (t : Bool). (a && (b && c)) && t) (same_shown ss is w h2.1) ∙ regrouped a b c x y z

asked_last : (shaped a b c t : Bool) (r : Read) → (if shaped then (if a && (b && (c && t)) then Ok r else Err OutOfRange) else Err BadOperands)
    ≡ (if shaped then (if a && (b && c) then (if t then Ok r else Err OutOfRange) else Err OutOfRange) else Err BadOperands)
asked_last false a b c t r = refl
asked_last true true true true t r = refl
asked_last true true true false t r = refl
asked_last true true false c t r = refl
asked_last true false b c t r = refl

asked_verdict : (in_table : ℕ → Bool) (aimed shaped fine : Bool) (w : ℕ) → asked_of in_table aimed (verdict shaped fine w)
    ≡ (if shaped then (if fine then (if in_table w then Ok (record { word = w; aimed = aimed }) else Err OutOfRange) else Err OutOfRange) else Err BadOperands)
asked_verdict in_table aimed true true w = refl
asked_verdict in_table aimed true false w = refl
asked_verdict in_table aimed false fine w = refl

pub one_answer : (in_table : ℕ → Bool) (p : Pattern) (is : List Item) → let js = filled false p.slots is in
    judged in_table p js (word_told p js) ≡ asked_of in_table (has_target p.slots) (answer_to p is)
one_answer in_table p is =
    let js : List Item = filled false p.slots is in
    let w : ℕ = word_told p js in
    let aimed : Bool = has_target p.slots in
    let shaped : Bool = same_classes (items_in p.slots w) js in
    let a : Bool = same_values (items_in p.slots w) js in
    let b : Bool = all_fit p.slots w in
    let c : Bool = all_canonical p.slots w in
    asked_last shaped a b c (in_table w) (record { word = w; aimed = aimed })
    ∙ elim (cases_Bool shaped) [
      | inl e ↦ ap (λ (f : Bool). if shaped then (if f then (if in_table w then Ok (record { word = w; aimed = aimed }) else Err OutOfRange) else Err OutOfRange) else Err BadOperands) (sym (same_shown p.slots js w e))
      | inr e ↦ ap (λ (s : Bool). if s then (if a && (b && c) then (if in_table w then Ok (record { word = w; aimed = aimed }) else Err OutOfRange) else Err OutOfRange) else Err BadOperands) e
          ∙ sym (ap (λ (s : Bool). if s then (if are_shown p.slots js w then (if in_table w then Ok (record { word = w; aimed = aimed }) else Err OutOfRange) else Err OutOfRange) else Err BadOperands) e)
    ]
    ∙ sym (asked_verdict in_table aimed shaped (are_shown p.slots js w) w)

-- ---- too many items

longer : (ss : List Slot) (w : ℕ) (is : List Item) → length ss < length is → same_classes (items_in ss w) is ≡ false
longer [] w [] h = absurd (omega arith)
longer [] w (i ∷ is) h = refl
longer (s ∷ ss) w [] h = absurd (omega arith)
longer (s ∷ ss) w (i ∷ is) h = and_right _ _ (longer ss w is (omega arith))

one_item : (o : Bool) (s : Slot) (is : List Item) → length is ≤ length (item_for o s is) + length (items_behind o is)
one_item true s is = omega arith
one_item false s [] = omega arith
one_item false s (i ∷ is) = omega arith

no_fewer : (ss : List Slot) (out : Bool) (is : List Item) → length is ≤ length (filled out ss is)
no_fewer [] out is = omega arith
no_fewer (s ∷ ss) out is =
    let o : Bool = is_left_out s.need out is in
    let a = one_item o s is in
    let b = no_fewer ss o (items_behind o is) in
    let e = length-append (item_for o s is) (filled o ss (items_behind o is)) in
    omega (arith, a, b, e)

pub many_items : (p : Pattern) (is : List Item) (w : ℕ) → length p.slots ≤ 24 → 24 < length is → same_classes (items_in p.slots w) (filled false p.slots is) ≡ false
many_items p is w h k = let n = no_fewer p.slots false is in longer p.slots w (filled false p.slots is) (omega (arith, n, h, k))

same_length : (label : Bool) (is : List Item) → length (untargeted label is) ≡ length is
same_length label [] = refl
same_length label (i ∷ []) = refl
same_length label (i ∷ j ∷ js) = let e = same_length label (j ∷ js) in omega (arith, e)

refused_shape : (in_table : ℕ → Bool) (p : Pattern) (js : List Item) (w : ℕ) → same_classes (items_in p.slots w) js ≡ false → judged in_table p js w ≡ Err BadOperands
refused_shape in_table p js w h =
    ap (λ (b : Bool). if b then (if same_values (items_in p.slots w) js && (all_fit p.slots w && (all_canonical p.slots w && in_table w)) then Ok (record { word = w; aimed = has_target p.slots }) else Err OutOfRange) else Err BadOperands) h

one_many : (in_table : ℕ → Bool) (p : Pattern) (label : Bool) (is : List Item) → length p.slots ≤ 24 → 24 < length is
    → answer_named in_table p (record { items = is; untargeted = untargeted label is }) ≡ Err BadOperands
one_many in_table p label is h k =
    let l : length (untargeted label is) ≡ length is = same_length label is in
    let o : Operands = record { items = is; untargeted = untargeted label is } in
    elim (cases_Bool (has_target p.slots)) [
      | inl e ↦ (let x : items_to_read p o ≡ filled false p.slots (untargeted label is) = ap (λ (b : Bool). filled false p.slots (if b then untargeted label is else is)) e in
          ap (λ (js : List Item). judged in_table p js (word_told p js)) x ∙ refused_shape in_table p _ _ (many_items p (untargeted label is) _ h (omega (arith, l, k))))
      | inr e ↦ (let x : items_to_read p o ≡ filled false p.slots is = ap (λ (b : Bool). filled false p.slots (if b then untargeted label is else is)) e in
          ap (λ (js : List Item). judged in_table p js (word_told p js)) x ∙ refused_shape in_table p _ _ (many_items p is _ h k))
    ]

-- patterns of a name refuse a statement with more items than any has
pub all_many : (in_table : ℕ → Bool) (ps : List Pattern) (label : Bool) (is : List Item) → all_sound ps ≡ true → 0 < length ps → 24 < length is
    → reads_named in_table ps (record { items = is; untargeted = untargeted label is }) ≡ Err BadOperands
all_many in_table [] label is s l k = absurd (omega arith)
all_many in_table (p ∷ []) label is s l k =
    let s2 = and_parts _ (all_sound []) s in
    let s3 = and_parts _ _ s2.0 in
    ap (λ (x : Result Read Refusal). best x (Err UnknownName)) (one_many in_table p label is (leb-true _ _ s3.1) k)
all_many in_table (p ∷ q ∷ qs) label is s l k =
    let s2 = and_parts _ (all_sound (q ∷ qs)) s in
    let s3 = and_parts _ _ s2.0 in
    ap₂ best (one_many in_table p label is (leb-true _ _ s3.1) k) (all_many in_table (q ∷ qs) label is s2.1 (omega arith) k)
