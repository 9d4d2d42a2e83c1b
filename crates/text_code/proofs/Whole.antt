-- What the code reads at the spots of a name is what all patterns of a table read.
use Rattle.std.proofs.Common.{◌≡◌, ℕ, zero, suc, ◌-◌, ◌%◌, ◌^◌, ◌<◌, unsigned_abs, ◌&&◌, if◌then◌else◌, Bool, true, false, Option, Some, None, MatchOption, Result, Ok, Err, List, [], ◌∷◌, length, get_or, nat_lt, refl, sym, ap, ap₂, ◌∙◌, subst, arith}
use Rattle.std.proofs.lemmas.Bool.{and_parts, and_from, ltb-true}
use Rattle.std.specs.List.{slice_get}
use Rattle.std.specs.Prelude.{slice_range, is_some}
use Rattle.std.specs.Option.{option_map_or}
use Rattle.asm_tokens.specs.Tokens.{tokens}
use Rattle.text_model.specs.declared.slots.Item.{Item}
use Rattle.text_model.specs.declared.slots.Slot.{Slot}
use Rattle.text_model.specs.declared.slots.Refusal.{Refusal}
use Rattle.text_model.specs.declared.slots.Refusal.TheVariants.{UnknownName, BadOperands, OutOfRange}
use Rattle.text_model.specs.Reading.{Pattern, Read, Operands, has_target, later_refusal, best}
use Rattle.text_model.specs.Statement.{items_of, untargeted, is_label, last_of, ends_in_label, to_label, to_address, destination, last_target, with_target, lowered, operands_of, reads_tokens}
use Rattle.text_model.specs.Writing.{flat}
use Rattle.asm_tokens.specs.declared.token.Token.{Token}
use Rattle.text_code.specs.declared.patterns.Spot.{Spot}
use Rattle.text_code.specs.Sound.{are_sound, are_few}
use Rattle.text_code.specs.Judging.{answer_to}
use Rattle.text_code.specs.Places.{IsLastLabel}
use Rattle.text_code.specs.Reads.{with_name, no_pattern, at_spot, at_spots, are_spots, all_sound, all_lines_sound, answer_named, reads_named, asked_of, aim_of, aim_at, read_of, IsCut}
use Rattle.text_code.proofs.Named.{reads_same, both_refused, named_held, one_answer, all_many}

-- ---- the patterns at spots are sound

at_line : (pss : List (List Pattern)) (k : ℕ) → all_lines_sound pss ≡ true → k < length pss → all_sound (get_or pss k []) ≡ true
at_line [] k h l = absurd (omega arith)
at_line (ps ∷ pss) zero h l = (and_parts (all_sound ps) (all_lines_sound pss) h).0
at_line (ps ∷ pss) (suc k) h l = at_line pss k (and_parts (all_sound ps) (all_lines_sound pss) h).1 (omega arith)

at_place : (ps : List Pattern) (k : ℕ) → all_sound ps ≡ true → k < length ps → all_sound (get_or ps k no_pattern ∷ []) ≡ true
at_place [] k h l = absurd (omega arith)
at_place (p ∷ ps) zero h l = and_from (are_sound p.slots && are_few p.slots) true (and_parts (are_sound p.slots && are_few p.slots) (all_sound ps) h).0 refl
at_place (p ∷ ps) (suc k) h l = at_place ps k (and_parts (are_sound p.slots && are_few p.slots) (all_sound ps) h).1 (omega arith)

sound_at : (pss : List (List Pattern)) (s : Spot) → all_lines_sound pss ≡ true → are_spots pss (s ∷ []) ≡ true → all_sound (at_spot pss s ∷ []) ≡ true
sound_at pss s h t =
    let t1 = and_parts (nat_lt s.line (length pss) && nat_lt s.place (length (get_or pss s.line []))) true t in
    let t2 = and_parts (nat_lt s.line (length pss)) (nat_lt s.place (length (get_or pss s.line []))) t1.0 in
    at_place (get_or pss s.line []) s.place (at_line pss s.line h (ltb-true _ _ t2.0)) (ltb-true _ _ t2.1)

pub first_spot : (pss : List (List Pattern)) (s : Spot) (ss : List Spot) → are_spots pss (s ∷ ss) ≡ true → are_spots pss (s ∷ []) ≡ true
first_spot pss s ss h =
    let a : Bool = nat_lt s.line (length pss) && nat_lt s.place (length (get_or pss s.line [])) in
    and_from a true (and_parts a (are_spots pss ss) h).0 refl

pub more_spots : (pss : List (List Pattern)) (s : Spot) (ss : List Spot) → are_spots pss (s ∷ ss) ≡ true → are_spots pss ss ≡ true
more_spots pss s ss h = (and_parts (nat_lt s.line (length pss) && nat_lt s.place (length (get_or pss s.line []))) (are_spots pss ss) h).1

-- for a table's index of names: sound lines have sound patterns at all spots
pub all_sound_at : (pss : List (List Pattern)) (ss : List Spot) → all_lines_sound pss ≡ true → are_spots pss ss ≡ true → all_sound (at_spots pss ss) ≡ true
all_sound_at pss [] h t = refl
all_sound_at pss (s ∷ ss) h t =
    let p : Pattern = at_spot pss s in
    let a : Bool = are_sound p.slots && are_few p.slots in
    and_from a (all_sound (at_spots pss ss)) (and_parts a true (sound_at pss s h (first_spot pss s ss t))).0 (all_sound_at pss ss h (more_spots pss s ss t))

pub one_sound : (p : Pattern) (ps : List Pattern) → all_sound (p ∷ ps) ≡ true → all_sound (p ∷ []) ≡ true
one_sound p ps h = and_from (are_sound p.slots && are_few p.slots) true (and_parts (are_sound p.slots && are_few p.slots) (all_sound ps) h).0 refl

pub more_sound : (p : Pattern) (ps : List Pattern) → all_sound (p ∷ ps) ≡ true → all_sound ps ≡ true
more_sound p ps h = (and_parts (are_sound p.slots && are_few p.slots) (all_sound ps) h).1

spots_long : (pss : List (List Pattern)) (ss : List Spot) → length (at_spots pss ss) ≡ length ss
spots_long pss [] = refl
spots_long pss (s ∷ ss) = ap suc (spots_long pss ss)

-- ---- one pattern

-- by the word that its base and its slots read
pub by_answer : (in_table : ℕ → Bool) (p : Pattern) (o : Operands) (ss ts : List Slot) (aimed : Bool) (r : Result ℕ Refusal) → ss ≡ p.slots → ts ≡ p.slots → aimed ≡ has_target ss
    → r ≡ answer_to (record { name = []; base = p.base; slots = ts }) (if aimed then o.untargeted else o.items) → asked_of in_table aimed r ≡ answer_named in_table p o
by_answer in_table p o ss ts aimed r es et ea er =
    let a : aimed ≡ has_target p.slots = ea ∙ ap has_target es in
    let e : r ≡ answer_to p (if has_target p.slots then o.untargeted else o.items) =
    er ∙ ap₂ (λ (us : List Slot) (b : Bool). answer_to (record { name = []; base = p.base; slots = us }) (if b then o.untargeted else o.items)) et a in
    ap₂ (asked_of in_table) a e ∙ sym (one_answer in_table p (if has_target p.slots then o.untargeted else o.items))

-- ---- the patterns at some spots, one after the other

pub then_refused : (in_table : ℕ → Bool) (p : Pattern) (ps : List Pattern) (o : Operands) (a b : Refusal) → Err b ≡ answer_named in_table p o
    → best (Err a) (reads_named in_table (p ∷ ps) o) ≡ best (Err (later_refusal a b)) (reads_named in_table ps o)
then_refused in_table p ps o a b e = ap (λ (x : Result Read Refusal). best (Err a) (best x (reads_named in_table ps o))) (sym e) ∙ both_refused a b (reads_named in_table ps o)

pub then_read : (in_table : ℕ → Bool) (p : Pattern) (ps : List Pattern) (o : Operands) (a : Refusal) (r : Read) → Ok r ≡ answer_named in_table p o
    → best (Err a) (reads_named in_table (p ∷ ps) o) ≡ Ok r
then_read in_table p ps o a r e = ap (λ (x : Result Read Refusal). best (Err a) (best x (reads_named in_table ps o))) (sym e)

pub last_refusal : (a : Refusal) → best (Err a) (Err UnknownName) ≡ Err a
last_refusal UnknownName = refl
last_refusal BadOperands = refl
last_refusal OutOfRange = refl

-- ---- the whole statement

module _ (in_table : ℕ → Bool) (pss : List (List Pattern)) (ss : List Spot) (name : List ℕ) (ts : List (List ℕ)) (named : at_spots pss ss ≡ with_name (lowered name) (flat pss)) where
  same : reads_tokens in_table (flat pss) name ts ≡ with_target ts (reads_named in_table (at_spots pss ss) (operands_of ts))
  same = ap (with_target ts) (reads_same in_table (flat pss) (lowered name) (operands_of ts) ∙ ap (λ (ps : List Pattern). reads_named in_table ps (operands_of ts)) (sym named))

  pub no_spots : ss ≡ [] → reads_tokens in_table (flat pss) name ts ≡ Err UnknownName
  no_spots e = same ∙ ap (λ (s : List Spot). with_target ts (reads_named in_table (at_spots pss s) (operands_of ts))) e

  pub many : all_sound (at_spots pss ss) ≡ true → 0 < length ss → 24 < length (items_of ts) → reads_tokens in_table (flat pss) name ts ≡ Err BadOperands
  many h l k =
      same ∙ ap (with_target ts) (all_many in_table (at_spots pss ss) (ends_in_label ts) (items_of ts) h (subst (λ (n : ℕ). 0 < n) (sym (spots_long pss ss)) l) k)

  pub read_as : (r : Result (ℕ × Bool) Refusal) (is js : List Item) (label : Bool) → is ≡ items_of ts → label ≡ ends_in_label ts → js ≡ untargeted label is
      → read_of r ≡ reads_named in_table (at_spots pss ss) (record { items = is; untargeted = js }) → reads_tokens in_table (flat pss) name ts ≡ with_target ts (read_of r)
  read_as r is js label e f g h =
      let j : js ≡ untargeted (ends_in_label ts) (items_of ts) = g ∙ ap₂ untargeted f e in
      same ∙ ap (with_target ts) (ap₂ (λ (x y : List Item). reads_named in_table (at_spots pss ss) (record { items = x; untargeted = y })) (sym e) (sym j) ∙ sym h)

pub in_table_read : (in_table : ℕ → Bool) (ps : List Pattern) (o : Operands) (w : ℕ) (aimed : Bool) → read_of (Ok (w, aimed)) ≡ reads_named in_table ps o → in_table w ≡ true
in_table_read in_table ps o w aimed h = named_held in_table ps o (record { word = w; aimed = aimed }) (sym h)

-- ---- where it goes

pub label_told : (text : List ℕ) (o : Option Token) → MatchOption o (ends_in_label (tokens text) ≡ false) (λ t. IsLastLabel text t.from t.to) → is_some o ≡ ends_in_label (tokens text)
label_told text None h = sym h
label_told text (Some t) h = sym h.ends

never_none : (x : List ℕ) (xs : List (List ℕ)) → last_of (x ∷ xs) ≡ None → ⊥
never_none x [] h = absurd (cc)
never_none x (y ∷ ys) h = never_none y ys h

none_last : (ts : List (List ℕ)) → last_of ts ≡ None → last_of (items_of ts) ≡ None
none_last [] h = refl
none_last (t ∷ ts) h = absurd (never_none t ts h)

pub last_is : (is : List Item) → slice_get is (length is - 1) ≡ last_of is
last_is [] = refl
last_is (i ∷ []) = refl
last_is (i ∷ j ∷ js) =
    let e : length (i ∷ j ∷ js) - 1 ≡ suc (length (j ∷ js) - 1) = omega arith in
    ap (slice_get (i ∷ j ∷ js)) e ∙ last_is (j ∷ js)

to_last_label : (text : List ℕ) (t : Token) (o : Option Item) → IsLastLabel text t.from t.to → destination (last_of (tokens text)) o ≡ aim_of text (aim_at (Some t) o)
to_last_label text t None l = ap (λ (q : Option (List ℕ)). destination q None) l.is
to_last_label text t (Some i) l =
    let s : List ℕ = slice_range text t.from t.to in
    let b : is_label s ≡ true = sym (ap (λ (q : Option (List ℕ)). option_map_or is_label q false) l.is) ∙ l.ends in
    ap (λ (q : Option (List ℕ)). destination q (Some i)) l.is ∙ ap (λ (c : Bool). Some (if c then to_label s else to_address (unsigned_abs i.value % 2 ^ 64))) b

to_last_item : (text : List ℕ) (x : Option (List ℕ)) (o : Option Item) → option_map_or is_label x false ≡ false → (x ≡ None → o ≡ None) → destination x o ≡ aim_of text (aim_at None o)
to_last_item text None o h k = ap (λ (q : Option Item). aim_of text (aim_at None q)) (sym (k refl))
to_last_item text (Some s) None h k = refl
to_last_item text (Some s) (Some i) h k = ap (λ (c : Bool). Some (if c then to_label s else to_address (unsigned_abs i.value % 2 ^ 64))) h

goes : (text : List ℕ) (label : Option Token) → MatchOption label (ends_in_label (tokens text) ≡ false) (λ t. IsLastLabel text t.from t.to)
    → last_target (tokens text) (items_of (tokens text)) ≡ aim_of text (aim_at label (last_of (items_of (tokens text))))
goes text None h = to_last_item text (last_of (tokens text)) (last_of (items_of (tokens text))) h (none_last (tokens text))
goes text (Some t) h = to_last_label text t (last_of (items_of (tokens text))) h

pub target_same : (text : List ℕ) (aimed : Bool) (label : Option Token) (is : List Item) (last : Option Item) → MatchOption label (ends_in_label (tokens text) ≡ false) (λ t. IsLastLabel text t.from t.to)
    → is ≡ items_of (tokens text) → last ≡ slice_get is (length is - 1)
    → (if aimed then last_target (tokens text) (items_of (tokens text)) else None) ≡ aim_of text (if aimed then aim_at label last else None)
target_same text false label is last h e f = refl
target_same text true label is last h e f =
    goes text label h ∙ ap (λ (o : Option Item). aim_of text (aim_at label o)) (ap last_of (sym e) ∙ sym (last_is is) ∙ sym f)

pub cut_of : (text : List ℕ) (aimed : Bool) (label : Option Token) (last : Option Item) → MatchOption label (ends_in_label (tokens text) ≡ false) (λ t. IsLastLabel text t.from t.to)
    → IsCut text (if aimed then aim_at label last else None)
cut_of text false label last h = tt
cut_of text true None None h = tt
cut_of text true None (Some i) h = tt
cut_of text true (Some t) None h = tt
cut_of text true (Some t) (Some i) h = (h.from_cut, h.to_cut, h.order)
