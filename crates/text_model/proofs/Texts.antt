-- A text is read as the word that it shows: over any patterns that pass the tests.
use Rattle.std.proofs.Common.{◌≡◌, ℕ, zero, suc, ◌-◌, ◌%◌, ◌^◌, ◌<◌, ℤ, pos, unsigned_abs, ◌==◌, ◌&&◌, ◌||◌, if◌then◌else◌, Bool, true, false, not, Option, Some, None, Ok, List, [], ◌∷◌, ◌++◌, append_assoc, bit_and, refl, sym, ap, ap₂, ◌∙◌, subst, arith, inl, inr}
use Rattle.std.proofs.lemmas.Bool.{cases_Bool, and_parts, or_parts, and_from, not-true, eqb-true, false≢true, true≢false}
use Rattle.std.proofs.lemmas.Slice.Eq.{bytes_eq-Decides}
use Rattle.std.proofs.lemmas.List.Folds.{list_all-append}
use Rattle.std.specs.Str.{bytes_eq}
use Rattle.asm_tokens.specs.AreTokens.{is_token, are_tokens}
use Rattle.asm_tokens.proofs.Split.{split_again}
use Rattle.emu_bits.specs.Rows.{Place}
use Rattle.text_model.specs.declared.classes.Class.{Class}
use Rattle.text_model.specs.declared.classes.Class.TheVariants.{Number}
use Rattle.text_model.specs.declared.slots.Shape.{Shape}
use Rattle.text_model.specs.declared.slots.Shape.TheVariants.{Only, Told, Shown}
use Rattle.text_model.specs.declared.slots.Kind.{Kind}
use Rattle.text_model.specs.declared.slots.Kind.TheVariants.{Target}
use Rattle.text_model.specs.declared.slots.Style.{Style}
use Rattle.text_model.specs.declared.slots.Style.TheVariants.{Address}
use Rattle.text_model.specs.declared.slots.Slot.{Slot}
use Rattle.text_model.specs.declared.slots.Item.{Item}
use Rattle.text_model.specs.Slots.{class_in, places, joined, bits_in, fits, all_fit, target_address}
use Rattle.text_model.specs.Reading.{Pattern, Operands, is_target, has_target, reads}
use Rattle.text_model.specs.Words.{item}
use Rattle.text_model.specs.Text.{hexadecimal, item_tokens, printed, printed_item, slot_tokens, text, told_bits}
use Rattle.text_model.specs.Statement.{Destination, to_label, to_address, lowered, items_from, is_label, last_of, destination, last_target, Statement, with_target, operands_of, ends_in_label, untargeted}
use Rattle.text_model.specs.ReadBack.{reads_first, reads_text, destination_of, reached, target_of, unaimed}
use Rattle.text_model.specs.Aim.{Reach, reach_or, reach_of}
use Rattle.text_model.proofs.Tests.{is_good, are_good, is_readable, all_readable, all_apart, is_written, are_written, all_written, is_aimed_well, all_aimed_well, ends_in_target, is_address_slot, is_number_shape, is_plain_address}
use Rattle.text_model.proofs.Spelling.{same_number}
use Rattle.text_model.proofs.Again.{pattern_at, read_again}
use Rattle.text_model.proofs.Written.{AreRead, slot_read}
use Rattle.text_model.proofs.Printed.{printed_items, IsPrinted, shown_unaimed, operands_are}

-- ---- all slots

read_both : (ts us : List (List ℕ)) (i : Item) (is : List Item) → AreRead ts i → are_tokens us ≡ true → items_from 0 us ≡ is
    → (are_tokens (ts ++ us) ≡ true) × (items_from 0 (ts ++ us) ≡ i ∷ is)
read_both ts us i is r a e = (list_all-append is_token ts us ∙ and_from _ _ r.tokens a, r.items us ∙ ap (λ (js : List Item). i ∷ js) e)

slots_read : (ss : List Slot) (w pc : ℕ) → are_good ss ≡ true → all_fit ss w ≡ true → are_written ss ≡ true
    → (are_tokens (slot_tokens ss w pc) ≡ true) × (items_from 0 (slot_tokens ss w pc) ≡ printed_items ss w pc)
slots_read [] w pc g f h = (refl, refl)
slots_read (s ∷ ss) w pc g f h =
    let g2 = and_parts (is_good s) (are_good ss) g in
    let f2 = and_parts (fits s w) (all_fit ss w) f in
    let h2 = and_parts (is_written s) (are_written ss) h in
    let r = slots_read ss w pc g2.1 f2.1 h2.1 in
    read_both (item_tokens s.style (printed_item s w pc)) (slot_tokens ss w pc) (printed_item s w pc) (printed_items ss w pc) (slot_read s w pc g2.0 f2.0 h2.0) r.0 r.1

-- ---- the target

last_behind : {A : Type 0} (xs : List A) (x : A) → last_of (xs ++ (x ∷ [])) ≡ Some x
last_behind [] x = refl
last_behind (y ∷ []) x = refl
last_behind (y ∷ z ∷ zs) x = last_behind (z ∷ zs) x

-- a word's text ends in the address of its target
record EndsIn (ss : List Slot) (w pc : ℕ) (a : ℕ) : Type 0 where
  pub tokens : List (List ℕ)
  pub items : List Item
  pub tokens_are : slot_tokens ss w pc ≡ tokens ++ (hexadecimal a ∷ [])
  pub items_are : printed_items ss w pc ≡ items ++ (item Number (pos a) ∷ [])
  pub target : target_of ss w pc ≡ Some a
  pub small : a < 2 ^ 64

address_tokens : (y : Style) (i : Item) → is_plain_address y ≡ true → item_tokens y i ≡ hexadecimal (unsigned_abs i.value) ∷ []
address_tokens Address i h = refl
address_tokens y i h = absurd (false≢true h)

number_item : (k : Shape) (w : ℕ) (x : ℤ) → is_number_shape k ≡ true → item (class_in k w) x ≡ item Number x
number_item (Only c) w x h = ap (λ (d : Class). item d x) (same_number c Number (eqb-true _ _ h))
number_item (Told b g) w x h = absurd (false≢true h)
number_item (Shown b g) w x h = absurd (false≢true h)

mod_small : (a : ℕ) → a % 2 ^ 64 < 2 ^ 64
mod_small a = omega arith

-- the address that a target is
record IsReached (k : Kind) (ps : List Place) (w pc : ℕ) : Type 0 where
  pub address : ℕ
  pub value : printed k (bits_in ps) (joined ps w) pc ≡ pos address
  pub target : (r : Option Reach) → reached (reach_or k ps r) w pc ≡ Some address
  pub small : address < 2 ^ 64

is_reached : (k : Kind) (ps : List Place) (w pc : ℕ) → is_target k ≡ true → IsReached k ps w pc
is_reached (Target n g) ps w pc h = record { address = target_address n g (bits_in ps) (joined ps w) pc; value = refl; target = λ r. refl; small = mod_small _ }
is_reached k ps w pc h = absurd (false≢true h)

other_reach : (k : Kind) (ps : List Place) (r : Option Reach) → is_target k ≡ false → reach_or k ps r ≡ r
other_reach (Target n g) ps r h = absurd (true≢false h)
other_reach k ps r h = refl

ends_in : (ss : List Slot) (w pc : ℕ) → ends_in_target ss ≡ true → (a : ℕ) × EndsIn ss w pc a
ends_in [] w pc h = absurd (false≢true h)
ends_in (s ∷ []) w pc h =
    let h2 = and_parts (is_target s.codec.kind) (is_address_slot s) h in
    let h3 = and_parts (is_number_shape s.shape) (is_plain_address s.style) h2.1 in
    let r = is_reached s.codec.kind (places s.codec.parts) w pc h2.0 in
    let i : Item = printed_item s w pc in (
      r.address,
      record {
        tokens = [];
        items = [];
        tokens_are = ap (λ (ts : List (List ℕ)). ts ++ []) (address_tokens s.style i h3.1 ∙ ap (λ (x : ℤ). hexadecimal (unsigned_abs x) ∷ []) r.value);
        items_are = ap (λ (j : Item). j ∷ []) (number_item s.shape w i.value h3.0 ∙ ap (λ (x : ℤ). item Number x) r.value);
        target = r.target None;
        small = r.small;
      },
    )
ends_in (s ∷ t ∷ ts) w pc h =
    let h2 = and_parts (not (is_target s.codec.kind)) (ends_in_target (t ∷ ts)) h in
    let e = ends_in (t ∷ ts) w pc h2.1 in
    let x = e.1 in
    let us : List (List ℕ) = item_tokens s.style (printed_item s w pc) in (
      e.0,
      record {
        tokens = us ++ x.tokens;
        items = printed_item s w pc ∷ x.items;
        tokens_are = ap (λ (vs : List (List ℕ)). us ++ vs) x.tokens_are ∙ sym (append_assoc us x.tokens (hexadecimal e.0 ∷ []));
        items_are = ap (λ (is : List Item). printed_item s w pc ∷ is) x.items_are;
        target = ap (λ (r : Option Reach). reached r w pc) (other_reach s.codec.kind (places s.codec.parts) (reach_of (t ∷ ts)) (not-true _ h2.0)) ∙ x.target;
        small = x.small;
      },
    )

to_it : (a : ℕ) → a < 2 ^ 64 → (if is_label (hexadecimal a) then to_label (hexadecimal a) else to_address (a % 2 ^ 64)) ≡ to_address a
to_it a h = let e : a % 2 ^ 64 ≡ a = omega arith in ap to_address e

-- the address is the statement's destination
goes_there : (ss : List Slot) (w pc a : ℕ) → EndsIn ss w pc a → last_target (slot_tokens ss w pc) (printed_items ss w pc) ≡ Some (to_address a)
goes_there ss w pc a e =
    ap₂ destination (ap last_of e.tokens_are ∙ last_behind e.tokens (hexadecimal a)) (ap last_of e.items_are ∙ last_behind e.items (item Number (pos a)))
    ∙ ap (λ (d : Destination). Some d) (to_it a e.small)

no_reach : (ss : List Slot) → has_target ss ≡ false → reach_of ss ≡ None
no_reach [] h = refl
no_reach (s ∷ ss) h =
    let h2 = or_parts (is_target s.codec.kind) (has_target ss) h in
    other_reach s.codec.kind (places s.codec.parts) (reach_of ss) h2.0 ∙ no_reach ss h2.1

the_target : (ss : List Slot) (w pc : ℕ) → (not (has_target ss) || ends_in_target ss) ≡ true
    → (if has_target ss then last_target (slot_tokens ss w pc) (printed_items ss w pc) else None) ≡ destination_of (target_of ss w pc)
the_target ss w pc h =
    let f = λ (b : Bool). if b then last_target (slot_tokens ss w pc) (printed_items ss w pc) else None in
    elim (cases_Bool (has_target ss)) [
      | inl e ↦ (let x = ends_in ss w pc (sym (ap (λ (b : Bool). not b || ends_in_target ss) e) ∙ h) in
          ap f e ∙ goes_there ss w pc x.0 x.1 ∙ ap destination_of (sym x.1.target))
      | inr e ↦ ap f e ∙ ap (λ (r : Option Reach). destination_of (reached r w pc)) (sym (no_reach ss e))
    ]

-- ---- the text

-- What the tests say of patterns.
pub record AreLegible (ps : List Pattern) : Type 0 where
  pub readable : all_readable ps ≡ true
  pub apart : all_apart ps ≡ true
  pub written : all_written ps ≡ true
  pub aimed : all_aimed_well ps ≡ true

record Fine (p : Pattern) : Type 0 where
  pub name : is_token p.name ≡ true
  pub lower : bytes_eq (lowered p.name) p.name ≡ true
  pub good : are_good p.slots ≡ true
  pub written : are_written p.slots ≡ true
  pub aimed : is_aimed_well p ≡ true

some_is : (p q : Pattern) → Some p ≡ Some q → p ≡ q
some_is p q h = cc

fine_at : (ps : List Pattern) (n : ℕ) (p : Pattern) → all_readable ps ≡ true → all_written ps ≡ true → all_aimed_well ps ≡ true → pattern_at ps n ≡ Some p → Fine p
fine_at [] n p r w a e = absurd (cc)
fine_at (q ∷ qs) zero p r w a e =
    let r2 = and_parts (is_readable q) (all_readable qs) r in
    let w2 = and_parts ((is_token q.name && bytes_eq (lowered q.name) q.name) && are_written q.slots) (all_written qs) w in
    let w3 = and_parts (is_token q.name && bytes_eq (lowered q.name) q.name) (are_written q.slots) w2.0 in
    let w4 = and_parts (is_token q.name) (bytes_eq (lowered q.name) q.name) w3.0 in
    let a2 = and_parts (is_aimed_well q) (all_aimed_well qs) a in
    subst Fine (some_is q p e) (record { name = w4.0; lower = w4.1; good = (and_parts (are_good q.slots) _ r2.0).0; written = w3.1; aimed = a2.0 })
fine_at (q ∷ qs) (suc n) p r w a e =
    fine_at qs n p (and_parts (is_readable q) (all_readable qs) r).1 (and_parts ((is_token q.name && bytes_eq (lowered q.name) q.name) && are_written q.slots) (all_written qs) w).1
    (and_parts (is_aimed_well q) (all_aimed_well qs) a).1 e

same_names : (s t : List ℕ) → bytes_eq s t ≡ true → s ≡ t
same_names s t h = (bytes_eq-Decides s t).0 h

-- What a text of a word is read as: the word with the bits of its target 0, and the address that the text shows.
abbrev pub read_of : Pattern → ℕ → ℕ → Statement
read_of p w pc = record { word = unaimed p.slots w; target = destination_of (target_of p.slots w pc) }

pub text_again : (in_table : ℕ → Bool) (ps : List Pattern) (n : ℕ) (p : Pattern) (w pc : ℕ) → AreLegible ps → pattern_at ps n ≡ Some p → IsPrinted in_table p w
    → reads_text in_table ps (text p w pc) ≡ Ok (read_of p w pc)
text_again in_table ps n p w pc l e h =
    let f = fine_at ps n p l.readable l.written l.aimed e in
    let fit : all_fit p.slots w ≡ true = (and_parts (bit_and w (2 ^ 32 - 1 - told_bits p.slots) == p.base) (all_fit p.slots w) h.shows).1 in
    let r = slots_read p.slots w pc f.good fit f.written in
    let ts : List (List ℕ) = slot_tokens p.slots w pc in
    let is : List Item = printed_items p.slots w pc in
    let o : operands_of ts ≡ record { items = is; untargeted = untargeted (ends_in_label ts) is } = ap (λ (js : List Item). record { items = js; untargeted = untargeted (ends_in_label ts) js }) r.1 in
    let x : reads in_table ps (lowered p.name) (operands_of ts) ≡ Ok (record { word = unaimed p.slots w; aimed = has_target p.slots }) =
    ap₂ (λ (s : List ℕ) (q : Operands). reads in_table ps s q) (same_names (lowered p.name) p.name f.lower) o
    ∙ read_again ps n p (unaimed p.slots w) in_table (record { items = is; untargeted = untargeted (ends_in_label ts) is }) l.readable l.apart e
    (shown_unaimed in_table p w f.aimed h) (operands_are p w pc (ends_in_label ts) f.aimed) in
    let t = (and_parts (not (has_target p.slots) || ends_in_target p.slots) _ f.aimed).0 in
    ap (reads_first in_table ps) (split_again p.name ts f.name r.0)
    ∙ ap (with_target ts) x
    ∙ ap (λ (js : List Item). Ok (record { word = unaimed p.slots w; target = if has_target p.slots then last_target ts js else None })) r.1
    ∙ ap (λ (d : Option Destination). Ok (record { word = unaimed p.slots w; target = d })) (the_target p.slots w pc t)
