-- The tokens of a pattern's text, and its length.
use Rattle.std.proofs.Common.{◌≡◌, ℕ, unsigned_abs, ◌+◌, ◌≤◌, ◌==◌, ◌&&◌, if◌then◌else◌, Bool, true, false, not, List, [], ◌∷◌, ◌++◌, length, nat_lt, nat_le, refl, sym, ap, ◌∙◌, arith, length-append, inl, inr}
use Rattle.std.proofs.lemmas.Bool.{cases_Bool, and_parts, and_from, and_left, not-true, leb-true, false≢true}
use Rattle.std.proofs.lemmas.List.Folds.{list_all-append}
use Rattle.asm_tokens.specs.Layout.{is_sign, is_empty, spaced, laid}
use Rattle.asm_tokens.specs.AreTokens.{is_token, are_tokens}
use Rattle.asm_tokens.specs.Tokens.{tokens}
use Rattle.asm_tokens.proofs.Split.{split_again}
use Rattle.text_model.specs.declared.classes.Class.{Class}
use Rattle.text_model.specs.declared.slots.Style.{Style}
use Rattle.text_model.specs.declared.slots.Style.TheVariants.{Word, Counted, Bare, Hexadecimal, Address}
use Rattle.text_model.specs.declared.slots.Slot.{Slot}
use Rattle.text_model.specs.declared.slots.Item.{Item}
use Rattle.text_model.specs.Classes.{same_class}
use Rattle.text_model.specs.Slots.{fits, all_fit}
use Rattle.text_model.specs.Reading.{Pattern}
use Rattle.text_model.specs.Words as words
use Rattle.text_model.specs.Words.{Family, dictionary, families, two_digits, spelled_word, spelled_in, spelled}
use Rattle.text_model.specs.Text.{item_tokens, printed_item, slot_tokens, text}
use Rattle.text_model.proofs.Tests.{is_good, are_good, is_written, are_written}
use Rattle.text_model.proofs.Written.{slot_read}
use Rattle.text_code.specs.Sound.{is_sound, are_sound}
use Rattle.text_print.specs.declared.edges.Edge.{Edge}
use Rattle.text_print.specs.Edges.{edge_of, has_gap, laid_behind}
use Rattle.text_print.specs.Room.{is_small, room_of, styled_room, slots_room, are_small, has_room}
use Rattle.text_print.proofs.Laid.{laid_is}
use Rattle.text_print.proofs.Bounds.{slot_room}

-- ---- the tokens

slots_are_tokens : (ss : List Slot) (w pc : ℕ) → are_good ss ≡ true → all_fit ss w ≡ true → are_written ss ≡ true → are_tokens (slot_tokens ss w pc) ≡ true
slots_are_tokens [] w pc g f h = refl
slots_are_tokens (s ∷ ss) w pc g f h =
    let g2 = and_parts (is_good s) (are_good ss) g in
    let f2 = and_parts (fits s w) (all_fit ss w) f in
    let h2 = and_parts (is_written s) (are_written ss) h in
    list_all-append is_token (item_tokens s.style (printed_item s w pc)) (slot_tokens ss w pc)
    ∙ and_from _ _ (slot_read s w pc g2.0 f2.0 h2.0).tokens (slots_are_tokens ss w pc g2.1 f2.1 h2.1)

-- A text's tokens are its pattern's name and those of the slots.
pub tokens_are : (p : Pattern) (w pc : ℕ) → is_token p.name ≡ true → are_good p.slots ≡ true → are_written p.slots ≡ true → all_fit p.slots w ≡ true
    → tokens (text p w pc) ≡ p.name ∷ slot_tokens p.slots w pc
tokens_are p w pc n g h f = split_again p.name (slot_tokens p.slots w pc) n (slots_are_tokens p.slots w pc g f h)

-- ---- no token is a colon

abbrev colon : ℕ
colon = 58

abbrev no_colon_words : List words.Word → Bool
no_colon_words [] = true
no_colon_words (w ∷ ws) = not (is_sign colon w.text) && no_colon_words ws

abbrev no_colon_families : List Family → Bool
no_colon_families [] = true
no_colon_families (f ∷ fs) = not (f.letter == colon) && no_colon_families fs

word_no_colon : (ws : List words.Word) (c : Class) (v : ℕ) → no_colon_words ws ≡ true → is_sign colon (spelled_word ws c v) ≡ false
word_no_colon [] c v h = refl
word_no_colon (w ∷ ws) c v h =
    let h2 = and_parts (not (is_sign colon w.text)) (no_colon_words ws) h in
    let f = λ (b : Bool). is_sign colon (if b then w.text else spelled_word ws c v) in
    elim (cases_Bool (same_class c w.class && v == w.value)) [
      | inl e ↦ ap f e ∙ not-true _ h2.0
      | inr e ↦ ap f e ∙ word_no_colon ws c v h2.1
    ]

no_colon_dictionary : no_colon_words dictionary ≡ true
unfolding dictionary
no_colon_dictionary = refl

register_no_colon : (fs : List Family) (c : Class) (v : ℕ) → no_colon_families fs ≡ true → is_sign colon (spelled_in fs c v) ≡ false
register_no_colon [] c v h = word_no_colon dictionary c v no_colon_dictionary
register_no_colon (f ∷ fs) c v h =
    let h2 = and_parts (not (f.letter == colon)) (no_colon_families fs) h in
    let s : List ℕ = two_digits v ++ f.suffix in
    let g = λ (b : Bool). is_sign colon (if b then f.letter ∷ s else spelled_in fs c v) in
    elim (cases_Bool (same_class c f.class && nat_lt v f.count)) [
      | inl e ↦ ap g e ∙ and_left (f.letter == colon) (is_empty s) (not-true _ h2.0)
      | inr e ↦ ap g e ∙ register_no_colon fs c v h2.1
    ]

spelled_no_colon : (c : Class) (v : ℕ) → is_sign colon (spelled c v) ≡ false
spelled_no_colon c v = register_no_colon families c v refl

-- the first of some tokens is a colon
abbrev pub begins_with_colon : List (List ℕ) → Bool
begins_with_colon [] = false
begins_with_colon (t ∷ ts) = is_sign colon t

-- a number without a sign before it
abbrev pub is_bare : Style → Bool
is_bare Bare = true
is_bare s = false

item_no_colon : (s : Style) (i : Item) (us : List (List ℕ)) → is_bare s ≡ false → begins_with_colon (item_tokens s i ++ us) ≡ false
item_no_colon Word i us h = spelled_no_colon i.class (unsigned_abs i.value)
item_no_colon Counted i us h = refl
item_no_colon Bare i us h = absurd (false≢true (sym h))
item_no_colon (Hexadecimal n) i us h = refl
item_no_colon Address i us h = refl

abbrev pub starts_bare : List Slot → Bool
starts_bare [] = false
starts_bare (s ∷ ss) = is_bare s.style

pub slots_no_colon : (ss : List Slot) (w pc : ℕ) → starts_bare ss ≡ false → begins_with_colon (slot_tokens ss w pc) ≡ false
slots_no_colon [] w pc h = refl
slots_no_colon (s ∷ ss) w pc h = item_no_colon s.style (printed_item s w pc) (slot_tokens ss w pc) h

-- ---- the length

put_length : (g : Bool) (t : List ℕ) → length (spaced g t) ≤ 1 + length t
put_length true t = omega arith
put_length false t = omega arith

laid_length : (e : Edge) (ts : List (List ℕ)) → length (laid_behind e ts) ≤ room_of ts
laid_length e [] = omega arith
laid_length e (t ∷ ts) =
    let r : length (laid_behind (edge_of t) ts) ≤ room_of ts = laid_length (edge_of t) ts in
    let a : length (t ++ laid_behind (edge_of t) ts) ≡ length t + length (laid_behind (edge_of t) ts) = length-append t (laid_behind (edge_of t) ts) in
    let p : length (spaced (has_gap e (edge_of t)) (t ++ laid_behind (edge_of t) ts)) ≤ 1 + length (t ++ laid_behind (edge_of t) ts) = put_length (has_gap e (edge_of t)) (t ++ laid_behind (edge_of t) ts) in
    omega (arith, r, a, p)

room_both : (ts us : List (List ℕ)) → room_of (ts ++ us) ≡ room_of ts + room_of us
room_both [] us = omega arith
room_both (t ∷ ts) us = let e : room_of (ts ++ us) ≡ room_of ts + room_of us = room_both ts us in omega (arith, e)

tokens_room : (ss : List Slot) (w pc : ℕ) → are_sound ss ≡ true → are_small ss ≡ true → room_of (slot_tokens ss w pc) ≤ slots_room ss
tokens_room [] w pc h k = omega arith
tokens_room (s ∷ ss) w pc h k =
    let h2 = and_parts (is_sound s) (are_sound ss) h in
    let k2 = and_parts (is_small s) (are_small ss) k in
    let a : room_of (item_tokens s.style (printed_item s w pc)) ≤ styled_room s.style s.shape = slot_room s w pc h2.0 k2.0 in
    let b : room_of (slot_tokens ss w pc) ≤ slots_room ss = tokens_room ss w pc h2.1 k2.1 in
    let e : room_of (slot_tokens (s ∷ ss) w pc) ≡ room_of (item_tokens s.style (printed_item s w pc)) + room_of (slot_tokens ss w pc) = room_both (item_tokens s.style (printed_item s w pc)) (slot_tokens ss w pc) in
    omega (arith, a, b, e)

-- A text has 96 bytes at most.
pub text_length : (p : Pattern) (w pc : ℕ) → are_sound p.slots ≡ true → has_room p ≡ true → length (text p w pc) ≤ 96
text_length p w pc h k =
    let k2 = and_parts (are_small p.slots) (nat_le (length p.name + slots_room p.slots) 96) k in
    let ts : List (List ℕ) = slot_tokens p.slots w pc in
    let a : length (p.name ++ laid p.name ts) ≡ length p.name + length (laid p.name ts) = length-append p.name (laid p.name ts) in
    let e : length (laid p.name ts) ≡ length (laid_behind (edge_of p.name) ts) = ap length (laid_is p.name ts) in
    let l : length (laid_behind (edge_of p.name) ts) ≤ room_of ts = laid_length (edge_of p.name) ts in
    let r : room_of ts ≤ slots_room p.slots = tokens_room p.slots w pc h k2.0 in
    let m : length p.name + slots_room p.slots ≤ 96 = leb-true _ _ k2.1 in
    omega (arith, a, e, l, r, m)
