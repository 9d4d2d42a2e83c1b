-- The bits of a pattern's base word that no slot tells are those of each word that it tells.
use Rattle.std.proofs.Common.{◌≡◌, ℕ, ◌*◌, ◌%◌, ◌^◌, ◌<◌, ◌≤◌, ◌==◌, ◌&&◌, if◌then◌else◌, Bool, true, List, [], ◌∷◌, ◌++◌, bit_and, bit_or, nat_le, refl, sym, ap, ◌∙◌, arith, inl, inr}
use Rattle.std.proofs.lemmas.Bool.{cases_Bool, and_parts, eqb-true, leb-true}
use Rattle.std.proofs.lemmas.Nat.{and_assoc, and_or_apart, pow_pos}
use lib.Bits.{and_zero_r}
use Rattle.emu_bits.specs.Rows.{Place, width, ones_at}
use Rattle.emu_bits.proofs.Encoding.{lies_within}
use Rattle.text_model.specs.declared.classes.Class.{Class}
use Rattle.text_model.specs.declared.slots.Shape.{Shape}
use Rattle.text_model.specs.declared.slots.Shape.TheVariants.{Only, Told, Shown}
use Rattle.text_model.specs.declared.slots.Slot.{Slot}
use Rattle.text_model.specs.declared.slots.Item.{Item}
use Rattle.text_model.specs.Slots.{places, bits_in}
use Rattle.text_model.specs.Told.{Binding, class_tells, told_number, parted, codec_tells, slot_tells, Built, bound, all_bound, built}
use Rattle.text_model.specs.Reading.{Pattern, word_told}
use Rattle.text_model.specs.Text.{class_places, slot_places}
use Rattle.text_model.proofs.Building.{places_of, put_both}
use Rattle.text_model.proofs.Own.{parts_told}
use Rattle.text_model.proofs.Tests.{all_places}

-- places that have no bit of a mask
abbrev pub is_clear : ℕ → Place → Bool
is_clear m p = nat_le p.low p.high && bit_and (ones_at p) m == 0

abbrev pub are_clear : ℕ → List Place → Bool
are_clear m [] = true
are_clear m (p ∷ ps) = is_clear m p && are_clear m ps

value_clear : (v m : ℕ) (p : Place) → p.low ≤ p.high → v < 2 ^ width p → bit_and (ones_at p) m ≡ 0 → bit_and (v * 2 ^ p.low) m ≡ 0
value_clear v m p h f a =
    ap (λ (x : ℕ). bit_and x m) (sym (lies_within v p h f)) ∙ and_assoc m (v * 2 ^ p.low) (ones_at p)
    ∙ ap (λ (x : ℕ). bit_and (v * 2 ^ p.low) x) a ∙ and_zero_r (v * 2 ^ p.low)

put_keeps : (a : Built) (b : Binding) (m : ℕ) → is_clear m b.place ≡ true → bit_and (bound a b).word m ≡ bit_and a.word m
put_keeps a b m h =
    let h2 = and_parts (nat_le b.place.low b.place.high) (bit_and (ones_at b.place) m == 0) h in
    let v : ℕ = b.value % 2 ^ width b.place in
    let l : 0 < 2 ^ width b.place = pow_pos (width b.place) in
    let s : v < 2 ^ width b.place = omega (arith, l) in
    let x : ℕ = v * 2 ^ b.place.low in
    let c : Built = record { mask = bit_or a.mask (ones_at b.place); word = bit_or a.word x } in
    let f = λ (t : Bool). bit_and (if t then c else a).word m in
    elim (cases_Bool (bit_and a.mask (ones_at b.place) == 0)) [
      | inl e ↦ ap f e ∙ and_or_apart m a.word x (value_clear v m b.place (leb-true _ _ h2.0) s (eqb-true _ _ h2.1))
      | inr e ↦ ap f e
    ]

pub all_keep : (a : Built) (bs : List Binding) (m : ℕ) → are_clear m (places_of bs) ≡ true → bit_and (all_bound a bs).word m ≡ bit_and a.word m
all_keep a [] m h = refl
all_keep a (b ∷ bs) m h =
    let h2 = and_parts (is_clear m b.place) (are_clear m (places_of bs)) h in
    all_keep (bound a b) bs m h2.1 ∙ put_keeps a b m h2.0

clear_both : (m : ℕ) (ps qs : List Place) → are_clear m (ps ++ qs) ≡ true → (are_clear m ps ≡ true) × (are_clear m qs ≡ true)
clear_both m [] qs h = (refl, h)
clear_both m (p ∷ ps) qs h =
    let h2 = and_parts (is_clear m p) (are_clear m (ps ++ qs)) h in
    let k = clear_both m ps qs h2.1 in
    (ap (λ (b : Bool). b && are_clear m ps) h2.0 ∙ k.0, k.1)

class_keeps : (a : Built) (k : Shape) (c : Class) (m : ℕ) → are_clear m (class_places k) ≡ true → bit_and (all_bound a (class_tells k c)).word m ≡ bit_and a.word m
class_keeps a (Only d) c m h = refl
class_keeps a (Told b g) c m h = all_keep a (class_tells (Told b g) c) m h
class_keeps a (Shown b g) c m h = refl

pub parts_keep : (a : Built) (ps : List Place) (v m : ℕ) → are_clear m ps ≡ true → bit_and (all_bound a (parted ps v)).word m ≡ bit_and a.word m
parts_keep a ps v m h = all_keep a (parted ps v) m (ap (are_clear m) (parts_told ps v) ∙ h)

slot_keeps : (a : Built) (s : Slot) (i : Item) (m : ℕ) → are_clear m (slot_places s) ≡ true → bit_and (all_bound a (slot_tells s i)).word m ≡ bit_and a.word m
slot_keeps a s i m h =
    let h2 = clear_both m (class_places s.shape) (places s.codec.parts) h in
    let v : ℕ = told_number s.codec.kind (bits_in (places s.codec.parts)) i.value in
    ap (λ (x : Built). bit_and x.word m) (put_both a (class_tells s.shape i.class) (codec_tells s.codec i.value))
    ∙ parts_keep (all_bound a (class_tells s.shape i.class)) (places s.codec.parts) v m h2.1
    ∙ class_keeps a s.shape i.class m h2.0

built_keeps : (a : Built) (ss : List Slot) (is : List Item) (m : ℕ) → are_clear m (all_places ss) ≡ true → bit_and (built a ss is).word m ≡ bit_and a.word m
built_keeps a [] is m h = refl
built_keeps a (s ∷ ss) [] m h = refl
built_keeps a (s ∷ ss) (i ∷ is) m h =
    let h2 = clear_both m (slot_places s) (all_places ss) h in
    built_keeps (all_bound a (slot_tells s i)) ss is m h2.1 ∙ slot_keeps a s i m h2.0

pub word_keeps : (p : Pattern) (is : List Item) (m : ℕ) → are_clear m (all_places p.slots) ≡ true → bit_and (word_told p is) m ≡ bit_and p.base m
word_keeps p is m h = built_keeps (record { mask = 0; word = p.base }) p.slots is m h
