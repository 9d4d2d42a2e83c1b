-- How many bytes a pattern's text takes at most.
use Rattle.std.proofs.Common.{◌≡◌, ℕ, zero, suc, ◌+◌, ◌-◌, ◌*◌, ◌/◌, ◌%◌, ◌^◌, ◌<◌, ◌≤◌, ℤ, pos, neg_ℤ, unsigned_abs, ◌==◌, ◌&&◌, ◌||◌, if◌then◌else◌, Bool, true, false, List, [], ◌∷◌, ◌++◌, length, get_or, max, nat_lt, refl, sym, ap, subst, ◌∙◌, arith, length-append, inl, inr}
use Rattle.std.proofs.lemmas.Bool.{cases_Bool, and_parts, or_cases, or_right, or_left, eqb-true, ltb-true, false≢true}
use Rattle.std.proofs.Math.Nat.{pow-suc}
use Rattle.std.specs.Prelude.{unwrap_or}
use Rattle.std.specs.Fmt.{decimal, digits}
use Rattle.std.specs.Int.{is_negative}
use Rattle.asm_tokens.specs.Layout.{hash}
use Rattle.asm_tokens.specs.Numbers.{minus}
use Rattle.text_model.specs.declared.classes.Class.{Class}
use Rattle.text_model.specs.declared.classes.Class.TheVariants.{Unknown, Number}
use Rattle.text_model.specs.declared.classes.Group.{Group}
use Rattle.text_model.specs.declared.slots.Shape.{Shape}
use Rattle.text_model.specs.declared.slots.Shape.TheVariants.{Only, Told, Shown}
use Rattle.text_model.specs.declared.slots.Kind.{Kind}
use Rattle.text_model.specs.declared.slots.Kind.TheVariants.{Fixed, Plain, Stack, After, NamedCount, UnnamedCount, Scaled, Falling, Signed, Target, Bitmask, Spread, LeftShift, Inverted}
use Rattle.text_model.specs.declared.slots.Style.{Style}
use Rattle.text_model.specs.declared.slots.Style.TheVariants.{Word, Counted, Bare, Hexadecimal, Address}
use Rattle.text_model.specs.declared.slots.Slot.{Slot}
use Rattle.text_model.specs.Classes.{same_class}
use Rattle.text_model.specs.Masks.{bitmask_at}
use Rattle.text_model.specs.Slots.{place_of, places, at_place, bits_in, joined, classes_of, class_in, is_low, spread, shown_number}
use Rattle.text_model.specs.Words as words
use Rattle.text_model.specs.Words.{Family, dictionary, families, two_digits, spelled_word, spelled_in, spelled}
use Rattle.text_model.specs.Text.{item_tokens, printed, printed_item}
use Rattle.text_model.proofs.Building.{joined_small}
use Rattle.text_model.proofs.KindLaws.{minus_size, bitmask_small}
use Rattle.text_model.proofs.Unlike.{some_class}
use Rattle.text_code.specs.Sound.{is_sound_kind, is_sound}
use Rattle.text_code.proofs.Slots.{kind_sound}
use Rattle.text_print.specs.Room.{longest_word, longest_in, longest, longest_of, longest_shown, greatest, is_word, is_small, room_of, styled_room, are_short_words}
use Rattle.text_print.proofs.Digits.{decimal_length, hexadecimal_length}

-- ---- words

pub short_dictionary : are_short_words dictionary ≡ true
unfolding dictionary
short_dictionary = refl

word_length : (ws : List words.Word) (c : Class) (v : ℕ) → length (spelled_word ws c v) ≤ longest_word ws c
word_length [] c v = omega arith
word_length (w ∷ ws) c v =
    let r : length (spelled_word ws c v) ≤ longest_word ws c = word_length ws c v in
    let P = λ (a b : Bool). length (if a && b then w.text else spelled_word ws c v) ≤ (if a then max (length w.text) (longest_word ws c) else longest_word ws c) in
    elim (cases_Bool (same_class c w.class)) [
      | inl e ↦ elim (cases_Bool (v == w.value)) [
        | inl f ↦ subst (λ (a : Bool). P a (v == w.value)) (sym e) (subst (λ (b : Bool). P true b) (sym f) (omega arith))
        | inr f ↦ subst (λ (a : Bool). P a (v == w.value)) (sym e) (subst (λ (b : Bool). P true b) (sym f) (omega (arith, r)))
      ]
      | inr e ↦ subst (λ (a : Bool). P a (v == w.value)) (sym e) r
    ]

digits_length : (v : ℕ) → length (two_digits v) ≤ 2
digits_length v = elim (cases_Bool (nat_lt v 10)) [
  | inl e ↦ subst (λ (b : Bool). length (if b then (48 + v) ∷ [] else (48 + v / 10) ∷ (48 + v % 10) ∷ []) ≤ 2) (sym e) (omega arith)
  | inr e ↦ subst (λ (b : Bool). length (if b then (48 + v) ∷ [] else (48 + v / 10) ∷ (48 + v % 10) ∷ []) ≤ 2) (sym e) (omega arith)
]

register_length : (l v : ℕ) (s : List ℕ) → length (l ∷ (two_digits v ++ s)) ≤ 3 + length s
register_length l v s =
    let d : length (two_digits v) ≤ 2 = digits_length v in
    let e : length (two_digits v ++ s) ≡ length (two_digits v) + length s = length-append (two_digits v) s in
    omega (arith, d, e)

family_length : (fs : List Family) (c : Class) (v : ℕ) → length (spelled_in fs c v) ≤ longest_in fs c
family_length [] c v = word_length dictionary c v
family_length (f ∷ fs) c v =
    let r : length (spelled_in fs c v) ≤ longest_in fs c = family_length fs c v in
    let s : List ℕ = f.letter ∷ (two_digits v ++ f.suffix) in
    let l : length s ≤ 3 + length f.suffix = register_length f.letter v f.suffix in
    let P = λ (a b : Bool). length (if a && b then s else spelled_in fs c v) ≤ (if a then max (3 + length f.suffix) (longest_in fs c) else longest_in fs c) in
    elim (cases_Bool (same_class c f.class)) [
      | inl e ↦ elim (cases_Bool (nat_lt v f.count)) [
        | inl g ↦ subst (λ (a : Bool). P a (nat_lt v f.count)) (sym e) (subst (λ (b : Bool). P true b) (sym g) (omega (arith, l)))
        | inr g ↦ subst (λ (a : Bool). P a (nat_lt v f.count)) (sym e) (subst (λ (b : Bool). P true b) (sym g) (omega (arith, r)))
      ]
      | inr e ↦ subst (λ (a : Bool). P a (nat_lt v f.count)) (sym e) r
    ]

spelled_length : (c : Class) (v : ℕ) → length (spelled c v) ≤ longest c
unfolding longest
spelled_length c v = family_length families c v

longest_at : (cs : List Class) (v m : ℕ) (d : Class) → longest d ≤ m → longest_of cs ≤ m → longest (get_or cs v d) ≤ m
longest_at [] v m d h k = h
longest_at (c ∷ cs) zero m d h k = omega (arith, k)
longest_at (c ∷ cs) (suc v) m d h k = longest_at cs v m d h (omega (arith, k))

first_longest : (cs : List Class) → 0 < length cs → longest (get_or cs 0 Unknown) ≤ longest_of cs
first_longest [] h = absurd (omega arith)
first_longest (c ∷ cs) h = omega arith

group_longest : (g : Group) → longest (get_or (classes_of g) 0 Unknown) ≤ longest_of (classes_of g)
group_longest g = first_longest (classes_of g) (some_class g)

shape_longest : (k : Shape) (w : ℕ) → longest (class_in k w) ≤ longest_shown k
shape_longest (Only c) w = omega arith
shape_longest (Told b g) w = longest_at (classes_of g) (at_place (place_of b) w) (longest_of (classes_of g)) (get_or (classes_of g) 0 Unknown) (group_longest g) (omega arith)
shape_longest (Shown b g) w = longest_at (classes_of g) (at_place (place_of b) w) (longest_of (classes_of g)) (get_or (classes_of g) 0 Unknown) (group_longest g) (omega arith)

-- ---- numbers

product_small : (v w n : ℕ) → v ≤ w → n * w < 2 ^ 64 → n * v < 2 ^ 64
product_small v w n h k = let p : n * v ≤ n * w = grind arith in omega (arith, p, k)

signed_small : (n b v : ℕ) → v < 2 ^ b → n * 2 ^ b < 2 ^ 64 → unsigned_abs (shown_number (Signed n) b v) < 2 ^ 64
signed_small n b v h l =
    let P = λ (t : Bool). unsigned_abs (if t then pos (n * v) else neg_ℤ (pos (n * (2 ^ b - v)))) < 2 ^ 64 in
    elim (cases_Bool (is_low b v)) [
      | inl e ↦ subst P (sym e) (product_small v (2 ^ b) n (omega (arith, h)) l)
      | inr e ↦ subst P (sym e) (subst (λ (x : ℕ). x < 2 ^ 64) (sym (minus_size (n * (2 ^ b - v)))) (product_small (2 ^ b - v) (2 ^ b) n (omega arith) l))
    ]

mod_small : (a : ℕ) → a % 2 ^ 64 < 2 ^ 64
mod_small a = omega arith

spread_below : (k v : ℕ) → spread k v < 256 ^ k
spread_below zero v = omega arith
spread_below (suc k) v =
    let r : spread k (v / 2) < 256 ^ k = spread_below k (v / 2) in
    let p : 256 ^ suc k ≡ 256 ^ k * 256 = pow-suc 256 k in
    omega (arith, r, p)

mask_small : (w b v : ℕ) → ((w == 32 || w == 64) && b == 13) ≡ true → v < 2 ^ b → unwrap_or (bitmask_at w v) 0 < 2 ^ 64
mask_small w b v h l =
    let h2 = and_parts (w == 32 || w == 64) (b == 13) h in
    let e : b ≡ 13 = eqb-true _ _ h2.1 in
    let m : v < 2 ^ 13 = subst (λ (x : ℕ). v < 2 ^ x) e l in
    let t : (w == 64 || w == 32) ≡ true = elim (or_cases (w == 32) (w == 64) h2.0) [
      | inl q ↦ or_right (w == 64) (w == 32) q
      | inr q ↦ or_left (w == 64) (w == 32) q
    ] in
    bitmask_small w v t (omega (arith, m))

printed_small : (k : Kind) (b v pc : ℕ) → v < 2 ^ b → is_sound_kind k b ≡ true → nat_lt (greatest k b) (2 ^ 64) ≡ true → unsigned_abs (printed k b v pc) < 2 ^ 64
printed_small (Fixed x) b v pc h s l = ltb-true _ _ l
printed_small UnnamedCount b v pc h s l = let m : 2 ^ b < 2 ^ 64 = ltb-true _ _ l in omega (arith, h, m)
printed_small (Scaled n k) b v pc h s l = product_small (v + k) (2 ^ b + k) n (omega (arith, h)) (ltb-true _ _ l)
printed_small Falling b v pc h s l = let m : 2 ^ b < 2 ^ 64 = ltb-true _ _ l in omega (arith, m)
printed_small (Signed n) b v pc h s l = signed_small n b v h (ltb-true _ _ l)
printed_small (Target n g) b v pc h s l = mod_small _
printed_small (Bitmask w) b v pc h s l = mask_small w b v s h
printed_small Spread b v pc h s l = spread_below 8 v
printed_small Plain b v pc h s l = absurd (false≢true l)
printed_small Stack b v pc h s l = absurd (false≢true l)
printed_small (After k) b v pc h s l = absurd (false≢true l)
printed_small NamedCount b v pc h s l = absurd (false≢true l)
printed_small (LeftShift w) b v pc h s l = absurd (false≢true l)
printed_small Inverted b v pc h s l = absurd (false≢true l)

pub item_small : (s : Slot) (w pc : ℕ) → is_sound s ≡ true → is_small s ≡ true → is_word s.style ≡ false → unsigned_abs (printed_item s w pc).value < 2 ^ 64
item_small s w pc h k n =
    let b : ℕ = bits_in (places s.codec.parts) in
    let l : nat_lt (greatest s.codec.kind b) (2 ^ 64) ≡ true = sym (ap (λ (t : Bool). t || nat_lt (greatest s.codec.kind b) (2 ^ 64)) n) ∙ k in
    printed_small s.codec.kind b (joined (places s.codec.parts) w) pc (joined_small (places s.codec.parts) w) (kind_sound s b h refl) l

-- ---- tokens

counted_room : (z : ℤ) → unsigned_abs z < 2 ^ 64 → room_of (item_tokens Counted (words.item Number z)) ≤ 25
counted_room z h =
    let n : List ℕ = decimal (unsigned_abs z) in
    let l : length n ≤ 20 = decimal_length (unsigned_abs z) h in
    let P = λ (t : Bool). room_of ((hash ∷ []) ∷ (if t then (minus ∷ []) ∷ n ∷ [] else n ∷ [])) ≤ 25 in
    elim (cases_Bool (is_negative z)) [
      | inl e ↦ subst P (sym e) (omega (arith, l))
      | inr e ↦ subst P (sym e) (omega (arith, l))
    ]

styled_room_is : (s : Style) (k : Shape) (w : ℕ) (z : ℤ) → (is_word s ≡ false → unsigned_abs z < 2 ^ 64) → room_of (item_tokens s (words.item (class_in k w) z)) ≤ styled_room s k
styled_room_is Word k w z h =
    let l : length (spelled (class_in k w) (unsigned_abs z)) ≤ longest (class_in k w) = spelled_length (class_in k w) (unsigned_abs z) in
    let m : longest (class_in k w) ≤ longest_shown k = shape_longest k w in
    omega (arith, l, m)
styled_room_is Counted k w z h = counted_room z (h refl)
styled_room_is Bare k w z h = let l : length (decimal (unsigned_abs z)) ≤ 20 = decimal_length (unsigned_abs z) (h refl) in omega (arith, l)
styled_room_is (Hexadecimal n) k w z h = let l : length (digits 16 false (unsigned_abs z)) ≤ 16 = hexadecimal_length (unsigned_abs z) (h refl) in omega (arith, l)
styled_room_is Address k w z h = let l : length (digits 16 false (unsigned_abs z)) ≤ 16 = hexadecimal_length (unsigned_abs z) (h refl) in omega (arith, l)

pub slot_room : (s : Slot) (w pc : ℕ) → is_sound s ≡ true → is_small s ≡ true → room_of (item_tokens s.style (printed_item s w pc)) ≤ styled_room s.style s.shape
slot_room s w pc h k = styled_room_is s.style s.shape w (printed_item s w pc).value (item_small s w pc h k)
