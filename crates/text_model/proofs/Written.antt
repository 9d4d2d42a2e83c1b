-- The tokens of a slot's item are read as the item.
use Rattle.std.proofs.Common.{◌≡◌, ℕ, zero, suc, ◌+◌, ◌-◌, ◌*◌, ◌%◌, ◌^◌, ◌<◌, ◌≤◌, ℤ, pos, negsuc, neg_ℤ, unsigned_abs, ◌==◌, ◌&&◌, ◌||◌, if◌then◌else◌, Bool, true, false, not, List, [], ◌∷◌, ◌++◌, length, get_or, nat_lt, nat_le, refl, sym, ap, ◌∙◌, subst, arith, inl, inr, ◌⊎◌}
use Rattle.std.proofs.lemmas.Bool.{cases_Bool, and_parts, and_from, not-true, eqb-true, ne_eqb, false≢true, true≢false, ltb-true, leb-true}
use Rattle.asm_tokens.specs.Layout.{hash}
use Rattle.asm_tokens.specs.AreTokens.{are_tokens}
use Rattle.asm_tokens.specs.Numbers.{minus}
use Rattle.text_model.specs.declared.classes.Class.{Class}
use Rattle.text_model.specs.declared.classes.Class.TheVariants.{Unknown, Number, Count}
use Rattle.text_model.specs.declared.classes.Group.{Group}
use Rattle.text_model.specs.declared.slots.Shape.{Shape}
use Rattle.text_model.specs.declared.slots.Shape.TheVariants.{Only, Told, Shown}
use Rattle.text_model.specs.declared.slots.Kind.{Kind}
use Rattle.text_model.specs.declared.slots.Kind.TheVariants.{Fixed, Plain, Stack, After, NamedCount, UnnamedCount, Scaled, Falling, Signed, Target, Bitmask, Spread, LeftShift, Inverted}
use Rattle.text_model.specs.declared.slots.Style.{Style}
use Rattle.text_model.specs.declared.slots.Style.TheVariants.{Word, Counted, Bare, Hexadecimal, Address}
use Rattle.text_model.specs.declared.slots.Slot.{Slot}
use Rattle.text_model.specs.declared.slots.Item.{Item}
use Rattle.text_model.specs.ClassNumbers.{class_number}
use Rattle.text_model.specs.Slots.{place_of, places, at_place, bits_in, joined, classes_of, class_at, class_in, is_low, inverse, shown_number, is_named, has_class, can_show, fits}
use Rattle.text_model.specs.Words.{item, word_item, spelled}
use Rattle.std.specs.Fmt.{decimal}
use Rattle.text_model.specs.Text.{hexadecimal, item_tokens, printed, printed_item}
use Rattle.text_model.specs.Statement.{items_from}
use Rattle.text_model.proofs.Numerals.{IsNumber, decimal_is, hexadecimal_is, bare_items, hash_items, minus_items}
use Rattle.text_model.proofs.Spelling.{size_of, same_number, IsWord, spelled_is, word_items}
use Rattle.text_model.proofs.Building.{joined_small}
use Rattle.text_model.proofs.KindLaws.{not_negative, of_bits, bitmask_small, spread_small}
use Rattle.text_model.proofs.Tests.{is_good_kind, is_good, is_in, classes_in, word_bound, number_bound, is_word, is_counted, has_words, is_count_named, class_list, is_written_word, has_sign, is_number_shape, is_written_number, is_written}
use Rattle.text_model.proofs.Own.{good}
use Rattle.text_model.proofs.Unlike.{in_classes, some_class}

-- Tokens that are read as an item, whatever stands behind them.
pub record AreRead (ts : List (List ℕ)) (i : Item) : Type 0 where
  pub tokens : are_tokens ts ≡ true
  pub items : (us : List (List ℕ)) → items_from 0 (ts ++ us) ≡ i ∷ items_from 0 us

-- ---- words

some_words : (n : ℕ) (cs : List Class) (v : ℕ) (d : Class) → has_words n cs ≡ true → n ≤ size_of d → n ≤ size_of (get_or cs v d)
some_words n [] v d h l = l
some_words n (c ∷ cs) zero d h l = leb-true _ _ (and_parts (nat_le n (size_of c)) _ h).0
some_words n (c ∷ cs) (suc v) d h l = some_words n cs v d (and_parts (nat_le n (size_of c)) _ h).1 l

first_words : (n : ℕ) (cs : List Class) (v : ℕ) → has_words n cs ≡ true → 0 < length cs → n ≤ size_of (get_or cs v (get_or cs 0 Unknown))
first_words n [] v h l = absurd (omega arith)
first_words n (c ∷ cs) v h l = some_words n (c ∷ cs) v c h (leb-true _ _ (and_parts (nat_le n (size_of c)) _ h).0)

words_of_group : (n : ℕ) (g : Group) (v : ℕ) → has_words n (classes_of g) ≡ true → n ≤ size_of (class_at g v)
words_of_group n g v h = first_words n (classes_of g) v h (some_class g)

has_enough : (n : ℕ) (k : Shape) (w : ℕ) → has_words n (class_list k) ≡ true → n ≤ size_of (class_in k w)
has_enough n (Only c) w h = leb-true _ _ (and_parts (nat_le n (size_of c)) true h).0
has_enough n (Told b g) w h = words_of_group n g (at_place (place_of b) w) h
has_enough n (Shown b g) w h = words_of_group n g (at_place (place_of b) w) h

stack_small : (v : ℕ) → v < 32 → (if v == 31 then 32 else v) < 33
stack_small v h = grind arith

inverse_small : (v : ℕ) → v < 16 → inverse v < 16
inverse_small v h = grind arith

-- A word that is shown, as the number that it is among those of its class.
record IsOf (z : ℤ) (n : ℕ) : Type 0 where
  pub small : unsigned_abs z < n
  pub is : pos (unsigned_abs z) ≡ z

word_small : (k : Kind) (b v pc : ℕ) → v < 2 ^ b → is_good_kind k b ≡ true → nat_lt 0 (word_bound k b) ≡ true → IsOf (printed k b v pc) (word_bound k b)
word_small (Fixed x) b v pc h g l = record { small = omega arith; is = refl }
word_small Plain b v pc h g l = record { small = h; is = refl }
word_small Stack b v pc h g l = record { small = stack_small v (of_bits v b 5 h g); is = refl }
word_small (After k) b v pc h g l = record { small = omega arith; is = refl }
word_small NamedCount b v pc h g l = record { small = of_bits v b 5 h g; is = refl }
word_small Inverted b v pc h g l = record { small = inverse_small v (of_bits v b 4 h g); is = refl }
word_small UnnamedCount b v pc h g l = absurd (false≢true l)
word_small (Scaled n k) b v pc h g l = absurd (false≢true l)
word_small Falling b v pc h g l = absurd (false≢true l)
word_small (Signed n) b v pc h g l = absurd (false≢true l)
word_small (Target n g') b v pc h g l = absurd (false≢true l)
word_small (Bitmask w) b v pc h g l = absurd (false≢true l)
word_small Spread b v pc h g l = absurd (false≢true l)
word_small (LeftShift w) b v pc h g l = absurd (false≢true l)

not_count : (k : Shape) (w : ℕ) → not (is_in (class_number Count) (classes_in k)) ≡ true → (class_number (class_in k w) == class_number Count) ≡ false
not_count k w h = ne_eqb _ _ (λ e. false≢true (sym (not-true _ h) ∙ ap (λ (x : ℕ). is_in x (classes_in k)) (sym e) ∙ in_classes k w))

count_named : (k : Kind) (s : Shape) (w b v pc : ℕ) → is_count_named k s ≡ true → can_show k v ≡ true
    → (class_number (class_in s w) == class_number Count) ≡ false ⊎ (is_named (unsigned_abs (printed k b v pc)) ≡ true)
count_named NamedCount s w b v pc h c = inr c
count_named k s w b v pc h c = inl (not_count s w h)

word_read : (c : Class) (v : ℕ) → IsWord (spelled c v) c v → AreRead (spelled c v ∷ []) (word_item c v)
word_read c v w = record { tokens = and_from _ true w.token refl; items = λ us. word_items (spelled c v) c v us w }

word_slot : (s : Slot) (w pc : ℕ) → is_good s ≡ true → fits s w ≡ true → is_written_word s (bits_in (places s.codec.parts)) ≡ true
    → AreRead (spelled (class_in s.shape w) (unsigned_abs (printed_item s w pc).value) ∷ []) (printed_item s w pc)
word_slot s w pc g f h =
    let b : ℕ = bits_in (places s.codec.parts) in
    let v : ℕ = joined (places s.codec.parts) w in
    let c : Class = class_in s.shape w in
    let z : ℤ = printed s.codec.kind b v pc in
    let x : ℕ = unsigned_abs z in
    let h1 = and_parts (nat_lt 0 (word_bound s.codec.kind b) && has_words (word_bound s.codec.kind b) (class_list s.shape)) (is_count_named s.codec.kind s.shape) h in
    let h2 = and_parts (nat_lt 0 (word_bound s.codec.kind b)) (has_words (word_bound s.codec.kind b) (class_list s.shape)) h1.0 in
    let i = word_small s.codec.kind b v pc (joined_small (places s.codec.parts) w) (good s g).kind h2.0 in
    let l : x < word_bound s.codec.kind b = i.small in
    let m : word_bound s.codec.kind b ≤ size_of c = has_enough (word_bound s.codec.kind b) s.shape w h2.1 in
    let f2 = and_parts (has_class s.shape w) (can_show s.codec.kind v) f in
    subst (λ (y : ℤ). AreRead (spelled c x ∷ []) (item c y)) i.is
    (word_read c x (spelled_is c x (omega (arith, l, m)) (count_named s.codec.kind s.shape w b v pc h1.1 f2.1)))

-- ---- numbers

-- A number that a style can write: below 2^64 without its sign, and not negative or written with its sign.
abbrev CanWrite : Style → ℤ → Type 0
CanWrite s (pos n) = n < 2 ^ 64
CanWrite s (negsuc n) = (suc n < 2 ^ 64) × (is_counted s ≡ true)

minus_can : (s : Style) (m : ℕ) → m < 2 ^ 64 → is_counted s ≡ true → CanWrite s (neg_ℤ (pos m))
minus_can s zero h k = h
minus_can s (suc m) h k = (h, k)

product_small : (v w n : ℕ) → v ≤ w → n * w < 2 ^ 64 → n * v < 2 ^ 64
product_small v w n h k = let p : n * v ≤ n * w = grind arith in omega (arith, p, k)

signed_can : (s : Style) (n b v : ℕ) → v < 2 ^ b → n * 2 ^ b < 2 ^ 64 → is_counted s ≡ true → CanWrite s (shown_number (Signed n) b v)
signed_can s n b v h l k =
    let P = λ (t : Bool). CanWrite s (if t then pos (n * v) else neg_ℤ (pos (n * (2 ^ b - v)))) in
    elim (cases_Bool (is_low b v)) [
      | inl e ↦ subst P (sym e) (product_small v (2 ^ b) n (omega (arith, h)) l)
      | inr e ↦ subst P (sym e) (minus_can s (n * (2 ^ b - v)) (product_small (2 ^ b - v) (2 ^ b) n (omega arith) l) k)
    ]

mod_small : (a : ℕ) → a % 2 ^ 64 < 2 ^ 64
mod_small a = omega arith

number_can : (k : Kind) (s : Style) (b v pc : ℕ) → v < 2 ^ b → is_good_kind k b ≡ true → nat_lt (number_bound k b) (2 ^ 64) ≡ true → has_sign k s ≡ true
    → CanWrite s (printed k b v pc)
number_can (Fixed x) s b v pc h g l e = ltb-true _ _ l
number_can UnnamedCount s b v pc h g l e = let m : 2 ^ b < 2 ^ 64 = ltb-true _ _ l in omega (arith, h, m)
number_can (Scaled n k) s b v pc h g l e = product_small (v + k) (2 ^ b + k) n (omega (arith, h)) (ltb-true _ _ l)
number_can Falling s b v pc h g l e = let m : 2 ^ b < 2 ^ 64 = ltb-true _ _ l in omega (arith, m)
number_can (Signed n) s b v pc h g l e = signed_can s n b v h (ltb-true _ _ l) e
number_can (Target n g') s b v pc h g l e = mod_small _
number_can (Bitmask w) s b v pc h g l e =
    let g2 = and_parts (b == 13) (w == 64 || w == 32) g in
    bitmask_small w v g2.1 (of_bits v b 13 h g2.0)
number_can Spread s b v pc h g l e = spread_small v (of_bits v b 8 h g)
number_can Plain s b v pc h g l e = absurd (false≢true l)
number_can Stack s b v pc h g l e = absurd (false≢true l)
number_can (After k) s b v pc h g l e = absurd (false≢true l)
number_can NamedCount s b v pc h g l e = absurd (false≢true l)
number_can (LeftShift w) s b v pc h g l e = absurd (false≢true l)
number_can Inverted s b v pc h g l e = absurd (false≢true l)

-- a token that is a number, with `#` or without
bare_read : (t : List ℕ) (n : ℕ) → n < 2 ^ 64 → IsNumber t n → AreRead (t ∷ []) (item Number (pos n))
bare_read t n h s = record { tokens = and_from _ true s.token refl; items = λ us. bare_items t n us h s }

hash_read : (t : List ℕ) (n : ℕ) → n < 2 ^ 64 → IsNumber t n → AreRead ((hash ∷ []) ∷ t ∷ []) (item Number (pos n))
hash_read t n h s = record { tokens = and_from _ true s.token refl; items = λ us. hash_items t n us h s }

minus_read : (t : List ℕ) (n : ℕ) → n < 2 ^ 64 → IsNumber t n → AreRead ((hash ∷ []) ∷ (minus ∷ []) ∷ t ∷ []) (item Number (neg_ℤ (pos n)))
minus_read t n h s = record { tokens = and_from _ true s.token refl; items = λ us. minus_items t n us h s }

number_read : (s : Style) (z : ℤ) → is_word s ≡ false → CanWrite s z → AreRead (item_tokens s (item Number z)) (item Number z)
number_read Word z k h = absurd (true≢false k)
number_read Counted (pos n) k h =
    subst (λ (b : Bool). AreRead ((hash ∷ []) ∷ (if b then (minus ∷ []) ∷ decimal n ∷ [] else decimal n ∷ [])) (item Number (pos n))) (sym (not_negative n))
    (hash_read (decimal n) n h (decimal_is n h))
number_read Counted (negsuc n) k h = minus_read (decimal (suc n)) (suc n) h.0 (decimal_is (suc n) h.0)
number_read (Hexadecimal w) (pos n) k h = hash_read (hexadecimal n) n h (hexadecimal_is n h)
number_read (Hexadecimal w) (negsuc n) k h = absurd (false≢true h.1)
number_read Bare (pos n) k h = bare_read (decimal n) n h (decimal_is n h)
number_read Bare (negsuc n) k h = absurd (false≢true h.1)
number_read Address (pos n) k h = bare_read (hexadecimal n) n h (hexadecimal_is n h)
number_read Address (negsuc n) k h = absurd (false≢true h.1)

is_number : (k : Shape) (w : ℕ) → is_number_shape k ≡ true → class_in k w ≡ Number
is_number (Only c) w h = same_number c Number (eqb-true _ _ h)
is_number (Told b g) w h = absurd (false≢true h)
is_number (Shown b g) w h = absurd (false≢true h)

number_slot : (s : Slot) (w pc : ℕ) → is_good s ≡ true → is_word s.style ≡ false → is_written_number s (bits_in (places s.codec.parts)) ≡ true
    → AreRead (item_tokens s.style (printed_item s w pc)) (printed_item s w pc)
number_slot s w pc g k h =
    let b : ℕ = bits_in (places s.codec.parts) in
    let x : ℤ = (printed_item s w pc).value in
    let h1 = and_parts (is_number_shape s.shape) (nat_lt (number_bound s.codec.kind b) (2 ^ 64) && has_sign s.codec.kind s.style) h in
    let h2 = and_parts (nat_lt (number_bound s.codec.kind b) (2 ^ 64)) (has_sign s.codec.kind s.style) h1.1 in
    subst (λ (c : Class). AreRead (item_tokens s.style (item c x)) (item c x)) (sym (is_number s.shape w h1.0))
    (number_read s.style x k (number_can s.codec.kind s.style b (joined (places s.codec.parts) w) pc (joined_small (places s.codec.parts) w) (good s g).kind h2.0 h2.1))

-- ---- any slot

word_tokens : (s : Style) (i : Item) → is_word s ≡ true → item_tokens s i ≡ spelled i.class (unsigned_abs i.value) ∷ []
word_tokens Word i h = refl
word_tokens s i h = absurd (false≢true h)

pub slot_read : (s : Slot) (w pc : ℕ) → is_good s ≡ true → fits s w ≡ true → is_written s ≡ true → AreRead (item_tokens s.style (printed_item s w pc)) (printed_item s w pc)
slot_read s w pc g f h =
    let b : ℕ = bits_in (places s.codec.parts) in
    let q = λ (t : Bool). if t then is_written_word s b else is_written_number s b in
    elim (cases_Bool (is_word s.style)) [
      | inl e ↦ subst (λ (ts : List (List ℕ)). AreRead ts (printed_item s w pc)) (sym (word_tokens s.style (printed_item s w pc) e)) (word_slot s w pc g f (sym (ap q e) ∙ h))
      | inr e ↦ number_slot s w pc g e (sym (ap q e) ∙ h)
    ]
