-- A pattern reads what it shows of a word as the word.
use Rattle.std.proofs.Common.{◌≡◌, ℕ, ◌-◌, ◌%◌, ◌^◌, ◌<◌, ℤ, pos, ◌+ℤ◌, int_eq, ◌==◌, ◌&&◌, if◌then◌else◌, Bool, true, false, not, Ok, Err, List, [], ◌∷◌, ◌++◌, length, bit_and, bit_or, nat_le, refl, sym, ap, ap₂, ◌∙◌, subst, arith}
use Rattle.std.proofs.lemmas.Bool.{and_parts, and_from, eqb-true, eq-eqb, false≢true}
use Rattle.std.proofs.lemmas.Slice.Eq.{bytes_eq-Decides}
use Rattle.std.proofs.Math.Nat.{mod-eq_of_lt}
use Rattle.std.proofs.lemmas.Int.{ints}
use Rattle.std.specs.Str.{bytes_eq}
use Rattle.emu_bits.specs.Rows.{Place, width, ones_at}
use Rattle.emu_bits.proofs.AllBelow.{each_below}
use Rattle.text_model.specs.declared.classes.Class.{Class}
use Rattle.text_model.specs.declared.slots.Shape.{Shape}
use Rattle.text_model.specs.declared.slots.Shape.TheVariants.{Only, Told, Shown}
use Rattle.text_model.specs.declared.slots.Kind.{Kind}
use Rattle.text_model.specs.declared.slots.Kind.TheVariants.{Bitmask, Spread}
use Rattle.text_model.specs.declared.slots.Style.{Style}
use Rattle.text_model.specs.declared.slots.Style.TheVariants.{Word, Counted, Bare, Hexadecimal, Address}
use Rattle.text_model.specs.declared.slots.Need.{Need}
use Rattle.text_model.specs.declared.slots.Need.TheVariants.{Must, Begins, Inside}
use Rattle.text_model.specs.declared.slots.Slot.{Slot}
use Rattle.text_model.specs.declared.slots.Item.{Item}
use Rattle.text_model.specs.declared.slots.Refusal.TheVariants.{BadOperands, OutOfRange}
use Rattle.text_model.specs.ClassNumbers.{class_number}
use Rattle.text_model.specs.Slots.{place_of, places, at_place, bits_in, joined, classes_of, class_at, class_in, shown_number, value_in, item_in, items_in, has_class, can_show, fits, all_fit}
use Rattle.text_model.specs.Told.{Binding, class_tells, index_of, told_number, parted, codec_tells, slot_tells, Built, built}
use Rattle.text_model.specs.Reading.{Pattern, is_left_out, raised, item_for, items_behind, filled, same_classes, same_values, is_canonical, all_canonical, word_told, has_target, judged}
use Rattle.text_model.specs.Text.{class_places, slot_places, told_bits, shows}
use Rattle.text_model.proofs.Tests.{is_good_shape, is_good_kind, is_good_need, is_good_style, is_good, are_good, all_places, is_readable}
use Rattle.text_model.proofs.KindLaws.{is_unaimed, kind_law, not_negative}
use Rattle.text_model.proofs.Building.{AreSo, so_both, are_places, small_at, joined_small, parted_so, masked, places_of, with_bits, all_put, whole, nothing}

pub self : (n : ℕ) → (n == n) ≡ true
self n = eq-eqb n n refl

self_integer : (z : ℤ) → int_eq z z ≡ true
self_integer z = grind (arith, ints)

-- ---- what a slot's own item tells is so

class_so : (k : Shape) (w : ℕ) → is_good_shape k ≡ true → has_class k w ≡ true → are_places (class_places k) ≡ true → AreSo w (class_tells k (class_in k w))
class_so (Only c) w g h l = tt
class_so (Told b g') w g h l =
    let v : ℕ = at_place (place_of b) w in
    let e : index_of 0 (class_at g' v) (classes_of g') ≡ v = eqb-true _ _ (each_below (length (classes_of g')) (λ x. index_of 0 (class_at g' x) (classes_of g') == x) v g (grind arith)) in
    ((grind arith, ap (λ (x : ℕ). x % 2 ^ width (place_of b)) e ∙ mod-eq_of_lt (small_at (place_of b) w)), tt)
class_so (Shown b g') w g h l = tt

places_both : (ps qs : List Place) → are_places (ps ++ qs) ≡ true → (are_places ps ≡ true) × (are_places qs ≡ true)
places_both [] qs h = (refl, h)
places_both (p ∷ ps) qs h =
    let h2 = and_parts _ (are_places (ps ++ qs)) h in
    let k = places_both ps qs h2.1 in
    (and_from _ (are_places ps) h2.0 k.0, k.1)

-- the bits of targets are 0
abbrev pub all_unaimed : List Slot → ℕ → Bool
all_unaimed [] w = true
all_unaimed (s ∷ ss) w = is_unaimed s.codec.kind (joined (places s.codec.parts) w) && all_unaimed ss w

pub record GoodSlot (s : Slot) : Type 0 where
  pub shape : is_good_shape s.shape ≡ true
  pub kind : is_good_kind s.codec.kind (bits_in (places s.codec.parts)) ≡ true
  pub need : is_good_need s.shape s.need ≡ true
  pub style : is_good_style s.style s.codec.kind ≡ true
  pub class_places : are_places (class_places s.shape) ≡ true
  pub parts : are_places (places s.codec.parts) ≡ true

pub good : (s : Slot) → is_good s ≡ true → GoodSlot s
good s h =
    let h1 = and_parts (is_good_shape s.shape && is_good_kind s.codec.kind (bits_in (places s.codec.parts))) _ h in
    let h2 = and_parts (is_good_shape s.shape) _ h1.0 in
    let h3 = and_parts (is_good_need s.shape s.need && is_good_style s.style s.codec.kind) (are_places (slot_places s)) h1.1 in
    let h4 = and_parts (is_good_need s.shape s.need) (is_good_style s.style s.codec.kind) h3.0 in
    let h5 = places_both (class_places s.shape) (places s.codec.parts) h3.1 in
    record { shape = h2.0; kind = h2.1; need = h4.0; style = h4.1; class_places = h5.0; parts = h5.1 }

slot_so : (s : Slot) (w : ℕ) → is_good s ≡ true → fits s w ≡ true → is_canonical s.codec.kind (joined (places s.codec.parts) w) ≡ true
    → is_unaimed s.codec.kind (joined (places s.codec.parts) w) ≡ true → AreSo w (slot_tells s (item_in s w))
slot_so s w g f c u =
    let g2 = good s g in
    let f2 = and_parts (has_class s.shape w) (can_show s.codec.kind (joined (places s.codec.parts) w)) f in
    let ps : List Place = places s.codec.parts in
    let e = kind_law s.codec.kind (bits_in ps) (joined ps w) (joined_small ps w) g2.kind c u in
    so_both w (class_tells s.shape (class_in s.shape w)) (codec_tells s.codec (value_in s.codec w))
    (class_so s.shape w g2.shape f2.0 g2.class_places)
    (subst (λ (x : ℕ). AreSo w (parted ps x)) (sym e) (parted_so ps w g2.parts))

-- ---- which places it tells

places_append : (bs cs : List Binding) → places_of (bs ++ cs) ≡ places_of bs ++ places_of cs
places_append [] cs = refl
places_append (b ∷ bs) cs = ap (λ (x : List Place). b.place ∷ x) (places_append bs cs)

class_told : (k : Shape) (c : Class) → places_of (class_tells k c) ≡ class_places k
class_told (Only d) c = refl
class_told (Told b g) c = refl
class_told (Shown b g) c = refl

pub parts_told : (ps : List Place) (v : ℕ) → places_of (parted ps v) ≡ ps
parts_told [] v = refl
parts_told (p ∷ ps) v = ap (λ (x : List Place). p ∷ x) (parts_told ps v)

slot_told : (s : Slot) (i : Item) → places_of (slot_tells s i) ≡ slot_places s
slot_told s i =
    places_append (class_tells s.shape i.class) (codec_tells s.codec i.value)
    ∙ ap₂ (λ (x y : List Place). x ++ y) (class_told s.shape i.class) (parts_told (places s.codec.parts) (told_number s.codec.kind (bits_in (places s.codec.parts)) i.value))

masked_both : (ps qs : List Place) (m : ℕ) → masked m (ps ++ qs) ≡ masked (masked m ps) qs
masked_both [] qs m = refl
masked_both (p ∷ ps) qs m = masked_both ps qs (if bit_and m (ones_at p) == 0 then bit_or m (ones_at p) else m)

-- all items of a word build it
all_built : (base w m : ℕ) (ss : List Slot) → are_good ss ≡ true → all_fit ss w ≡ true → all_canonical ss w ≡ true → all_unaimed ss w ≡ true
    → built (with_bits base w m) ss (items_in ss w) ≡ with_bits base w (masked m (all_places ss))
all_built base w m [] g f c u = refl
all_built base w m (s ∷ ss) g f c u =
    let g2 = and_parts (is_good s) (are_good ss) g in
    let f2 = and_parts (fits s w) (all_fit ss w) f in
    let c2 = and_parts _ (all_canonical ss w) c in
    let u2 = and_parts _ (all_unaimed ss w) u in
    ap (λ (a : Built). built a ss (items_in ss w)) (all_put base w m (slot_tells s (item_in s w)) (slot_so s w g2.0 f2.0 c2.0 u2.0)
    ∙ ap (λ (ps : List Place). with_bits base w (masked m ps)) (slot_told s (item_in s w)))
    ∙ all_built base w (masked m (slot_places s)) ss g2.1 f2.1 c2.1 u2.1
    ∙ ap (with_bits base w) (sym (masked_both (slot_places s) (all_places ss) m))

-- ---- nothing was left out

kept : (k : Shape) (n : Need) (w : ℕ) (v : ℤ) (is : List Item) → is_good_need k n ≡ true → is_left_out n false (record { class = class_in k w; value = v } ∷ is) ≡ false
kept k Must w v is h = refl
kept (Only c) Begins w v is h = ap not h
kept (Told b g) Begins w v is h = absurd (false≢true h)
kept (Shown b g) Begins w v is h = absurd (false≢true h)
kept k (Inside x) w v is h = refl

-- a number that isn't negative stands for itself
not_raised : (w m : ℕ) (c : Class) → raised (Hexadecimal w) (record { class = c; value = pos m }) ≡ record { class = c; value = pos m }
not_raised w m c =
    ap (λ (b : Bool). if b && nat_le m (2 ^ (w - 1)) then record { class = c; value = pos m +ℤ pos (2 ^ w) } else record { class = c; value = pos m }) (not_negative m)

itself : (y : Style) (k : Kind) (c : Class) (b v : ℕ) → is_good_style y k ≡ true → raised y (record { class = c; value = shown_number k b v }) ≡ record { class = c; value = shown_number k b v }
itself Word k c b v h = refl
itself Counted k c b v h = refl
itself Bare k c b v h = refl
itself Address k c b v h = refl
itself (Hexadecimal w) (Bitmask x) c b v h = not_raised w _ c
itself (Hexadecimal w) Spread c b v h = not_raised w _ c
itself (Hexadecimal w) k c b v h = absurd (false≢true h)

pub all_kept : (ss : List Slot) (w : ℕ) → are_good ss ≡ true → filled false ss (items_in ss w) ≡ items_in ss w
all_kept [] w g = refl
all_kept (s ∷ ss) w g =
    let g2 = and_parts (is_good s) (are_good ss) g in
    let x = good s g2.0 in
    let i : Item = item_in s w in
    let is : List Item = items_in ss w in
    ap (λ (o : Bool). item_for o s (i ∷ is) ++ filled o ss (items_behind o (i ∷ is))) (kept s.shape s.need w i.value is x.need)
    ∙ ap₂ (λ (j : Item) (js : List Item). j ∷ js) (itself s.style s.codec.kind i.class (bits_in (places s.codec.parts)) (joined (places s.codec.parts) w) x.style) (all_kept ss w g2.1)

-- ---- one pattern

own_classes : (is : List Item) → same_classes is is ≡ true
own_classes [] = refl
own_classes (i ∷ is) = and_from _ _ (self (class_number i.class)) (own_classes is)

own_values : (is : List Item) → same_values is is ≡ true
own_values [] = refl
own_values (i ∷ is) = and_from _ _ (self_integer i.value) (own_values is)

pub own_name : (s : List ℕ) → bytes_eq s s ≡ true
own_name s = (bytes_eq-Decides s s).1 refl

-- A word that a pattern shows and reads again.
pub record IsShown (in_table : ℕ → Bool) (p : Pattern) (w : ℕ) : Type 0 where
  pub word : w < 2 ^ 32
  pub shows : shows p w ≡ true
  pub canonical : all_canonical p.slots w ≡ true
  pub unaimed : all_unaimed p.slots w ≡ true
  pub held : in_table w ≡ true

pub told_again : (p : Pattern) (w : ℕ) (in_table : ℕ → Bool) → is_readable p ≡ true → IsShown in_table p w → word_told p (items_in p.slots w) ≡ w
told_again p w in_table r h =
    let m : ℕ = told_bits p.slots in
    let r1 = and_parts (are_good p.slots) _ r in
    let r2 = and_parts (bit_or (2 ^ 32 - 1 - m) m == 2 ^ 32 - 1) (masked 0 (all_places p.slots) == m) r1.1 in
    let s2 = and_parts (bit_and w (2 ^ 32 - 1 - m) == p.base) (all_fit p.slots w) h.shows in
    let start : record { mask = 0; word = p.base } ≡ with_bits p.base w 0 = ap (λ (x : ℕ). record { mask = 0; word = x }) (sym (nothing p.base w)) in
    ap (λ (a : Built). (built a p.slots (items_in p.slots w)).word) start
    ∙ ap (λ (a : Built). a.word) (all_built p.base w 0 p.slots r1.0 s2.1 h.canonical h.unaimed)
    ∙ ap (λ (x : ℕ). bit_or p.base (bit_and w x)) (eqb-true _ _ r2.1)
    ∙ whole w p.base m h.word (eqb-true _ _ r2.0) (eqb-true _ _ s2.0)

-- what a pattern reads of its own items
pub read_own : (p : Pattern) (w : ℕ) (in_table : ℕ → Bool) → is_readable p ≡ true → IsShown in_table p w
    → judged in_table p (items_in p.slots w) (word_told p (items_in p.slots w)) ≡ Ok (record { word = w; aimed = has_target p.slots })
read_own p w in_table r h =
    let is : List Item = items_in p.slots w in
    let s2 = and_parts (bit_and w (2 ^ 32 - 1 - told_bits p.slots) == p.base) (all_fit p.slots w) h.shows in
    let f = λ (a b : Bool). if a then (if b then Ok (record { word = w; aimed = has_target p.slots }) else Err OutOfRange) else Err BadOperands in
    let fine : (same_values is is && (all_fit p.slots w && (all_canonical p.slots w && in_table w))) ≡ true =
    and_from _ _ (own_values is) (and_from _ _ s2.1 (and_from _ _ h.canonical h.held)) in
    ap (λ (x : ℕ). judged in_table p is x) (told_again p w in_table r h)
    ∙ ap₂ f (own_classes is) fine
