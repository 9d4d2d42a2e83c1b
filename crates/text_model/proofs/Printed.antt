-- The tokens of a pattern's slots are read as the word that they show, with the bits of its target 0, and the target.
use Rattle.std.proofs.Common.{◌≡◌, ℕ, ◌+◌, ◌-◌, ◌*◌, ◌%◌, ◌^◌, ◌<◌, ◌≤◌, ℤ, pos, ◌==◌, ◌&&◌, ◌||◌, if◌then◌else◌, Bool, true, false, not, List, [], ◌∷◌, ◌++◌, bit_and, nat_le, refl, sym, ap, ap₂, ◌∙◌, subst, arith, inl, inr, ◌⊎◌}
use Rattle.std.proofs.lemmas.Bool.{cases_Bool, and_parts, or_parts, and_from, not-true, eqb-true, eq-eqb, false≢true, true≢false, leb-true, lt-ltb, or_right}
use Rattle.std.proofs.lemmas.Nat.{pow_pos, and_assoc, and_le_l}
use lib.Bits.{and_zero_r}
use Rattle.emu_bits.specs.Rows.{Place, ones_at}
use Rattle.emu_bits.proofs.Encoding.{taken, fixed_field}
use Rattle.text_model.specs.declared.classes.Class.{Class}
use Rattle.text_model.specs.declared.classes.Class.TheVariants.{Number}
use Rattle.text_model.specs.declared.slots.Shape.{Shape}
use Rattle.text_model.specs.declared.slots.Shape.TheVariants.{Only, Told, Shown}
use Rattle.text_model.specs.declared.slots.Kind.{Kind}
use Rattle.text_model.specs.declared.slots.Kind.TheVariants.{Target}
use Rattle.text_model.specs.declared.slots.Slot.{Slot}
use Rattle.text_model.specs.declared.slots.Item.{Item}
use Rattle.text_model.specs.Slots.{place_of, places, at_place, bits_in, joined, class_at, is_picked, class_in, shown_number, target_address, item_in, items_in, has_class, can_show, fits, all_fit}
use Rattle.text_model.specs.Reading.{Pattern, is_canonical, all_canonical, is_target, has_target}
use Rattle.text_model.specs.Text.{told_bits, shows, printed, printed_item}
use Rattle.text_model.specs.Words.{item}
use Rattle.text_model.specs.Statement.{is_address, untargeted}
use Rattle.text_model.specs.Aim.{reach_of, reach_bits}
use Rattle.text_model.specs.ReadBack.{unaimed}
use Rattle.text_model.proofs.Spelling.{same_number}
use Rattle.text_model.proofs.Unlike.{Shaped}
use Rattle.text_model.proofs.Again.{AreOf}
use Rattle.text_model.proofs.Tests.{is_number_shape, ends_in_target, is_address_slot, retargeted, shape_places, has_all, has_none, looks_within, look_within, is_aimed_well}
use Rattle.text_model.proofs.KindLaws.{is_unaimed, not_negative}
use Rattle.text_model.proofs.Own.{all_unaimed, IsShown}

-- ---- a word with the bits outside of a mask 0

module _ (w m : ℕ) where
  same_place : (p : Place) → (nat_le p.low p.high && bit_and m (ones_at p) == ones_at p) ≡ true → at_place p w ≡ at_place p (bit_and w m)
  same_place p h =
      let h2 = and_parts (nat_le p.low p.high) _ h in
      fixed_field w m (bit_and w m) p h2.0 refl (eqb-true _ _ h2.1)

  no_product : (a b : ℕ) → 0 < b → a * b ≡ 0 → a ≡ 0
  no_product a b h e = grind arith

  no_place : (p : Place) → (nat_le p.low p.high && bit_and m (ones_at p) == 0) ≡ true → at_place p (bit_and w m) ≡ 0
  no_place p h =
      let h2 = and_parts (nat_le p.low p.high) _ h in
      no_product (at_place p (bit_and w m)) (2 ^ p.low) (pow_pos p.low)
      (sym (taken (bit_and w m) p (leb-true _ _ h2.0)) ∙ and_assoc (ones_at p) w m ∙ ap (bit_and w) (eqb-true _ _ h2.1) ∙ and_zero_r w)

  pub same_joined : (ps : List Place) → has_all m ps ≡ true → joined ps w ≡ joined ps (bit_and w m)
  same_joined [] h = refl
  same_joined (p ∷ ps) h =
      let h2 = and_parts _ (has_all m ps) h in
      ap₂ (λ (x y : ℕ). x * 2 ^ bits_in ps + y) (same_place p h2.0) (same_joined ps h2.1)

  no_joined : (ps : List Place) → has_none m ps ≡ true → joined ps (bit_and w m) ≡ 0
  no_joined [] h = refl
  no_joined (p ∷ ps) h =
      let h2 = and_parts _ (has_none m ps) h in
      ap₂ (λ (x y : ℕ). x * 2 ^ bits_in ps + y) (no_place p h2.0) (no_joined ps h2.1) ∙ omega arith

  all_both : (ps qs : List Place) → has_all m (ps ++ qs) ≡ true → (has_all m ps ≡ true) × (has_all m qs ≡ true)
  all_both [] qs h = (refl, h)
  all_both (p ∷ ps) qs h =
      let h2 = and_parts _ (has_all m (ps ++ qs)) h in
      let k = all_both ps qs h2.1 in
      (and_from _ (has_all m ps) h2.0 k.0, k.1)

  -- ---- a slot that looks at bits of the mask

  same_class_in : (k : Shape) → has_all m (shape_places k) ≡ true → class_in k w ≡ class_in k (bit_and w m)
  same_class_in (Only c) h = refl
  same_class_in (Told b g) h = ap (class_at g) (same_place (place_of b) (and_parts _ true h).0)
  same_class_in (Shown b g) h = ap (class_at g) (same_place (place_of b) (and_parts _ true h).0)

  pub same_has_class : (k : Shape) → has_all m (shape_places k) ≡ true → has_class k w ≡ has_class k (bit_and w m)
  same_has_class (Only c) h = refl
  same_has_class (Told b g) h = ap (is_picked g) (same_place (place_of b) (and_parts _ true h).0)
  same_has_class (Shown b g) h = ap (is_picked g) (same_place (place_of b) (and_parts _ true h).0)

  -- what is so of a slot that looks within the mask
  record Same (s : Slot) : Type 0 where
    pub class : class_in s.shape w ≡ class_in s.shape (bit_and w m)
    pub has : has_class s.shape w ≡ has_class s.shape (bit_and w m)
    pub value : joined (places s.codec.parts) w ≡ joined (places s.codec.parts) (bit_and w m)

  same : (s : Slot) → is_target s.codec.kind ≡ false → looks_within m s ≡ true → Same s
  same s e h =
      let h1 : has_all m (shape_places s.shape ++ places s.codec.parts) ≡ true =
      sym (ap (λ (b : Bool). if b then is_number_shape s.shape && has_none m (places s.codec.parts) else has_all m (shape_places s.shape ++ places s.codec.parts)) e) ∙ h in
      let h2 = all_both (shape_places s.shape) (places s.codec.parts) h1 in
      record { class = same_class_in s.shape h2.0; has = same_has_class s.shape h2.0; value = same_joined (places s.codec.parts) h2.1 }

  -- a target's bits are 0
  record NoTarget (s : Slot) : Type 0 where
    pub class : (v : ℕ) → class_in s.shape v ≡ Number
    pub has : (v : ℕ) → has_class s.shape v ≡ true
    pub value : joined (places s.codec.parts) (bit_and w m) ≡ 0

  number_class : (k : Shape) (v : ℕ) → is_number_shape k ≡ true → (class_in k v ≡ Number) × (has_class k v ≡ true)
  number_class (Only c) v h = (same_number c Number (eqb-true _ _ h), refl)
  number_class (Told b g) v h = absurd (false≢true h)
  number_class (Shown b g) v h = absurd (false≢true h)

  none : (s : Slot) → is_target s.codec.kind ≡ true → looks_within m s ≡ true → NoTarget s
  none s e h =
      let h2 = and_parts (is_number_shape s.shape) _ (sym (ap (λ (b : Bool). if b then is_number_shape s.shape && has_none m (places s.codec.parts) else has_all m (shape_places s.shape ++ places s.codec.parts)) e) ∙ h) in
      record { class = λ v. (number_class s.shape v h2.0).0; has = λ v. (number_class s.shape v h2.0).1; value = no_joined (places s.codec.parts) h2.1 }

plain_unaimed : (k : Kind) (v : ℕ) → is_target k ≡ false → is_unaimed k v ≡ true
plain_unaimed (Target n g) v h = absurd (true≢false h)
plain_unaimed k v h = refl

zero_unaimed : (k : Kind) (v : ℕ) → v ≡ 0 → is_unaimed k v ≡ true
zero_unaimed (Target n g) v h = eq-eqb v 0 h
zero_unaimed k v h = refl

target_canonical : (k : Kind) (v : ℕ) → is_target k ≡ true → is_canonical k v ≡ true
target_canonical (Target n g) v h = refl
target_canonical k v h = absurd (false≢true h)

target_shown : (k : Kind) (v : ℕ) → is_target k ≡ true → can_show k v ≡ true
target_shown (Target n g) v h = refl
target_shown k v h = absurd (false≢true h)

-- What a word shows it shows with the bits of its target 0.
pub record Cut (w m : ℕ) (ss : List Slot) : Type 0 where
  pub fit : all_fit ss (bit_and w m) ≡ true
  pub canonical : all_canonical ss (bit_and w m) ≡ true
  pub unaimed : all_unaimed ss (bit_and w m) ≡ true

one_cut : (w m : ℕ) (s : Slot) (ss : List Slot) → looks_within m s ≡ true → fits s w ≡ true → is_canonical s.codec.kind (joined (places s.codec.parts) w) ≡ true
    → Cut w m ss → Cut w m (s ∷ ss)
one_cut w m s ss l f c r =
    let v : ℕ = joined (places s.codec.parts) w in
    let u : ℕ = joined (places s.codec.parts) (bit_and w m) in
    let f2 = and_parts (has_class s.shape w) (can_show s.codec.kind v) f in
    elim (cases_Bool (is_target s.codec.kind)) [
      | inl e ↦ (let n = none w m s e l in
          record {
            fit = and_from _ _ (and_from _ _ (n.has (bit_and w m)) (target_shown s.codec.kind u e)) r.fit;
            canonical = and_from _ _ (target_canonical s.codec.kind u e) r.canonical;
            unaimed = and_from _ _ (zero_unaimed s.codec.kind u n.value) r.unaimed;
          })
      | inr e ↦ (let n = same w m s e l in
          record {
            fit = and_from _ _ (and_from _ _ (sym n.has ∙ f2.0) (ap (can_show s.codec.kind) (sym n.value) ∙ f2.1)) r.fit;
            canonical = and_from _ _ (ap (is_canonical s.codec.kind) (sym n.value) ∙ c) r.canonical;
            unaimed = and_from _ _ (plain_unaimed s.codec.kind u e) r.unaimed;
          })
    ]

pub all_cut : (w m : ℕ) (ss : List Slot) → look_within m ss ≡ true → all_fit ss w ≡ true → all_canonical ss w ≡ true → Cut w m ss
all_cut w m [] l f c = record { fit = refl; canonical = refl; unaimed = refl }
all_cut w m (s ∷ ss) l f c =
    let l2 = and_parts (looks_within m s) (look_within m ss) l in
    let f2 = and_parts (fits s w) (all_fit ss w) f in
    let c2 = and_parts _ (all_canonical ss w) c in
    one_cut w m s ss l2.0 f2.0 c2.0 (all_cut w m ss l2.1 f2.1 c2.1)

-- ---- the printed items

abbrev pub printed_items : List Slot → ℕ → ℕ → List Item
printed_items [] w pc = []
printed_items (s ∷ ss) w pc = printed_item s w pc ∷ printed_items ss w pc

plain_printed : (k : Kind) (b v pc : ℕ) → is_target k ≡ false → printed k b v pc ≡ shown_number k b v
plain_printed (Target n g) b v pc h = absurd (true≢false h)
plain_printed k b v pc h = refl

target_zero : (k : Kind) (b v : ℕ) → is_target k ≡ true → shown_number k b v ≡ pos 0
target_zero (Target n g) b v h = refl
target_zero k b v h = absurd (false≢true h)

module _ (w m pc : ℕ) where
  plain_item : (s : Slot) → is_target s.codec.kind ≡ false → looks_within m s ≡ true → printed_item s w pc ≡ item_in s (bit_and w m)
  plain_item s e l =
      let n = same w m s e l in
      let b : ℕ = bits_in (places s.codec.parts) in
      ap₂ (λ (c : Class) (x : ℤ). item c x) n.class (plain_printed s.codec.kind b (joined (places s.codec.parts) w) pc e ∙ ap (shown_number s.codec.kind b) n.value)

  no_targets : (s : Slot) (ss : List Slot) → has_target (s ∷ ss) ≡ false → (is_target s.codec.kind ≡ false) × (has_target ss ≡ false)
  no_targets s ss h = or_parts (is_target s.codec.kind) (has_target ss) h

  pub plain_items : (ss : List Slot) → has_target ss ≡ false → look_within m ss ≡ true → printed_items ss w pc ≡ items_in ss (bit_and w m)
  plain_items [] h l = refl
  plain_items (s ∷ ss) h l =
      let h2 = no_targets s ss h in
      let l2 = and_parts (looks_within m s) (look_within m ss) l in
      ap₂ (λ (i : Item) (is : List Item). i ∷ is) (plain_item s h2.0 l2.0) (plain_items ss h2.1 l2.1)

  printed_class : (s : Slot) → looks_within m s ≡ true → class_in s.shape w ≡ class_in s.shape (bit_and w m)
  printed_class s l = elim (cases_Bool (is_target s.codec.kind)) [
    | inl e ↦ (let n = none w m s e l in n.class w ∙ sym (n.class (bit_and w m)))
    | inr e ↦ (same w m s e l).class
  ]

  pub shaped : (ss : List Slot) → look_within m ss ≡ true → Shaped ss (bit_and w m) (printed_items ss w pc)
  shaped [] l = tt
  shaped (s ∷ ss) l =
      let l2 = and_parts (looks_within m s) (look_within m ss) l in
      (printed_class s l2.0, shaped ss l2.1)

own_shaped : (ss : List Slot) (w : ℕ) → Shaped ss w (items_in ss w)
own_shaped [] w = tt
own_shaped (s ∷ ss) w = (refl, own_shaped ss w)

-- with or without a number in place of the last
either_shaped : (ss : List Slot) (w : ℕ) (is : List Item) (label : Bool) → Shaped ss w is → Shaped ss w (untargeted label is) ⊎ Shaped (retargeted ss) w (untargeted label is)
either_shaped [] w [] label s = inl tt
either_shaped [] w (i ∷ is) label s = absurd s
either_shaped (t ∷ ts) w [] label s = absurd s
either_shaped (t ∷ []) w (i ∷ []) label s = elim (cases_Bool (label || is_address i)) [
  | inl e ↦ inr (subst (λ (b : Bool). Shaped (retargeted (t ∷ [])) w ((if b then item Number (pos 0) else i) ∷ [])) (sym e) (refl, tt))
  | inr e ↦ inl (subst (λ (b : Bool). Shaped (t ∷ []) w ((if b then item Number (pos 0) else i) ∷ [])) (sym e) s)
]
either_shaped (t ∷ []) w (i ∷ j ∷ js) label s = absurd s.1
either_shaped (t ∷ u ∷ us) w (i ∷ []) label s = absurd s.1
either_shaped (t ∷ u ∷ us) w (i ∷ j ∷ js) label s = elim (either_shaped (u ∷ us) w (j ∷ js) label s.1) [
  | inl e ↦ inl (s.0, e)
  | inr e ↦ inr (s.0, e)
]

mod_small : (a : ℕ) → a % 2 ^ 64 < 2 ^ 64
mod_small a = omega arith

address_item : (n g b v pc : ℕ) → is_address (item Number (printed (Target n g) b v pc)) ≡ true
address_item n g b v pc =
    let a : ℕ = target_address n g b v pc in
    let l : a < 2 ^ 64 = mod_small _ in
    and_from _ _ (ap not (not_negative a)) (lt-ltb a (2 ^ 64) l)

target_is_address : (k : Kind) (b v pc : ℕ) → is_target k ≡ true → is_address (item Number (printed k b v pc)) ≡ true
target_is_address (Target n g) b v pc h = address_item n g b v pc
target_is_address k b v pc h = absurd (false≢true h)

module _ (w m pc : ℕ) (label : Bool) where
  last_item : (s : Slot) → is_target s.codec.kind ≡ true → looks_within m s ≡ true → (if label || is_address (printed_item s w pc) then item Number (pos 0) else printed_item s w pc) ≡ item_in s (bit_and w m)
  last_item s e l =
      let n = none w m s e l in
      let b : ℕ = bits_in (places s.codec.parts) in
      let x : ℤ = printed s.codec.kind b (joined (places s.codec.parts) w) pc in
      let a : (label || is_address (printed_item s w pc)) ≡ true =
      or_right label _ (ap (λ (c : Class). is_address (item c x)) (n.class w) ∙ target_is_address s.codec.kind b (joined (places s.codec.parts) w) pc e) in
      ap (λ (t : Bool). if t then item Number (pos 0) else printed_item s w pc) a
      ∙ ap₂ (λ (c : Class) (y : ℤ). item c y) (sym (n.class (bit_and w m))) (sym (target_zero s.codec.kind b (joined (places s.codec.parts) (bit_and w m)) e))

  pub targeted_items : (ss : List Slot) → ends_in_target ss ≡ true → look_within m ss ≡ true → untargeted label (printed_items ss w pc) ≡ items_in ss (bit_and w m)
  targeted_items [] h l = absurd (false≢true h)
  targeted_items (s ∷ []) h l =
      let h2 = and_parts (is_target s.codec.kind) (is_address_slot s) h in
      ap (λ (i : Item). i ∷ []) (last_item s h2.0 (and_parts (looks_within m s) true l).0)
  targeted_items (s ∷ t ∷ ts) h l =
      let h2 = and_parts (not (is_target s.codec.kind)) (ends_in_target (t ∷ ts)) h in
      let l2 = and_parts (looks_within m s) (look_within m (t ∷ ts)) l in
      ap₂ (λ (i : Item) (is : List Item). i ∷ is) (plain_item w m pc s (not-true _ h2.0) l2.0) (targeted_items (t ∷ ts) h2.1 l2.1)

-- ---- the operands of a pattern's text

-- A word that a pattern's text shows, and the same with the bits of its target 0 is in the table.
pub record IsPrinted (in_table : ℕ → Bool) (p : Pattern) (w : ℕ) : Type 0 where
  pub word : w < 2 ^ 32
  pub shows : shows p w ≡ true
  pub canonical : all_canonical p.slots w ≡ true
  pub held : in_table (unaimed p.slots w) ≡ true

record AimedWell (p : Pattern) : Type 0 where
  pub target : (not (has_target p.slots) || ends_in_target p.slots) ≡ true
  pub outside : bit_and (2 ^ 32 - 1 - reach_bits (reach_of p.slots)) (2 ^ 32 - 1 - told_bits p.slots) ≡ 2 ^ 32 - 1 - told_bits p.slots
  pub within : look_within (2 ^ 32 - 1 - reach_bits (reach_of p.slots)) p.slots ≡ true

aimed_well : (p : Pattern) → is_aimed_well p ≡ true → AimedWell p
aimed_well p h =
    let h1 = and_parts (not (has_target p.slots) || ends_in_target p.slots) _ h in
    let h2 = and_parts (bit_and (2 ^ 32 - 1 - reach_bits (reach_of p.slots)) (2 ^ 32 - 1 - told_bits p.slots) == 2 ^ 32 - 1 - told_bits p.slots) _ h1.1 in
    record { target = h1.0; outside = eqb-true _ _ h2.0; within = h2.1 }

pub shown_unaimed : (in_table : ℕ → Bool) (p : Pattern) (w : ℕ) → is_aimed_well p ≡ true → IsPrinted in_table p w → IsShown in_table p (unaimed p.slots w)
shown_unaimed in_table p w a h =
    let m : ℕ = 2 ^ 32 - 1 - reach_bits (reach_of p.slots) in
    let n : ℕ = 2 ^ 32 - 1 - told_bits p.slots in
    let a2 = aimed_well p a in
    let s2 = and_parts (bit_and w n == p.base) (all_fit p.slots w) h.shows in
    let c = all_cut w m p.slots a2.within s2.1 h.canonical in
    let l : bit_and w m ≤ w = and_le_l w m in
    let k : w < 2 ^ 32 = h.word in
    let base : bit_and (bit_and w m) n ≡ p.base = and_assoc n w m ∙ ap (bit_and w) a2.outside ∙ eqb-true _ _ s2.0 in
    record { word = omega (arith, l, k); shows = and_from _ _ (eq-eqb _ _ base) c.fit; canonical = c.canonical; unaimed = c.unaimed; held = h.held }

pub operands_are : (p : Pattern) (w pc : ℕ) (label : Bool) → is_aimed_well p ≡ true
    → AreOf p (unaimed p.slots w) (record { items = printed_items p.slots w pc; untargeted = untargeted label (printed_items p.slots w pc) })
operands_are p w pc label a =
    let m : ℕ = 2 ^ 32 - 1 - reach_bits (reach_of p.slots) in
    let a2 = aimed_well p a in
    let is : List Item = printed_items p.slots w pc in
    let js : List Item = untargeted label is in
    let s = shaped w m pc p.slots a2.within in
    record {
      own = elim (cases_Bool (has_target p.slots)) [
        | inl e ↦ ap (λ (b : Bool). if b then js else is) e
            ∙ targeted_items w m pc label p.slots (sym (ap (λ (b : Bool). not b || ends_in_target p.slots) e) ∙ a2.target) a2.within
        | inr e ↦ ap (λ (b : Bool). if b then js else is) e ∙ plain_items w m pc p.slots e a2.within
      ];
      items = s;
      untargeted = either_shaped p.slots (bit_and w m) is label s;
    }
