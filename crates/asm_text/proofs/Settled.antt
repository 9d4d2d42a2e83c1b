-- The lines of a table in which a pattern has no word, by the bits that its name settles; and what a bitmask among its slots says of its words.
use Rattle.std.proofs.Common.{◌≡◌, ℕ, zero, suc, ◌+◌, ◌-◌, ◌/◌, ◌%◌, ◌^◌, ◌==◌, ◌&&◌, ◌||◌, Bool, true, false, not, Some, None, List, [], ◌∷◌, bit_and, nat_lt, sym, ap, ◌∙◌, arith, inl, inr}
use Rattle.std.proofs.lemmas.Bool.{and_parts, or_cases, not-true, eqb-true, false≢true}
use Rattle.emu_bits.specs.Rows.{Place, ◌to◌, Line, Row, row_in}
use Rattle.emu_bits.specs.RowLaws.{line_at}
use Rattle.emu_bits.proofs.Computed.{may_hold}
use Rattle.emu_bits.proofs.Encoding.{not_held}
use Rattle.text_model.specs.declared.slots.Kind.{Kind}
use Rattle.text_model.specs.declared.slots.Kind.TheVariants.{Bitmask}
use Rattle.text_model.specs.declared.slots.Slot.{Slot}
use Rattle.text_model.specs.Slots.{places, joined}
use Rattle.text_model.specs.Reading.{Pattern, is_canonical, all_canonical, element_size}
use Rattle.text_model.specs.Statement.{Statement}
use Rattle.text_model.specs.Text.{told_bits}
use Rattle.text_model.proofs.Tests.{all_places}
use Rattle.asm_text.proofs.Kept.{are_clear, word_keeps}
use Rattle.asm_text.proofs.ReadBy.{IsReadBy}

-- ---- bits that a name settles

-- the bits that no slot tells
abbrev pub settled : Pattern → ℕ
settled p = 2 ^ 32 - 1 - told_bits p.slots

-- a pattern has no word in a line
abbrev pub misses : {F : Type 0} → Line F → Pattern → Bool
misses l p = not (may_hold l (settled p) (bit_and p.base (settled p)))

-- nor in any of some lines but those whose places are told
abbrev pub misses_but : {F : Type 0} → (ℕ → Bool) → ℕ → List (Line F) → Pattern → Bool
misses_but told k [] p = true
misses_but told k (l ∷ ls) p = (told k || misses l p) && misses_but told (suc k) ls p

pub missed : {F : Type 0} (l : Line F) (p : Pattern) (w : ℕ) (r : Row F) → misses l p ≡ true → bit_and w (settled p) ≡ bit_and p.base (settled p) → row_in l w ≡ Some r → ⊥
missed l p w r m k h =
    let n : row_in l w ≡ None = not_held l w (settled p) (bit_and p.base (settled p)) k (not-true _ m) in
    let e = sym n ∙ h in
    cc

some_line : {F : Type 0} (l m : Line F) → Some l ≡ Some m → l ≡ m
some_line l m h = cc

-- so the place of a line that has one is told
pub told_place : {F : Type 0} (told : ℕ → Bool) (k : ℕ) (ls : List (Line F)) (p : Pattern) (j : ℕ) (l : Line F) (w : ℕ) (r : Row F) → misses_but told k ls p ≡ true
    → bit_and w (settled p) ≡ bit_and p.base (settled p) → line_at ls j ≡ Some l → row_in l w ≡ Some r → told (k + j) ≡ true
told_place told k [] p j l w r m b e h = absurd (cc)
told_place {F} told k (n ∷ ns) p zero l w r m b e h =
    let m2 = and_parts (told k || misses n p) (misses_but told (suc k) ns p) m in
    let z : k ≡ k + 0 = omega arith in
    elim (or_cases (told k) (misses n p) m2.0) [
      | inl t ↦ ap told (sym z) ∙ t
      | inr t ↦ absurd (missed n p w r t b (ap (λ (x : Line F). row_in x w) (some_line n l e) ∙ h))
    ]
told_place told k (n ∷ ns) p (suc j) l w r m b e h =
    let m2 = and_parts (told k || misses n p) (misses_but told (suc k) ns p) m in
    let s : suc k + j ≡ k + suc j = omega arith in
    ap told (sym s) ∙ told_place told (suc k) ns p j l w r m2.1 b e h

-- what reads a statement keeps its settled bits
pub kept_by : (test : Pattern → Bool) (s : Statement) (d : IsReadBy test s) → are_clear (settled d.pattern) (all_places d.pattern.slots) ≡ true
    → bit_and s.word (settled d.pattern) ≡ bit_and d.pattern.base (settled d.pattern)
kept_by test s d c = ap (λ (x : ℕ). bit_and x (settled d.pattern)) d.word ∙ word_keeps d.pattern d.items (settled d.pattern) c

-- ---- bitmasks

-- a slot shows a bitmask at these bits
abbrev pub is_mask : Place → Kind → List Place → Bool
is_mask q (Bitmask w) (p ∷ []) = p.high == q.high && p.low == q.low
is_mask q k ps = false

abbrev pub shows_mask : Place → List Slot → Bool
shows_mask q [] = false
shows_mask q (s ∷ ss) = is_mask q s.codec.kind (places s.codec.parts) || shows_mask q ss

-- the rotation of the bitmask whose fields stand at some bits is below its element's size
abbrev pub has_least : Place → ℕ → Bool
has_least q w = let v = joined (q ∷ []) w in nat_lt (v / 64 % 64) (element_size v)

least_at : (q : Place) (k : Kind) (ps : List Place) (w : ℕ) → is_mask q k ps ≡ true → is_canonical k (joined ps w) ≡ true → has_least q w ≡ true
least_at q (Bitmask n) [] w m c = absurd (false≢true m)
least_at q (Bitmask n) (p ∷ []) w m c =
    let m2 = and_parts (p.high == q.high) (p.low == q.low) m in
    let h : p.high ≡ q.high = eqb-true _ _ m2.0 in
    let l : p.low ≡ q.low = eqb-true _ _ m2.1 in
    let c2 = and_parts _ (has_least p w) c in
    ap (λ (x : ℕ). has_least (x to q.low) w) (sym h) ∙ ap (λ (x : ℕ). has_least (p.high to x) w) (sym l) ∙ c2.1
least_at q (Bitmask n) (p ∷ r ∷ ps) w m c = absurd (false≢true m)
least_at q k ps w m c = absurd (false≢true m)

pub least : (q : Place) (ss : List Slot) (w : ℕ) → shows_mask q ss ≡ true → all_canonical ss w ≡ true → has_least q w ≡ true
least q [] w m c = absurd (false≢true m)
least q (s ∷ ss) w m c =
    let c2 = and_parts (is_canonical s.codec.kind (joined (places s.codec.parts) w)) (all_canonical ss w) c in
    elim (or_cases (is_mask q s.codec.kind (places s.codec.parts)) (shows_mask q ss) m) [
      | inl e ↦ least_at q s.codec.kind (places s.codec.parts) w e c2.0
      | inr e ↦ least q ss w e c2.1
    ]

-- a pattern has no word in a line of bitmasks, or shows the bitmask
abbrev pub masks_well : {F : Type 0} → Place → Line F → Pattern → Bool
masks_well q l p = are_clear (settled p) (all_places p.slots) && (shows_mask q p.slots || misses l p)

-- What is read of that line has the least rotation.
pub least_read : {F : Type 0} (q : Place) (l : Line F) (s : Statement) (r : Row F) → IsReadBy (masks_well q l) s → row_in l s.word ≡ Some r → has_least q s.word ≡ true
least_read q l s r d h =
    let p : Pattern = d.pattern in
    let t = and_parts (are_clear (settled p) (all_places p.slots)) (shows_mask q p.slots || misses l p) d.passes in
    elim (or_cases (shows_mask q p.slots) (misses l p) t.1) [
      | inl m ↦ least q p.slots s.word m d.canonical
      | inr m ↦ absurd (missed l p s.word r m (kept_by (masks_well q l) s d t.0) h)
    ]
