-- Laws of a table's lines: a word's fields put back give the word, and fields put into a base word are read from it.
use Rattle.std.proofs.Common.{◌≡◌, ℕ, zero, suc, ◌+◌, ◌-◌, ◌*◌, ◌/◌, ◌%◌, ◌^◌, ◌<◌, ◌≤◌, ◌==◌, ◌&&◌, ◌||◌, eqb, Bool, true, false, cond, not, Option, Some, None, List, [], ◌∷◌, length, get_or, bit_and, bit_or, nat_le, refl, sym, ap, ◌∙◌, subst, arith, IsTrue, ap₂, inl, inr, ◌⊎◌}
use Rattle.std.proofs.lemmas.Nat.{and_comm, and_assoc, and_or_apart, and_mask, or_disjoint}
use lib.Bits.{and_zero_r, or_zero_r, and_self}
use lib.Pow.{shl-shr}
use Rattle.std.proofs.Math.Nat.{mod-eq_of_lt}
use Rattle.std.proofs.lemmas.Nat.Bits.{same_from_bits, bit_at_and, bit_at_or, and_high}
use Rattle.std.proofs.lemmas.Bool.{eqb-true, eq-eqb, ne_eqb, false≢true}
use Rattle.std.proofs.lemmas.Bool.Decides.{eqb_tells}
use Rattle.emu_bits.specs.Fields.{field}
use Rattle.emu_bits.specs.Rows.{Place, width, ones_at, ones_in, outside, values, Line, Row, next, number_of, where_it_holds, row_in, or_else, decode, fill, encode, is_among}
use Rattle.emu_bits.specs.RowLaws.{Fit, IsRow, line_at, OneRow}
use Rattle.emu_bits.proofs.Computed.{is_clear, are_apart, is_new, are_bases, is_sound, may_agree, any_agrees, may_hold, any_shared, is_alone, are_alone, are_sound, selected, are_among, left_over, IsNoneOf}

pub or_assoc : (a b c : ℕ) → bit_or (bit_or a b) c ≡ bit_or a (bit_or b c)
or_assoc a b c = same_from_bits (bit_or (bit_or a b) c) (bit_or a (bit_or b c)) (λ i. simp bit_at_or (omega arith))

pub and_over_or : (w a b : ℕ) → bit_and w (bit_or a b) ≡ bit_or (bit_and w a) (bit_and w b)
and_over_or w a b = same_from_bits (bit_and w (bit_or a b)) (bit_or (bit_and w a) (bit_and w b)) (λ i. simp (bit_at_and, bit_at_or) (omega arith))

-- ---- tests

pub both : (a b : Bool) → (a && b) ≡ true → (a ≡ true) × (b ≡ true)
both true b h = (refl, h)
both false b h = absurd (cc)

not_true : (b : Bool) → b ≡ true → not b ≡ false
not_true b h = ap not h

le_from : (a b : ℕ) → nat_le a b ≡ true → a ≤ b
le_from a b h = grind arith

and_both : {a b : Bool} → a ≡ true → b ≡ true → (a && b) ≡ true
and_both {a} {b} h k = ap (λ (x : Bool). x && b) h ∙ k

-- ---- one place

ones_is : (p : Place) → p.low ≤ p.high → ones_at p ≡ 2 ^ (width p + p.low) - 2 ^ p.low
ones_is p h =
    let e : p.high + 1 ≡ width p + p.low = omega arith in
    ap (λ (x : ℕ). 2 ^ x - 2 ^ p.low) e

-- what a word has at a place
pub taken : (w : ℕ) (p : Place) → p.low ≤ p.high → bit_and w (ones_at p) ≡ field w p.low (width p) * 2 ^ p.low
taken w p h = ap (λ (x : ℕ). bit_and w x) (ones_is p h) ∙ and_high w (width p) p.low

field_of : (v : ℕ) (p : Place) → v < 2 ^ width p → field (v * 2 ^ p.low) p.low (width p) ≡ v
field_of v p h = ap (λ (x : ℕ). x % 2 ^ width p) (shl-shr v p.low) ∙ mod-eq_of_lt h

-- a value that fits lies within its place
pub lies_within : (v : ℕ) (p : Place) → p.low ≤ p.high → v < 2 ^ width p → bit_and (v * 2 ^ p.low) (ones_at p) ≡ v * 2 ^ p.low
lies_within v p h f = taken (v * 2 ^ p.low) p h ∙ ap (λ (x : ℕ). x * 2 ^ p.low) (field_of v p f)

-- so it has no bit of what is apart from the place
value_apart : (v m : ℕ) (p : Place) → p.low ≤ p.high → v < 2 ^ width p → bit_and (ones_at p) m ≡ 0 → bit_and (v * 2 ^ p.low) m ≡ 0
value_apart v m p h f a =
    ap (λ (x : ℕ). bit_and x m) (sym (lies_within v p h f)) ∙ and_assoc m (v * 2 ^ p.low) (ones_at p)
    ∙ ap (λ (x : ℕ). bit_and (v * 2 ^ p.low) x) a ∙ and_zero_r (v * 2 ^ p.low)

-- ---- words from fields

same_product : (a b k : ℕ) → a * 2 ^ k ≡ b * 2 ^ k → a ≡ b
same_product a b k e = sym (shl-shr a k) ∙ ap (λ (x : ℕ). x / 2 ^ k) e ∙ shl-shr b k

clear_after : (x m v : ℕ) (p : Place) (ps : List Place) → p.low ≤ p.high → v < 2 ^ width p
    → is_clear x ps ≡ true → is_clear (ones_at p) ps ≡ true → is_clear (bit_or x (v * 2 ^ p.low)) ps ≡ true
clear_after x m v p [] h f a b = refl
clear_after x m v p (q ∷ qs) h f a b =
    let a2 = both (bit_and (ones_at q) x == 0) (is_clear x qs) a in
    let b2 = both (bit_and (ones_at q) (ones_at p) == 0) (is_clear (ones_at p) qs) b in
    let e : bit_and (ones_at q) (bit_or x (v * 2 ^ p.low)) ≡ 0 =
    and_comm (ones_at q) (bit_or x (v * 2 ^ p.low))
    ∙ and_or_apart (ones_at q) x (v * 2 ^ p.low) (value_apart v (ones_at q) p h f (and_comm (ones_at p) (ones_at q) ∙ eqb-true _ _ b2.0))
    ∙ and_comm x (ones_at q) ∙ eqb-true _ _ a2.0 in
    and_both (eq-eqb _ _ e) (clear_after x m v p qs h f a2.1 b2.1)

-- a word with none of the bits of each has none of all
clear_in : (m : ℕ) (ps : List Place) → are_apart ps ≡ true → is_clear m ps ≡ true → bit_and m (ones_in ps) ≡ 0
clear_in m [] a c = and_zero_r m
clear_in m (p ∷ ps) a c =
    let a1 = both (nat_le p.low p.high) (is_clear (ones_at p) ps && are_apart ps) a in
    let a2 = both (is_clear (ones_at p) ps) (are_apart ps) a1.1 in
    let c2 = both (bit_and (ones_at p) m == 0) (is_clear m ps) c in
    ap (bit_and m) (sym (or_disjoint (ones_at p) (ones_in ps) (clear_in (ones_at p) ps a2.1 a2.0)))
    ∙ and_over_or m (ones_at p) (ones_in ps)
    ∙ ap₂ bit_or (and_comm m (ones_at p) ∙ eqb-true _ _ c2.0) (clear_in m ps a2.1 c2.1)

-- what is apart from all places stays
fill_apart : (m : ℕ) (ps : List Place) (vs : List ℕ) (x : ℕ) → are_apart ps ≡ true → is_clear m ps ≡ true → Fit ps vs
    → bit_and (fill ps vs x) m ≡ bit_and x m
fill_apart m [] [] x a c f = refl
fill_apart m [] (v ∷ vs) x a c f = absurd f
fill_apart m (p ∷ ps) [] x a c f = absurd f
fill_apart m (p ∷ ps) (v ∷ vs) x a c f =
    let a1 = both (nat_le p.low p.high) (is_clear (ones_at p) ps && are_apart ps) a in
    let a2 = both (is_clear (ones_at p) ps) (are_apart ps) a1.1 in
    let c2 = both (bit_and (ones_at p) m == 0) (is_clear m ps) c in
    fill_apart m ps vs (bit_or x (v * 2 ^ p.low)) a2.1 c2.1 f.1
    ∙ and_or_apart m x (v * 2 ^ p.low) (value_apart v m p (le_from p.low p.high a1.0) f.0 (eqb-true _ _ c2.0))

-- what was put in is read back
pub fill_values : (ps : List Place) (vs : List ℕ) (x : ℕ) → are_apart ps ≡ true → is_clear x ps ≡ true → Fit ps vs
    → values ps (fill ps vs x) ≡ vs
fill_values [] [] x a c f = refl
fill_values [] (v ∷ vs) x a c f = absurd f
fill_values (p ∷ ps) [] x a c f = absurd f
fill_values (p ∷ ps) (v ∷ vs) x a c f =
    let a1 = both (nat_le p.low p.high) (is_clear (ones_at p) ps && are_apart ps) a in
    let a2 = both (is_clear (ones_at p) ps) (are_apart ps) a1.1 in
    let c2 = both (bit_and (ones_at p) x == 0) (is_clear x ps) c in
    let h : p.low ≤ p.high = le_from p.low p.high a1.0 in
    let y : ℕ = bit_or x (v * 2 ^ p.low) in
    let w : ℕ = fill ps vs y in
    let here : bit_and w (ones_at p) ≡ v * 2 ^ p.low =
    fill_apart (ones_at p) ps vs y a2.1 a2.0 f.1
    ∙ and_comm y (ones_at p) ∙ and_over_or (ones_at p) x (v * 2 ^ p.low)
    ∙ ap (λ (z : ℕ). bit_or z (bit_and (ones_at p) (v * 2 ^ p.low))) (eqb-true _ _ c2.0)
    ∙ and_comm (ones_at p) (v * 2 ^ p.low) ∙ lies_within v p h f.0 in
    let first : field w p.low (width p) ≡ v = same_product _ _ p.low (sym (taken w p h) ∙ here) in
    ap₂ (λ (z : ℕ) (zs : List ℕ). z ∷ zs) first
    (fill_values ps vs y a2.1 (clear_after x 0 v p ps h f.0 c2.1 a2.0) f.1)

-- a word's own values put in again are its bits there
pub fill_own : (w : ℕ) (ps : List Place) (x : ℕ) → are_apart ps ≡ true → fill ps (values ps w) x ≡ bit_or x (bit_and w (ones_in ps))
fill_own w [] x a = sym (ap (bit_or x) (and_zero_r w) ∙ or_zero_r x)
fill_own w (p ∷ ps) x a =
    let a1 = both (nat_le p.low p.high) (is_clear (ones_at p) ps && are_apart ps) a in
    let a2 = both (is_clear (ones_at p) ps) (are_apart ps) a1.1 in
    let h : p.low ≤ p.high = le_from p.low p.high a1.0 in
    ap (λ (z : ℕ). fill ps (values ps w) (bit_or x z)) (sym (taken w p h))
    ∙ fill_own w ps (bit_or x (bit_and w (ones_at p))) a2.1
    ∙ or_assoc x (bit_and w (ones_at p)) (bit_and w (ones_in ps))
    ∙ ap (bit_or x) (sym (and_over_or w (ones_at p) (ones_in ps)) ∙ ap (bit_and w) (or_disjoint (ones_at p) (ones_in ps) (clear_in (ones_at p) ps a2.1 a2.0)))

-- ---- the words of a line

new_at : (x : ℕ) (xs : List ℕ) (k : ℕ) → is_new x xs ≡ true → k < length xs → eqb (get_or xs k 0) x ≡ false
new_at x [] k n h = absurd (omega arith)
new_at x (y ∷ ys) zero n h =
    let n2 = both (not (x == y)) (is_new x ys) n in
    ne_eqb y x (λ e. absurd (false≢true (sym (not_true (x == y) (eq-eqb x y (sym e))) ∙ n2.0)))
new_at x (y ∷ ys) (suc k) n h =
    let n2 = both (not (x == y)) (is_new x ys) n in
    new_at x ys k n2.1 (omega arith)

-- what is computed of the base words, at each of them
record IsBase (ps : List Place) (x : ℕ) : Type 0 where
  outside_all : bit_and x (outside ps) ≡ x
  clear : is_clear x ps ≡ true

base_at : (ps : List Place) (xs : List ℕ) (k : ℕ) → are_bases ps xs ≡ true → k < length xs → IsBase ps (get_or xs k 0)
base_at ps [] k b h = absurd (omega arith)
base_at ps (x ∷ xs) zero b h =
    let b1 = both (bit_and x (outside ps) == x) (is_clear x ps && (is_new x xs && are_bases ps xs)) b in
    let b2 = both (is_clear x ps) (is_new x xs && are_bases ps xs) b1.1 in
    record { outside_all = eqb-true _ _ b1.0; clear = b2.0 }
base_at ps (x ∷ xs) (suc k) b h =
    let b1 = both (bit_and x (outside ps) == x) (is_clear x ps && (is_new x xs && are_bases ps xs)) b in
    let b2 = both (is_clear x ps) (is_new x xs && are_bases ps xs) b1.1 in
    let b3 = both (is_new x xs) (are_bases ps xs) b2.1 in
    base_at ps xs k b3.1 (omega arith)

number_at : (ps : List Place) (xs : List ℕ) (k : ℕ) → are_bases ps xs ≡ true → k < length xs → number_of (get_or xs k 0) xs ≡ Some k
number_at ps [] k b h = absurd (omega arith)
number_at ps (x ∷ xs) zero b h = ap (λ (t : Bool). cond t (Some 0) (next (number_of x xs))) (eq-eqb x x refl)
number_at ps (x ∷ xs) (suc k) b h =
    let b1 = both (bit_and x (outside ps) == x) (is_clear x ps && (is_new x xs && are_bases ps xs)) b in
    let b2 = both (is_clear x ps) (is_new x xs && are_bases ps xs) b1.1 in
    let b3 = both (is_new x xs) (are_bases ps xs) b2.1 in
    ap (λ (t : Bool). cond t (Some 0) (next (number_of (get_or xs k 0) xs))) (new_at x xs k b3.0 (omega arith))
    ∙ ap next (number_at ps xs k b3.1 (omega arith))

next_of : (o : Option ℕ) (k : ℕ) → next o ≡ Some k → (j : ℕ) × (o ≡ Some j) × (k ≡ suc j)
next_of None k h = absurd (cc)
next_of (Some j) k h = (j, refl, cc)

number_found : (w : ℕ) (xs : List ℕ) (k : ℕ) → number_of w xs ≡ Some k → get_or xs k 0 ≡ w
number_found w [] k h = absurd (cc)
number_found w (x ∷ xs) k h = elim (eqb_tells w x) [
  | inl e ↦ (let q : Some 0 ≡ Some k = ap (λ (t : Bool). cond t (Some 0) (next (number_of w xs))) (sym e.0) ∙ h in
      let z : 0 ≡ k = cc in ap (λ (i : ℕ). get_or (x ∷ xs) i 0) (sym z) ∙ sym e.1)
  | inr e ↦ (let q = next_of (number_of w xs) k (ap (λ (t : Bool). cond t (Some 0) (next (number_of w xs))) (sym e.0) ∙ h) in
      ap (λ (i : ℕ). get_or (x ∷ xs) i 0) q.2 ∙ number_found w xs q.0 q.1)
]

one_word : (w x k : ℕ) → number_of w (x ∷ []) ≡ Some k → w ≡ x
one_word w x k h = elim (eqb_tells w x) [
  | inl e ↦ e.1
  | inr e ↦ (let q : None ≡ Some k = ap (λ (t : Bool). cond t (Some 0) None) (sym e.0) ∙ h in absurd (cc))
]

-- ---- a line

cond_some : {F : Type 0} (b : Bool) (r s : Row F) → cond b (Some r) None ≡ Some s → (b ≡ true) × (r ≡ s)
cond_some true r s h = (refl, cc)
cond_some false r s h = absurd (cc)

-- what a line's answer says
pub record Answers {F : Type 0} (l : Line F) (w : ℕ) (r : Row F) : Type 0 where
  pub found : number_of (bit_and w (outside l.places)) l.words ≡ Some r.number
  pub is : r ≡ record { line = l; number = r.number; values = values l.places w }
  pub held : l.holds r.number (values l.places w) ≡ true

answered : {F : Type 0} (l : Line F) (w : ℕ) (o : Option ℕ) (r : Row F) → number_of (bit_and w (outside l.places)) l.words ≡ o → where_it_holds l w o ≡ Some r → Answers l w r
answered l w None r e h = absurd (cc)
answered {F} l w (Some k) r e h =
    let c = cond_some (l.holds k (values l.places w)) (record { line = l; number = k; values = values l.places w }) r h in
    let n : k ≡ r.number = ap (λ (s : Row F). s.number) c.1 in
    record {
      found = e ∙ ap (λ (i : ℕ). Some i) n;
      is = sym c.1 ∙ ap (λ (i : ℕ). record { line = l; number = i; values = values l.places w }) n;
      held = subst (λ (i : ℕ). l.holds i (values l.places w) ≡ true) n c.0;
    }

pub answer_of : {F : Type 0} (l : Line F) (w : ℕ) (r : Row F) → row_in l w ≡ Some r → Answers l w r
answer_of l w r h = answered l w (number_of (bit_and w (outside l.places)) l.words) r refl h

record IsSound {F : Type 0} (l : Line F) : Type 0 where
  apart : are_apart l.places ≡ true
  clear : is_clear (outside l.places) l.places ≡ true
  whole : bit_or (outside l.places) (ones_in l.places) ≡ 2 ^ 32 - 1
  bases : are_bases l.places l.words ≡ true

sound_line : {F : Type 0} (l : Line F) → is_sound l ≡ true → IsSound l
sound_line l s =
    let s1 = both (are_apart l.places) _ s in
    let s2 = both (is_clear (outside l.places) l.places) _ s1.1 in
    let s3 = both (bit_or (outside l.places) (ones_in l.places) == 2 ^ 32 - 1) (are_bases l.places l.words) s2.1 in
    record { apart = s1.0; clear = s2.0; whole = eqb-true _ _ s3.0; bases = s3.1 }

-- The word that a line's row encodes to is in that row.
pub row_of_encoded : {F : Type 0} (r : Row F) → is_sound r.line ≡ true → IsRow r → row_in r.line (encode r) ≡ Some r
row_of_encoded r s v =
    let o = sound_line r.line s in
    let x : ℕ = get_or r.line.words r.number 0 in
    let b = base_at r.line.places r.line.words r.number o.bases v.numbered in
    let e1 : bit_and (encode r) (outside r.line.places) ≡ x =
    fill_apart (outside r.line.places) r.line.places r.values x o.apart o.clear v.fits ∙ b.outside_all in
    let e2 : values r.line.places (encode r) ≡ r.values = fill_values r.line.places r.values x o.apart b.clear v.fits in
    let e3 : number_of (bit_and (encode r) (outside r.line.places)) r.line.words ≡ Some r.number =
    ap (λ (y : ℕ). number_of y r.line.words) e1 ∙ number_at r.line.places r.line.words r.number o.bases v.numbered in
    ap (where_it_holds r.line (encode r)) e3
    ∙ ap (λ (vs : List ℕ). cond (r.line.holds r.number vs) (Some (record { line = r.line; number = r.number; values = vs })) None) e2
    ∙ ap (λ (t : Bool). cond t (Some r) None) v.met

-- The row of a word encodes to the word.
pub encoded_of_row : {F : Type 0} (l : Line F) (w : ℕ) (r : Row F) → is_sound l ≡ true → w < 2 ^ 32 → row_in l w ≡ Some r → encode r ≡ w
encoded_of_row l w r s h e =
    let o = sound_line l s in
    let a = answer_of l w r e in
    ap encode a.is
    ∙ fill_own w l.places (get_or l.words r.number 0) o.apart
    ∙ ap (λ (x : ℕ). bit_or x (bit_and w (ones_in l.places))) (number_found (bit_and w (outside l.places)) l.words r.number a.found)
    ∙ sym (and_over_or w (outside l.places) (ones_in l.places))
    ∙ ap (bit_and w) o.whole ∙ and_mask w 32 ∙ mod-eq_of_lt h

-- ---- lines that share no word

-- a mask applied twice
twice : (w m n : ℕ) → bit_and (bit_and w m) (bit_and m n) ≡ bit_and w (bit_and m n)
twice w m n =
    and_assoc (bit_and m n) w m
    ∙ ap (bit_and w) (sym (and_assoc n m m) ∙ ap (λ (x : ℕ). bit_and x n) (and_self m))

-- a word that has the bits a of one mask and b of another: at the bits of both masks a and b are the same
agreed : (w m a n b : ℕ) → bit_and w m ≡ a → bit_and w n ≡ b → may_agree m a n b ≡ true
agreed w m a n b p q = eq-eqb _ _
    (ap (λ (x : ℕ). bit_and x (bit_and m n)) (sym p) ∙ twice w m n
    ∙ ap (bit_and w) (and_comm m n) ∙ sym (twice w n m)
    ∙ ap (λ (x : ℕ). bit_and x (bit_and n m)) q ∙ ap (bit_and b) (and_comm n m))

or_left : (a b : Bool) → a ≡ true → (a || b) ≡ true
or_left a b h = ap (λ (x : Bool). x || b) h

or_right : (a b : Bool) → b ≡ true → (a || b) ≡ true
or_right true b h = refl
or_right false b h = h

-- if the word outside of a line's fields is one of its words, then a word with the bits b of the mask n may be in the line
some_agrees : (w m : ℕ) (xs : List ℕ) (k n b : ℕ) → number_of (bit_and w m) xs ≡ Some k → bit_and w n ≡ b → any_agrees m xs n b ≡ true
some_agrees w m [] k n b f q = absurd (cc)
some_agrees w m (x ∷ xs) k n b f q = elim (eqb_tells (bit_and w m) x) [
  | inl e ↦ or_left (may_agree m x n b) (any_agrees m xs n b) (agreed w m x n b e.1 q)
  | inr e ↦ (let r = next_of (number_of (bit_and w m) xs) k (ap (λ (t : Bool). cond t (Some 0) (next (number_of (bit_and w m) xs))) (sym e.0) ∙ f) in
      or_right (may_agree m x n b) (any_agrees m xs n b) (some_agrees w m xs r.0 n b r.1 q))
]

none_from : {F : Type 0} (l : Line F) (w : ℕ) (o : Option (Row F)) → row_in l w ≡ o → ((r : Row F) → row_in l w ≡ Some r → ⊥) → row_in l w ≡ None
none_from l w None e h = e
none_from l w (Some r) e h = absurd (h r e)

-- A line that may not hold a word with these bits doesn't.
pub not_held : {F : Type 0} (l : Line F) (w n b : ℕ) → bit_and w n ≡ b → may_hold l n b ≡ false → row_in l w ≡ None
not_held l w n b q h = none_from l w (row_in l w) refl (λ r e.
    let a = answer_of l w r e in
    false≢true (sym h ∙ some_agrees w (outside l.places) l.words r.number n b a.found q))

selected_at : {F : Type 0} (n b : ℕ) (t : Bool) (l : Line F) (ls : List (Line F)) (w : ℕ) → bit_and w n ≡ b → may_hold l n b ≡ t → decode ls w ≡ decode (selected n b ls) w
    → or_else (row_in l w) (decode ls w) ≡ decode (cond t (l ∷ selected n b ls) (selected n b ls)) w
selected_at n b true l ls w q e i = ap (or_else (row_in l w)) i
selected_at {F} n b false l ls w q e i = ap (λ (o : Option (Row F)). or_else o (decode ls w)) (not_held l w n b q e) ∙ i

-- So a decoder that knows some bits of a word has only the lines left that may hold it.
pub narrow : {F : Type 0} (n b : ℕ) (ls : List (Line F)) (w : ℕ) → bit_and w n ≡ b → decode ls w ≡ decode (selected n b ls) w
narrow n b [] w q = refl
narrow n b (l ∷ ls) w q = selected_at n b (may_hold l n b) l ls w q refl (narrow n b ls w q)

-- the same where a field is known
pub narrow_field : {F : Type 0} (p : Place) (k : ℕ) (ls : List (Line F)) (w : ℕ) → IsTrue (nat_le p.low p.high) → field w p.low (width p) ≡ k
    → decode ls w ≡ decode (selected (ones_at p) (k * 2 ^ p.low) ls) w
narrow_field p k ls w h e = narrow (ones_at p) (k * 2 ^ p.low) ls w (taken w p (le_from p.low p.high h) ∙ ap (λ (x : ℕ). x * 2 ^ p.low) e)

-- ---- a table

-- A line of some lines.
pub data IsIn {F : Type 0} (l : Line F) : List (Line F) → Type 0 where
  here : {ls : List (Line F)} → IsIn l (l ∷ ls)
  later : {m : Line F} {ls : List (Line F)} → IsIn l ls → IsIn l (m ∷ ls)

some_shared : {F : Type 0} (w : ℕ) (l m : Line F) (xs : List ℕ) (j k : ℕ) → number_of (bit_and w (outside l.places)) l.words ≡ Some j → number_of (bit_and w (outside m.places)) xs ≡ Some k
    → any_shared l (outside m.places) xs ≡ true
some_shared w l m [] j k f g = absurd (cc)
some_shared w l m (x ∷ xs) j k f g = elim (eqb_tells (bit_and w (outside m.places)) x) [
  | inl e ↦ or_left (may_hold l (outside m.places) x) (any_shared l (outside m.places) xs) (some_agrees w (outside l.places) l.words j (outside m.places) x f e.1)
  | inr e ↦ (let r = next_of (number_of (bit_and w (outside m.places)) xs) k (ap (λ (t : Bool). cond t (Some 0) (next (number_of (bit_and w (outside m.places)) xs))) (sym e.0) ∙ g) in
      or_right (may_hold l (outside m.places) x) (any_shared l (outside m.places) xs) (some_shared w l m xs j r.0 f r.1))
]

-- a word that is in the second line isn't in the first
pub record Apart {F : Type 0} (l m : Line F) : Type 0 where
  pub none : (w : ℕ) (s : Row F) → row_in m w ≡ Some s → row_in l w ≡ None

-- The first line of some is apart from each of the others, and so on.
pub record AllApart {F : Type 0} (l : Line F) (ms : List (Line F)) : Type 0 where
  pub from : (m : Line F) → IsIn m ms → Apart l m

pub data Alone {F : Type 0} : List (Line F) → Type 0 where
  no_line : Alone []
  one_more : {l : Line F} {ls : List (Line F)} → AllApart l ls → Alone ls → Alone (l ∷ ls)

apart_lines : {F : Type 0} (w : ℕ) (l : Line F) (ms : List (Line F)) (m : Line F) (s : Row F) → is_alone l ms ≡ true → IsIn m ms → row_in m w ≡ Some s → row_in l w ≡ None
apart_lines w l [] m2 s a i e = elim i [ ]
apart_lines w l (m ∷ ms) m2 s a (here) e =
    let a2 = both (not (any_shared l (outside m.places) m.words)) (is_alone l ms) a in
    none_from l w (row_in l w) refl (λ r f.
    let x = answer_of l w r f in let y = answer_of m w s e in
    false≢true (sym (not_true _ (some_shared w l m m.words r.number s.number x.found y.found)) ∙ a2.0))
apart_lines w l (m ∷ ms) m2 s a (later i) e =
    let a2 = both (not (any_shared l (outside m.places) m.words)) (is_alone l ms) a in
    apart_lines w l ms m2 s a2.1 i e

-- by the computed test
pub all_apart : {F : Type 0} (l : Line F) (ms : List (Line F)) → is_alone l ms ≡ true → AllApart l ms
all_apart l ms a = record { from = λ m i. record { none = λ w s e. apart_lines w l ms m s a i e } }

pub alone_of : {F : Type 0} (ls : List (Line F)) → are_alone ls ≡ true → Alone ls
alone_of [] a = no_line
alone_of (l ∷ ls) a =
    let a2 = both (is_alone l ls) (are_alone ls) a in
    one_more (all_apart l ls a2.0) (alone_of ls a2.1)

-- by hand, of one line in front
apart_cons : {F : Type 0} (l m x : Line F) (ms : List (Line F)) → Apart l m → AllApart l ms → IsIn x (m ∷ ms) → Apart l x
apart_cons l m x ms p q (here) = p
apart_cons l m x ms p q (later i) = q.from x i

pub and_apart : {F : Type 0} (l m : Line F) (ms : List (Line F)) → Apart l m → AllApart l ms → AllApart l (m ∷ ms)
and_apart l m ms p q = record { from = λ x i. apart_cons l m x ms p q i }

-- Each word of a row decodes to that row, so no word is in two.
pub decode_row : {F : Type 0} (ls : List (Line F)) (l : Line F) (w : ℕ) (r : Row F) → Alone ls → IsIn l ls → row_in l w ≡ Some r → decode ls w ≡ Some r
decode_row [] l2 w r a i e = elim i [ ]
decode_row {F} (l ∷ ls) l2 w r a (here) e = ap (λ (o : Option (Row F)). or_else o (decode ls w)) e
decode_row {F} (m ∷ ls) l w r (one_more p q) (later i) e =
    ap (λ (o : Option (Row F)). or_else o (decode ls w)) ((p.from l i).none w r e) ∙ decode_row ls l w r q i e

-- ---- where a field is none of some numbers

among_at : (p : Place) (xs ks : List ℕ) (k : ℕ) (w : ℕ) → are_among p xs ks ≡ true → number_of w xs ≡ Some k → is_among (field w p.low (width p)) ks ≡ true
among_at p [] ks k w a f = absurd (cc)
among_at p (x ∷ xs) ks k w a f =
    let a2 = both (is_among (field x p.low (width p)) ks) (are_among p xs ks) a in
    elim (eqb_tells w x) [
      | inl e ↦ ap (λ (y : ℕ). is_among (field y p.low (width p)) ks) e.1 ∙ a2.0
      | inr e ↦ (let r = next_of (number_of w xs) k (ap (λ (t : Bool). cond t (Some 0) (next (number_of w xs))) (sym e.0) ∙ f) in among_at p xs ks r.0 w a2.1 r.1)
    ]

not_among : (v : ℕ) (ks : List ℕ) → IsNoneOf v ks → is_among v ks ≡ false
not_among v [] n = refl
not_among v (k ∷ ks) n = ap (λ (x : Bool). x || is_among v ks) (ne_eqb v k n.0) ∙ not_among v ks n.1

same_field : (w m : ℕ) (p : Place) → p.low ≤ p.high → bit_and m (ones_at p) ≡ ones_at p → field (bit_and w m) p.low (width p) ≡ field w p.low (width p)
same_field w m p h e = same_product _ _ p.low
    (sym (taken (bit_and w m) p h) ∙ and_assoc (ones_at p) w m ∙ ap (bit_and w) e ∙ taken w p h)

left_at : {F : Type 0} (p : Place) (ks : List ℕ) (t : Bool) (l : Line F) (ls : List (Line F)) (w : ℕ) → p.low ≤ p.high → IsNoneOf (field w p.low (width p)) ks
    → ((bit_and (outside l.places) (ones_at p) == ones_at p) && are_among p l.words ks) ≡ t → decode ls w ≡ decode (left_over p ks ls) w
    → or_else (row_in l w) (decode ls w) ≡ decode (cond t (left_over p ks ls) (l ∷ left_over p ks ls)) w
left_at p ks false l ls w h n e i = ap (or_else (row_in l w)) i
left_at {F} p ks true l ls w h n e i =
    let e2 = both (bit_and (outside l.places) (ones_at p) == ones_at p) (are_among p l.words ks) e in
    let gone : row_in l w ≡ None = none_from l w (row_in l w) refl (λ r f.
    let a = answer_of l w r f in
    false≢true (sym (not_among (field w p.low (width p)) ks n)
    ∙ ap (λ (v : ℕ). is_among v ks) (sym (same_field w (outside l.places) p h (eqb-true _ _ e2.0)))
    ∙ among_at p l.words ks r.number (bit_and w (outside l.places)) e2.1 a.found)) in
    ap (λ (o : Option (Row F)). or_else o (decode ls w)) gone ∙ i

pub narrow_others : {F : Type 0} (p : Place) (ks : List ℕ) (ls : List (Line F)) (w : ℕ) → IsTrue (nat_le p.low p.high) → IsNoneOf (field w p.low (width p)) ks
    → decode ls w ≡ decode (left_over p ks ls) w
narrow_others p ks [] w h n = refl
narrow_others p ks (l ∷ ls) w h n = left_at p ks _ l ls w (le_from p.low p.high h) n refl (narrow_others p ks ls w h n)

-- Two lines that differ by a condition alone, of which the first has one base word.
pub apart_by : {F : Type 0} (l m : Line F) (x : ℕ) → l.words ≡ x ∷ [] → ((k w : ℕ) → m.holds k (values m.places w) ≡ true → bit_and w (outside l.places) ≡ x → ⊥) → Apart l m
apart_by l m x e h = record {
  none = λ w s f. none_from l w (row_in l w) refl (λ r g.
      let a = answer_of m w s f in
      let b = answer_of l w r g in
      h s.number w a.held (one_word (bit_and w (outside l.places)) x r.number (subst (λ (xs : List ℕ). number_of (bit_and w (outside l.places)) xs ≡ Some r.number) e b.found)));
}

-- what the fixed bits of a word say of a field
pub fixed_field : (w m x : ℕ) (p : Place) → IsTrue (nat_le p.low p.high) → bit_and w m ≡ x → bit_and m (ones_at p) ≡ ones_at p → field w p.low (width p) ≡ field x p.low (width p)
fixed_field w m x p h e c = sym (same_field w m p (le_from p.low p.high h) c) ∙ ap (λ (y : ℕ). field y p.low (width p)) e

-- by the computed test, of one line in front
pub test_apart : {F : Type 0} (l m : Line F) (ms : List (Line F)) → is_alone l (m ∷ []) ≡ true → AllApart l ms → AllApart l (m ∷ ms)
test_apart l m ms t a = and_apart l m ms ((all_apart l (m ∷ []) t).from m here) a

pub or_none : {F : Type 0} (o : Option (Row F)) → or_else o None ≡ o
or_none None = refl
or_none (Some r) = refl

-- ---- a whole table

in_at : {F : Type 0} (ls : List (Line F)) (k : ℕ) (l : Line F) → line_at ls k ≡ Some l → IsIn l ls
in_at [] k l e = absurd (cc)
in_at {F} (m ∷ ls) zero l e = let q : m ≡ l = cc in subst (λ (x : Line F). IsIn x (m ∷ ls)) q here
in_at (m ∷ ls) (suc k) l e = later (in_at ls k l e)

sound_at : {F : Type 0} (ls : List (Line F)) (l : Line F) → are_sound ls ≡ true → IsIn l ls → is_sound l ≡ true
sound_at [] l s i = elim i [ ]
sound_at (m ∷ ls) l s (here) = (both (is_sound m) (are_sound ls) s).0
sound_at (m ∷ ls) l s (later i) = sound_at ls l (both (is_sound m) (are_sound ls) s).1 i

-- What an instruction encodes to decodes to it.
pub decode_encoded : {F : Type 0} (ls : List (Line F)) (k : ℕ) (r : Row F) → are_sound ls ≡ true → Alone ls → line_at ls k ≡ Some r.line → IsRow r
    → decode ls (encode r) ≡ Some r
decode_encoded ls k r s a e v =
    let i = in_at ls k r.line e in
    decode_row ls r.line (encode r) r a i (row_of_encoded r (sound_at ls r.line s i) v)

or_else_some : {F : Type 0} (x y : Option (Row F)) (r : Row F) → or_else x y ≡ Some r → (x ≡ Some r) ⊎ (y ≡ Some r)
or_else_some None y r e = inr e
or_else_some (Some q) y r e = inl e

-- What a word decodes to encodes to it.
pub encode_decoded : {F : Type 0} (ls : List (Line F)) (w : ℕ) (r : Row F) → are_sound ls ≡ true → w < 2 ^ 32 → decode ls w ≡ Some r → encode r ≡ w
encode_decoded [] w r s h e = absurd (cc)
encode_decoded (l ∷ ls) w r s h e =
    let s2 = both (is_sound l) (are_sound ls) s in
    elim (or_else_some (row_in l w) (decode ls w) r e) [
      | inl f ↦ encoded_of_row l w r s2.0 h f
      | inr f ↦ encode_decoded ls w r s2.1 h f
    ]

pub one_row_of : {F : Type 0} (ls : List (Line F)) → Alone ls → OneRow ls
one_row_of ls a = record { at = λ k l w r e f. decode_row ls l w r a (in_at ls k l e) f }
