-- What is computed over a table, for the laws of its rows.
use Rattle.std.proofs.Common.{◌≡◌, ℕ, ◌-◌, ◌^◌, ◌==◌, ◌&&◌, ◌||◌, Bool, true, false, cond, not, List, [], ◌∷◌, bit_and, bit_or, nat_le}
use Rattle.emu_bits.specs.Fields.{field}
use Rattle.emu_bits.specs.Rows.{Place, width, ones_at, ones_in, outside, Line, is_among}

-- ---- places and base words

-- a word has none of the bits of some places
abbrev pub is_clear : ℕ → List Place → Bool
is_clear m [] = true
is_clear m (p ∷ ps) = (bit_and (ones_at p) m == 0) && is_clear m ps

-- no two places overlap
abbrev pub are_apart : List Place → Bool
are_apart [] = true
are_apart (p ∷ ps) = nat_le p.low p.high && (is_clear (ones_at p) ps && are_apart ps)

-- a word that is none of some
abbrev pub is_new : ℕ → List ℕ → Bool
is_new x [] = true
is_new x (y ∷ ys) = not (x == y) && is_new x ys

-- base words with all fields 0, each standing once
abbrev pub are_bases : List Place → List ℕ → Bool
are_bases ps [] = true
are_bases ps (x ∷ xs) = (bit_and x (outside ps) == x) && (is_clear x ps && (is_new x xs && are_bases ps xs))

abbrev pub is_sound : {F : Type 0} → Line F → Bool
is_sound l = are_apart l.places && (is_clear (outside l.places) l.places && ((bit_or (outside l.places) (ones_in l.places) == 2 ^ 32 - 1) && are_bases l.places l.words))

-- ---- lines of which no word is in two

-- words that have some bits of a mask may have others of another mask: none does where the two differ at a bit of both
abbrev pub may_agree : ℕ → ℕ → ℕ → ℕ → Bool
may_agree m a n b = bit_and a (bit_and m n) == bit_and b (bit_and m n)

abbrev pub any_agrees : ℕ → List ℕ → ℕ → ℕ → Bool
any_agrees m [] n b = false
any_agrees m (a ∷ xs) n b = may_agree m a n b || any_agrees m xs n b

-- a word that has the bits b of the mask n may be in a line
abbrev pub may_hold : {F : Type 0} → Line F → ℕ → ℕ → Bool
may_hold l n b = any_agrees (outside l.places) l.words n b

abbrev pub any_shared : {F : Type 0} → Line F → ℕ → List ℕ → Bool
any_shared l n [] = false
any_shared l n (b ∷ bs) = may_hold l n b || any_shared l n bs

-- a line shares no word with any of some, by the bits that are outside of the fields
abbrev pub is_alone : {F : Type 0} → Line F → List (Line F) → Bool
is_alone l [] = true
is_alone l (m ∷ ms) = not (any_shared l (outside m.places) m.words) && is_alone l ms

abbrev pub are_alone : {F : Type 0} → List (Line F) → Bool
are_alone [] = true
are_alone (l ∷ ls) = is_alone l ls && are_alone ls

abbrev pub are_sound : {F : Type 0} → List (Line F) → Bool
are_sound [] = true
are_sound (l ∷ ls) = is_sound l && are_sound ls

-- the lines that may hold a word with the bits b of the mask n
abbrev pub selected : {F : Type 0} → ℕ → ℕ → List (Line F) → List (Line F)
selected n b [] = []
selected n b (l ∷ ls) = cond (may_hold l n b) (l ∷ selected n b ls) (selected n b ls)

abbrev pub are_among : Place → List ℕ → List ℕ → Bool
are_among p [] ks = true
are_among p (x ∷ xs) ks = is_among (field x p.low (width p)) ks && are_among p xs ks

-- the lines that may hold a word in which the field at this place is none of these numbers
abbrev pub left_over : {F : Type 0} → Place → List ℕ → List (Line F) → List (Line F)
left_over p ks [] = []
left_over p ks (l ∷ ls) = cond ((bit_and (outside l.places) (ones_at p) == ones_at p) && are_among p l.words ks) (left_over p ks ls) (l ∷ left_over p ks ls)

-- a number is none of some
abbrev pub IsNoneOf : ℕ → List ℕ → Type 0
IsNoneOf v [] = Unit {0}
IsNoneOf v (k ∷ ks) = (v ≡ k → ⊥) × IsNoneOf v ks
