-- The law of a table: the text of a word of a line is read as the word, and aimed at its target again.
use Rattle.std.proofs.Common.{◌≡◌, ℕ, zero, suc, ◌^◌, ◌<◌, ◌&&◌, if◌then◌else◌, Bool, true, false, Some, Result, Ok, Err, List, [], ◌∷◌, ◌++◌, get_or, refl, sym, ap, ◌∙◌, inl, inr}
use Rattle.std.proofs.lemmas.Bool.{cases_Bool, and_parts, and_from, false≢true}
use Rattle.asm_tokens.specs.Tokens.{tokens}
use Rattle.text_model.specs.declared.slots.Kind.{Kind}
use Rattle.text_model.specs.declared.slots.Kind.TheVariants.{Bitmask, Inverted}
use Rattle.text_model.specs.declared.slots.Slot.{Slot}
use Rattle.text_model.specs.declared.slots.Refusal.{Refusal}
use Rattle.text_model.specs.Slots.{places, joined}
use Rattle.text_model.specs.Reading.{Pattern, Read, Operands, answer, best, reads, is_canonical, all_canonical}
use Rattle.text_model.specs.Statement.{Statement, with_target, lowered, operands_of}
use Rattle.text_model.specs.ReadBack.{reads_first, reads_text, destination_of, unaimed, target_of}
use Rattle.text_model.specs.Text.{shows, chosen, text}
use Rattle.text_model.specs.Aim.{reach_of, aimed}
use Rattle.text_model.specs.Writing.{flat}
use Rattle.text_model.proofs.Tests.{is_good_reach, all_reach_well}
use Rattle.text_model.proofs.Again.{pattern_at}
use Rattle.text_model.proofs.Texts.{AreLegible, read_of, text_again}
use Rattle.text_model.proofs.Aiming.{aimed_again}

-- ---- the pattern that shows a word

some_is : (p q : Pattern) → Some p ≡ Some q → p ≡ q
some_is p q h = cc

-- where it stands, and that it shows the word
pub record IsChosen (ps : List Pattern) (w : ℕ) (p : Pattern) : Type 0 where
  pub place : ℕ
  pub stands : pattern_at ps place ≡ Some p
  pub shows : shows p w ≡ true

pub chosen_is : (ps : List Pattern) (w : ℕ) (p : Pattern) → chosen ps w ≡ Some p → IsChosen ps w p
chosen_is [] w p h = absurd (cc)
chosen_is (q ∷ qs) w p h = elim (cases_Bool (shows q w)) [
  | inl e ↦ (let s : q ≡ p = some_is q p (sym (ap (λ (b : Bool). if b then Some q else chosen qs w) e) ∙ h) in
      record { place = 0; stands = ap (λ (x : Pattern). Some x) s; shows = ap (λ (x : Pattern). shows x w) (sym s) ∙ e })
  | inr e ↦ (let r = chosen_is qs w p (sym (ap (λ (b : Bool). if b then Some q else chosen qs w) e) ∙ h) in
      record { place = suc r.place; stands = r.stands; shows = r.shows })
]

behind : (ps qs : List Pattern) (n : ℕ) (p : Pattern) → pattern_at qs n ≡ Some p → (m : ℕ) × (pattern_at (ps ++ qs) m ≡ Some p)
behind [] qs n p h = (n, h)
behind (r ∷ rs) qs n p h = let m = behind rs qs n p h in (suc m.0, m.1)

before : (ps qs : List Pattern) (n : ℕ) (p : Pattern) → pattern_at ps n ≡ Some p → pattern_at (ps ++ qs) n ≡ Some p
before [] qs n p h = absurd (cc)
before (r ∷ rs) qs zero p h = h
before (r ∷ rs) qs (suc n) p h = before rs qs n p h

pub in_table_of : (pss : List (List Pattern)) (j n : ℕ) (p : Pattern) → pattern_at (get_or pss j []) n ≡ Some p → (m : ℕ) × (pattern_at (flat pss) m ≡ Some p)
in_table_of [] j n p h = absurd (cc)
in_table_of (ps ∷ pss) zero n p h = (n, before ps (flat pss) n p h)
in_table_of (ps ∷ pss) (suc j) n p h = let m = in_table_of pss j n p h in behind ps (flat pss) m.0 p m.1

-- ---- further patterns behind

found_by : (x y z : Result Read Refusal) (r : Read) → best x y ≡ Ok r → (y ≡ Ok r → z ≡ Ok r) → best x z ≡ Ok r
found_by (Ok a) y z r h k = h
found_by (Err e) (Ok b) z r h k = ap (best (Err e)) (k h)
found_by (Err e) (Err f) z r h k = absurd (cc)

found_before : (in_table : ℕ → Bool) (ps qs : List Pattern) (name : List ℕ) (o : Operands) (r : Read) → reads in_table ps name o ≡ Ok r → reads in_table (ps ++ qs) name o ≡ Ok r
found_before in_table [] qs name o r h = absurd (cc)
found_before in_table (p ∷ ps) qs name o r h = found_by (answer in_table p name o) (reads in_table ps name o) (reads in_table (ps ++ qs) name o) r h (found_before in_table ps qs name o r)

read_before : (in_table : ℕ → Bool) (ps qs : List Pattern) (name : List ℕ) (o : Operands) (ts : List (List ℕ)) (s : Statement) (x : Result Read Refusal) → reads in_table ps name o ≡ x
    → with_target ts x ≡ Ok s → with_target ts (reads in_table (ps ++ qs) name o) ≡ Ok s
read_before in_table ps qs name o ts s (Ok r) e h = ap (with_target ts) (found_before in_table ps qs name o r e) ∙ h
read_before in_table ps qs name o ts s (Err f) e h = absurd (cc)

pub text_before : (in_table : ℕ → Bool) (ps qs : List Pattern) (ts : List (List ℕ)) (s : Statement) → reads_first in_table ps ts ≡ Ok s → reads_first in_table (ps ++ qs) ts ≡ Ok s
text_before in_table ps qs [] s h = absurd (cc)
text_before in_table ps qs (name ∷ ts) s h = read_before in_table ps qs (lowered name) (operands_of ts) ts s (reads in_table ps (lowered name) (operands_of ts)) refl h

-- ---- patterns without a bitmask or an inverted condition

abbrev pub is_plain_kind : Kind → Bool
is_plain_kind (Bitmask w) = false
is_plain_kind Inverted = false
is_plain_kind k = true

abbrev pub are_plain : List Slot → Bool
are_plain [] = true
are_plain (s ∷ ss) = is_plain_kind s.codec.kind && are_plain ss

abbrev pub all_plain : List Pattern → Bool
all_plain [] = true
all_plain (p ∷ ps) = are_plain p.slots && all_plain ps

plain_kind : (k : Kind) (v : ℕ) → is_plain_kind k ≡ true → is_canonical k v ≡ true
plain_kind (Bitmask w) v h = absurd (false≢true h)
plain_kind Inverted v h = absurd (false≢true h)
plain_kind k v h = refl

pub plain_canonical : (ss : List Slot) (w : ℕ) → are_plain ss ≡ true → all_canonical ss w ≡ true
plain_canonical [] w h = refl
plain_canonical (s ∷ ss) w h =
    let h2 = and_parts (is_plain_kind s.codec.kind) (are_plain ss) h in
    and_from _ _ (plain_kind s.codec.kind (joined (places s.codec.parts) w) h2.0) (plain_canonical ss w h2.1)

pub plain_at : (ps : List Pattern) (n : ℕ) (p : Pattern) → all_plain ps ≡ true → pattern_at ps n ≡ Some p → are_plain p.slots ≡ true
plain_at [] n p h e = absurd (cc)
plain_at (q ∷ qs) zero p h e = ap (λ (x : Pattern). are_plain x.slots) (sym (some_is q p e)) ∙ (and_parts (are_plain q.slots) (all_plain qs) h).0
plain_at (q ∷ qs) (suc n) p h e = plain_at qs n p (and_parts (are_plain q.slots) (all_plain qs) h).1 e

-- ---- the law

good_reach_at : (ps : List Pattern) (n : ℕ) (p : Pattern) → all_reach_well ps ≡ true → pattern_at ps n ≡ Some p → is_good_reach (reach_of p.slots) ≡ true
good_reach_at [] n p h e = absurd (cc)
good_reach_at (q ∷ qs) zero p h e = ap (λ (x : Pattern). is_good_reach (reach_of x.slots)) (sym (some_is q p e)) ∙ (and_parts (is_good_reach (reach_of q.slots)) (all_reach_well qs) h).0
good_reach_at (q ∷ qs) (suc n) p h e = good_reach_at qs n p (and_parts (is_good_reach (reach_of q.slots)) (all_reach_well qs) h).1 e

-- What the tests say of a table's patterns.
pub record IsLegible (pss : List (List Pattern)) : Type 0 where
  pub legible : AreLegible (flat pss)
  pub reach : all_reach_well (flat pss) ≡ true

-- The text of a word that a pattern of a line shows, read by all patterns and others behind them; and the word aimed again.
pub record IsReadAgain (in_table : ℕ → Bool) (ps : List Pattern) (p : Pattern) (w pc : ℕ) : Type 0 where
  pub read : reads_text in_table ps (text p w pc) ≡ Ok (record { word = unaimed p.slots w; target = destination_of (target_of p.slots w pc) })
  pub aimed : (a : ℕ) → target_of p.slots w pc ≡ Some a → aimed (reach_of p.slots) (unaimed p.slots w) pc a ≡ Some w

pub table_law : (in_table : ℕ → Bool) (pss : List (List Pattern)) (others : List Pattern) (j : ℕ) (p : Pattern) (w pc : ℕ) → IsLegible pss → chosen (get_or pss j []) w ≡ Some p
    → w < 2 ^ 32 → pc < 2 ^ 64 → all_canonical p.slots w ≡ true → in_table (unaimed p.slots w) ≡ true → IsReadAgain in_table (flat pss ++ others) p w pc
table_law in_table pss others j p w pc l c h k n t =
    let i = chosen_is (get_or pss j []) w p c in
    let m = in_table_of pss j i.place p i.stands in
    record {
      read = text_before in_table (flat pss) others (tokens (text p w pc)) (read_of p w pc)
          (text_again in_table (flat pss) m.0 p w pc l.legible m.1 (record { word = h; shows = i.shows; canonical = n; held = t }));
      aimed = λ (a : ℕ) (e : target_of p.slots w pc ≡ Some a). aimed_again (reach_of p.slots) w pc a (good_reach_at (flat pss) m.0 p l.reach m.1) h k e;
    }
