-- Each word of a class is spelled by a token that is read as it, computed over all classes.
use Rattle.std.proofs.Common.{◌≡◌, ℕ, ◌<◌, ℤ, pos, int_eq, arith, ◌==◌, ◌&&◌, ◌||◌, if◌then◌else◌, Bool, true, false, not, Option, Some, None, List, [], ◌∷◌, get_or, refl, sym, ap, ap₂, ◌∙◌, inl, inr, ◌⊎◌}
use Rattle.std.proofs.lemmas.Bool.{and_parts, or_cases, not-true, eqb-true, false≢true}
use Rattle.std.proofs.lemmas.Int.{ints}
use Rattle.std.specs.Prelude.{option_map}
use Rattle.emu_bits.proofs.AllBelow.{all_below, each_below}
use Rattle.asm_tokens.specs.Layout.{is_sign, hash}
use Rattle.asm_tokens.specs.AreTokens.{is_token}
use Rattle.asm_tokens.specs.Numbers as numbers
use Rattle.asm_tokens.specs.Numbers.{minus, numeral}
use Rattle.text_model.specs.declared.classes.Class.{Class}
use Rattle.text_model.specs.declared.classes.Class.TheVariants.{Unknown, Number, Comma, Slash, OpenBracket, CloseBracket, OpenBrace, CloseBrace, Exclamation, W, X, B, H, S, D, Q, V8b, V16b, V4h, V8h, V2s, V4s, V2d, Z, Zb, Zh, Zs, Zd, Zq, P, Pb, Ph, Ps, Pd, Shift, ShiftOnes, ExtendByte, ExtendHalfword, ExtendWord, ExtendDoubleword, Condition, Count, Times, VectorLength, Merging, Zeroing, TpidrEl0, Nzcv, DczidEl0}
use Rattle.text_model.specs.ClassNumbers.{class_number}
use Rattle.text_model.specs.Slots.{is_named}
use Rattle.text_model.specs.declared.slots.Item.{Item}
use Rattle.text_model.specs.Words.{dictionary, item, word_item, spelled, classed}
use Rattle.text_model.specs.Statement.{lowered, item_by, more_tokens, items_from}

-- how many words a class has
abbrev pub size_of : Class → ℕ
size_of Unknown = 0
size_of Number = 0
size_of Comma = 1
size_of Slash = 1
size_of OpenBracket = 1
size_of CloseBracket = 1
size_of OpenBrace = 1
size_of CloseBrace = 1
size_of Exclamation = 1
size_of W = 33
size_of X = 33
size_of B = 32
size_of H = 32
size_of S = 32
size_of D = 32
size_of Q = 32
size_of V8b = 32
size_of V16b = 32
size_of V4h = 32
size_of V8h = 32
size_of V2s = 32
size_of V4s = 32
size_of V2d = 32
size_of Z = 32
size_of Zb = 32
size_of Zh = 32
size_of Zs = 32
size_of Zd = 32
size_of Zq = 32
size_of P = 16
size_of Pb = 16
size_of Ph = 16
size_of Ps = 16
size_of Pd = 16
size_of Shift = 4
size_of ShiftOnes = 1
size_of ExtendByte = 2
size_of ExtendHalfword = 2
size_of ExtendWord = 2
size_of ExtendDoubleword = 2
size_of Condition = 16
size_of Count = 32
size_of Times = 1
size_of VectorLength = 1
size_of Merging = 1
size_of Zeroing = 1
size_of TpidrEl0 = 1
size_of Nzcv = 1
size_of DczidEl0 = 1

abbrev is_no_number : Option ℕ → Bool
is_no_number None = true
is_no_number (Some n) = false

-- A class and a value are spelled by a token that is read as them, and is no number and none of its signs.
is_spelled : Class → ℕ → Bool
is_spelled c v =
    let t = spelled c v in
    let i = classed (lowered t) in
    (class_number i.class == class_number c && int_eq i.value (pos v)) && (is_no_number (numeral t) && (not (is_sign hash t) && (not (is_sign minus t) && is_token t)))

-- counts that have no name have no word
is_word_of : Class → ℕ → Bool
is_word_of Count v = not (is_named v) || is_spelled Count v
is_word_of c v = is_spelled c v

all_spelled : (c : Class) → all_below (size_of c) (is_word_of c) ≡ true
unfolding dictionary is_spelled is_word_of
all_spelled Unknown = refl
all_spelled c = refl

-- ---- classes by their numbers

all_classes : List Class
all_classes = Unknown ∷ Number ∷ Comma ∷ Slash ∷ OpenBracket ∷ CloseBracket ∷ OpenBrace ∷ CloseBrace ∷ Exclamation ∷ W ∷ X ∷ B ∷ H ∷ S ∷ D ∷ Q ∷ V8b ∷ V16b ∷ V4h ∷ V8h ∷ V2s ∷ V4s ∷ V2d ∷ Z ∷ Zb ∷ Zh ∷ Zs ∷ Zd ∷ Zq ∷ P ∷ Pb ∷ Ph ∷ Ps ∷ Pd ∷ Shift ∷ ShiftOnes ∷ ExtendByte ∷ ExtendHalfword ∷ ExtendWord ∷ ExtendDoubleword ∷ Condition ∷ Count ∷ Times ∷ VectorLength ∷ Merging ∷ Zeroing ∷ TpidrEl0 ∷ Nzcv ∷ DczidEl0 ∷ []

class_back : (c : Class) → get_or all_classes (class_number c) Unknown ≡ c
unfolding all_classes
class_back Unknown = refl
class_back c = refl

pub same_number : (c d : Class) → class_number c ≡ class_number d → c ≡ d
same_number c d h = sym (class_back c) ∙ ap (λ (n : ℕ). get_or all_classes n Unknown) h ∙ class_back d

-- ---- integers

pub same_integer : (x y : ℤ) → int_eq x y ≡ true → x ≡ y
same_integer x y h = grind (arith, ints)

-- ---- a word as an item

-- A token that is read as a class and a value.
pub record IsWord (t : List ℕ) (c : Class) (v : ℕ) : Type 0 where
  pub is : classed (lowered t) ≡ word_item c v
  pub no_number : numeral t ≡ None
  pub no_hash : is_sign hash t ≡ false
  pub no_minus : is_sign minus t ≡ false
  pub token : is_token t ≡ true

none_of : (o : Option ℕ) → is_no_number o ≡ true → o ≡ None
none_of None h = refl
none_of (Some n) h = absurd (false≢true h)

word_of : (c : Class) (v : ℕ) → is_spelled c v ≡ true → IsWord (spelled c v) c v
unfolding is_spelled
word_of c v h =
    let t : List ℕ = spelled c v in
    let i : Item = classed (lowered t) in
    let h1 = and_parts (class_number i.class == class_number c && int_eq i.value (pos v)) _ h in
    let h2 = and_parts (class_number i.class == class_number c) (int_eq i.value (pos v)) h1.0 in
    let h3 = and_parts (is_no_number (numeral t)) _ h1.1 in
    let h4 = and_parts (not (is_sign hash t)) _ h3.1 in
    let h5 = and_parts (not (is_sign minus t)) (is_token t) h4.1 in
    record {
      is = ap₂ (λ (d : Class) (x : ℤ). item d x) (same_number i.class c (eqb-true _ _ h2.0)) (same_integer _ _ h2.1);
      no_number = none_of _ h3.0;
      no_hash = not-true _ h4.0;
      no_minus = not-true _ h5.0;
      token = h5.1;
    }

one_spelled : (c : Class) (v : ℕ) → (class_number c == class_number Count) ≡ false ⊎ (is_named v ≡ true) → is_word_of c v ≡ true → is_spelled c v ≡ true
unfolding is_word_of
one_spelled Count v (inl e) h = absurd (false≢true (sym e))
one_spelled Count v (inr e) h = elim (or_cases (not (is_named v)) (is_spelled Count v) h) [
  | inl k ↦ absurd (false≢true (sym (ap not e) ∙ k))
  | inr k ↦ k
]
one_spelled c v n h = h

-- a word of a class, but of the counts those without a name
pub spelled_is : (c : Class) (v : ℕ) → v < size_of c → (class_number c == class_number Count) ≡ false ⊎ (is_named v ≡ true) → IsWord (spelled c v) c v
spelled_is c v h n = word_of c v (one_spelled c v n (each_below (size_of c) (is_word_of c) v (all_spelled c) h))

pub word_items : (t : List ℕ) (c : Class) (v : ℕ) (ts : List (List ℕ)) → IsWord t c v → items_from 0 (t ∷ ts) ≡ word_item c v ∷ items_from 0 ts
word_items t c v ts w =
    ap (λ (o : Option numbers.Number). item_by o t ∷ items_from (more_tokens o) ts)
    (ap (λ (b : Bool). if b then option_map numbers.behind_hash (numbers.signed_number ts) else numbers.signed_number (t ∷ ts)) w.no_hash
    ∙ ap (λ (b : Bool). if b then option_map numbers.behind_minus (numbers.unsigned_number ts) else numbers.unsigned_number (t ∷ ts)) w.no_minus
    ∙ ap (λ (o : Option ℕ). option_map numbers.plain_number o) w.no_number)
    ∙ ap (λ (i : Item). i ∷ items_from 0 ts) w.is
