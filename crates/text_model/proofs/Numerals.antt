-- Numbers as tokens, and the items that they are read as.
use Rattle.std.proofs.Common.{◌≡◌, ℕ, ◌-◌, ◌^◌, ◌<◌, ◌≤◌, pos, neg_ℤ, ◌==◌, ◌&&◌, if◌then◌else◌, Bool, true, false, Option, Some, None, List, [], ◌∷◌, length, drop, min, refl, ap, ◌∙◌, arith}
use Rattle.std.proofs.lemmas.Bool.{and_parts, and_from, and_right, and_left, ne_eqb, lt-ltb}
use Rattle.std.proofs.lemmas.Fmt.{digits_is_IsNumeral}
use Rattle.std.specs.Prelude.{option_map}
use Rattle.std.specs.Fmt.{decimal, digits}
use Rattle.std.specs.Char.{digit_value, is_digit, to_ascii_lowercase}
use Rattle.std.specs.List.{list_all}
use Rattle.std.specs.Str.Parse.{digits_value, IsNumeral, AllDigits}
use Rattle.asm_tokens.specs.Tokens.{is_word_byte}
use Rattle.asm_tokens.specs.Layout.{is_sign, is_empty, hash}
use Rattle.asm_tokens.specs.AreTokens.{is_token, is_mark}
use Rattle.asm_tokens.specs.Numbers as numbers
use Rattle.text_model.specs.declared.classes.Class.TheVariants.{Number}
use Rattle.text_model.specs.Words.{item}
use Rattle.text_model.specs.Statement.{item_by, more_tokens, items_from}
use Rattle.text_model.specs.Text.{hexadecimal}

-- A token that is a number.
pub record IsNumber (t : List ℕ) (n : ℕ) : Type 0 where
  pub token : is_token t ≡ true
  pub number : numbers.numeral t ≡ Some n
  pub no_hash : is_sign hash t ≡ false
  pub no_minus : is_sign numbers.minus t ≡ false

digit_is_word : (c b : ℕ) → b ≤ 16 → digit_value c < b → is_word_byte c ≡ true
digit_is_word c b h k = grind arith

are_words : (b : ℕ) (ds : List ℕ) → b ≤ 16 → AllDigits b ds → list_all is_word_byte ds ≡ true
are_words b [] k h = refl
are_words b (c ∷ cs) k h = and_from _ _ (digit_is_word c b k h.0) (are_words b cs k h.1)

are_digits : (b : ℕ) (ds : List ℕ) → AllDigits b ds → list_all (λ d. is_digit d b) ds ≡ true
are_digits b [] h = refl
are_digits b (c ∷ cs) h = and_from _ _ (lt-ltb _ _ h.0) (are_digits b cs h.1)

digits_are : (b : ℕ) (ds : List ℕ) (n : ℕ) → IsNumeral b ds → digits_value b ds ≡ n → numbers.digits_in b ds ≡ Some n
digits_are b [] n h e = absurd (let l : 0 < 0 = h.0 in omega (arith, l))
digits_are b (c ∷ cs) n h e = ap (λ (t : Bool). if t then Some (digits_value b (c ∷ cs)) else None) (are_digits b (c ∷ cs) h.1) ∙ ap (λ (x : ℕ). Some x) e

-- a mark that is no digit
no_sign : (k b : ℕ) (ds : List ℕ) → b ≤ 16 → 16 ≤ digit_value k → IsNumeral b ds → is_sign k ds ≡ false
no_sign k b [] l m h = absurd (let z : 0 < 0 = h.0 in omega (arith, z))
no_sign k b (c ∷ cs) l m h =
    let d : digit_value c < b = h.1.0 in
    and_left _ _ (ne_eqb c k (λ x. let y : digit_value c ≡ digit_value k = ap digit_value x in omega (arith, d, y)))

no_x : (d : ℕ) → digit_value d < 10 → (to_ascii_lowercase d == 120) ≡ false
no_x d h = grind arith

not_hexadecimal : (ds : List ℕ) → IsNumeral 10 ds → numbers.is_hexadecimal ds ≡ false
not_hexadecimal [] h = refl
not_hexadecimal (c ∷ []) h = refl
not_hexadecimal (c ∷ d ∷ cs) h = and_right _ _ (no_x d h.1.1.0)

word_token : (ds : List ℕ) → 0 < length ds → list_all is_word_byte ds ≡ true → is_token ds ≡ true
word_token [] l h = absurd (omega arith)
word_token (c ∷ cs) l h =
    let h2 = and_parts (is_word_byte c) (list_all is_word_byte cs) h in
    ap (λ (b : Bool). if b then list_all is_word_byte cs else is_mark c && is_empty cs) h2.0 ∙ h2.1

decimal_number : (ds : List ℕ) (n : ℕ) → IsNumeral 10 ds × (digits_value 10 ds ≡ n) → IsNumber ds n
decimal_number ds n h = record {
  token = word_token ds h.0.0 (are_words 10 ds (omega arith) h.0.1);
  number = ap (λ (b : Bool). if b then numbers.digits_in 16 (drop 2 ds) else numbers.digits_in 10 ds) (not_hexadecimal ds h.0) ∙ digits_are 10 ds n h.0 h.1;
  no_hash = no_sign 35 10 ds (omega arith) (omega arith) h.0;
  no_minus = no_sign 45 10 ds (omega arith) (omega arith) h.0;
}

hexadecimal_number : (ds : List ℕ) (n : ℕ) → IsNumeral 16 ds × (digits_value 16 ds ≡ n) → IsNumber (48 ∷ 120 ∷ ds) n
hexadecimal_number ds n h = record {
  token = are_words 16 ds (omega arith) h.0.1;
  number = digits_are 16 ds n h.0 h.1;
  no_hash = refl;
  no_minus = refl;
}

pub decimal_is : (n : ℕ) → n < 2 ^ 64 → IsNumber (decimal n) n
decimal_is n h = decimal_number (digits 10 false n) n (digits_is_IsNumeral 10 false (omega arith) (omega arith) n (omega arith))

pub hexadecimal_is : (n : ℕ) → n < 2 ^ 64 → IsNumber (hexadecimal n) n
hexadecimal_is n h = hexadecimal_number (digits 16 false n) n (digits_is_IsNumeral 16 false (omega arith) (omega arith) n (omega arith))

-- ---- items

small : (n : ℕ) → n < 2 ^ 64 → min n (2 ^ 127 - 1) ≡ n
small n h = omega arith

module _ (t : List ℕ) (n : ℕ) (ts : List (List ℕ)) (h : n < 2 ^ 64) (s : IsNumber t n) where
  unsigned_is : numbers.signed_number (t ∷ ts) ≡ Some (numbers.plain_number n)
  unsigned_is =
      ap (λ (b : Bool). if b then option_map numbers.behind_minus (numbers.unsigned_number ts) else numbers.unsigned_number (t ∷ ts)) s.no_minus
      ∙ ap (λ (o : Option ℕ). option_map numbers.plain_number o) s.number

  pub bare_items : items_from 0 (t ∷ ts) ≡ item Number (pos n) ∷ items_from 0 ts
  bare_items =
      ap (λ (o : Option numbers.Number). item_by o t ∷ items_from (more_tokens o) ts)
      (ap (λ (b : Bool). if b then option_map numbers.behind_hash (numbers.signed_number ts) else numbers.signed_number (t ∷ ts)) s.no_hash ∙ unsigned_is)
      ∙ ap (λ (x : ℕ). item Number (pos x) ∷ items_from 0 ts) (small n h)

  pub hash_items : items_from 0 ((hash ∷ []) ∷ t ∷ ts) ≡ item Number (pos n) ∷ items_from 0 ts
  hash_items =
      ap (λ (o : Option numbers.Number). item_by (option_map numbers.behind_hash o) (hash ∷ []) ∷ items_from (more_tokens (option_map numbers.behind_hash o)) (t ∷ ts)) unsigned_is
      ∙ ap (λ (x : ℕ). item Number (pos x) ∷ items_from 0 ts) (small n h)

  pub minus_items : items_from 0 ((hash ∷ []) ∷ (numbers.minus ∷ []) ∷ t ∷ ts) ≡ item Number (neg_ℤ (pos n)) ∷ items_from 0 ts
  minus_items =
      ap (λ (o : Option ℕ). let m = option_map numbers.behind_hash (option_map numbers.behind_minus (option_map numbers.plain_number o)) in
      item_by m (hash ∷ []) ∷ items_from (more_tokens m) ((numbers.minus ∷ []) ∷ t ∷ ts)) s.number
      ∙ ap (λ (x : ℕ). item Number (neg_ℤ (pos x)) ∷ items_from 0 ts) (small n h)
