-- Numbers with their signs, token by token.
use Rattle.std.proofs.Common.{◌≡◌, ℕ, ℤ, suc, ◌+◌, ◌-◌, ◌^◌, ◌∙◌, true, false, List, [], ◌∷◌, Option, Some, None, drop, min, slice_range, refl, sym, ap, subst, arith}
use Rattle.std.specs.Prelude.{option_map, pos, neg_ℤ, MatchOption}
use Rattle.std.proofs.lemmas.Bool.{cond-true, cond-false}
use Rattle.asm_tokens.specs.Layout.{is_sign, hash}
use Rattle.asm_tokens.specs.Numbers.{Number, numeral, minus, plain_number, behind_minus, behind_hash, unsigned_number, signed_number, number_of, value}
use Rattle.asm_tokens.specs.Places.{IsToken, AreTokens, IsNumber}
use Rattle.asm_tokens.specs.Tokens.{tokens}

pub plain_is : (text : List ℕ) (start first past v : ℕ) (x : ℤ) → IsToken text start first past → x ≡ pos v
    → option_map (λ n. min n (2 ^ 127 - 1)) (numeral (slice_range text first past)) ≡ Some v
    → IsNumber (unsigned_number (tokens (drop start text))) text start x past
plain_is text start first past v x h e k = go (numeral (slice_range text first past)) refl k
  where
    go : (o : Option ℕ) → numeral (slice_range text first past) ≡ o → option_map (λ n. min n (2 ^ 127 - 1)) o ≡ Some v
        → IsNumber (unsigned_number (tokens (drop start text))) text start x past
    go None q r = cc
    go (Some m) q r =
        let same : min m (2 ^ 127 - 1) ≡ v = cc in
        record {
          number = plain_number m;
          is = ap unsigned_number h.is ∙ ap (option_map plain_number) q;
          value_is = e ∙ ap pos (sym same);
          behind = (first, past, h, refl);
        }

not_negative : (ts : List (List ℕ)) (n : Number) → unsigned_number ts ≡ Some n → n.is_negative ≡ false
not_negative [] n h = cc
not_negative (t ∷ ts) n h = go (numeral t) refl h
  where
    go : (o : Option ℕ) → numeral t ≡ o → option_map plain_number o ≡ Some n → n.is_negative ≡ false
    go None q r = cc
    go (Some m) q r = let same : plain_number m ≡ n = cc in ap (λ (k : Number). k.is_negative) (sym same)

one_more : (text : List ℕ) (start first next past n : ℕ) → IsToken text start first next → AreTokens n text next past → AreTokens (n + 1) text start past
one_more text start first next past n h k =
    let e : suc n ≡ n + 1 = omega arith in
    let P : ℕ → Type 0 = λ m. AreTokens m text start past in
    subst P e (first, next, h, k)

pub minus_is : (text : List ℕ) (start first next past : ℕ) (x y : ℤ) → IsToken text start first next → is_sign minus (slice_range text first next) ≡ true
    → IsNumber (unsigned_number (tokens (drop next text))) text next y past → x ≡ neg_ℤ y
    → IsNumber (signed_number (tokens (drop start text))) text start x past
minus_is text start first next past x y h s k e =
    let plain : k.number.is_negative ≡ false = not_negative (tokens (drop next text)) k.number k.is in
    let positive : y ≡ pos (min k.number.magnitude (2 ^ 127 - 1)) = k.value_is ∙ cond-false k.number.is_negative _ _ plain in
    record {
      number = behind_minus k.number;
      is = ap signed_number h.is ∙ cond-true (is_sign minus (slice_range text first next)) _ _ s ∙ ap (option_map behind_minus) k.is;
      value_is = e ∙ ap neg_ℤ positive;
      behind = one_more text start first next past k.number.count h k.behind;
    }

same_value : (n : Number) → value n ≡ value (behind_hash n)
same_value n = refl

hash_is : (text : List ℕ) (start first next past : ℕ) (x : ℤ) → IsToken text start first next → is_sign hash (slice_range text first next) ≡ true
    → IsNumber (signed_number (tokens (drop next text))) text next x past
    → IsNumber (number_of (tokens (drop start text))) text start x past
hash_is text start first next past x h s k = record {
  number = behind_hash k.number;
  is = ap number_of h.is ∙ cond-true (is_sign hash (slice_range text first next)) _ _ s ∙ ap (option_map behind_hash) k.is;
  value_is = k.value_is;
  behind = one_more text start first next past k.number.count h k.behind;
}

pub no_minus_is : (text : List ℕ) (start first next past : ℕ) (x : ℤ) → IsToken text start first next → is_sign minus (slice_range text first next) ≡ false
    → IsNumber (unsigned_number (tokens (drop start text))) text start x past
    → IsNumber (signed_number (tokens (drop start text))) text start x past
no_minus_is text start first next past x h s k =
    let same : signed_number (tokens (drop start text)) ≡ unsigned_number (tokens (drop start text)) =
    ap signed_number h.is ∙ cond-false (is_sign minus (slice_range text first next)) _ _ s ∙ ap unsigned_number (sym h.is) in
    record { number = k.number; is = same ∙ k.is; value_is = k.value_is; behind = k.behind }

none_behind_hash : (ts : List (List ℕ)) → signed_number ts ≡ None → option_map behind_hash (signed_number ts) ≡ None
none_behind_hash ts e = ap (option_map behind_hash) e

pub hash_found : (text : List ℕ) (start first next : ℕ) (o : Option (ℤ × ℕ)) → IsToken text start first next → is_sign hash (slice_range text first next) ≡ true
    → MatchOption o (signed_number (tokens (drop next text)) ≡ None) (λ r. IsNumber (signed_number (tokens (drop next text))) text next r.0 r.1)
    → MatchOption o (number_of (tokens (drop start text)) ≡ None) (λ r. IsNumber (number_of (tokens (drop start text))) text start r.0 r.1)
hash_found text start first next None h s k =
    ap number_of h.is ∙ cond-true (is_sign hash (slice_range text first next)) _ _ s ∙ none_behind_hash (tokens (drop next text)) k
hash_found text start first next (Some r) h s k = hash_is text start first next r.1 r.0 h s k
