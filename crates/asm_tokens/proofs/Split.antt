-- Tokens laid side by side are those that the text is split into.
use Rattle.std.proofs.Common.{◌≡◌, ℕ, zero, suc, ◌+◌, ◌-◌, ◌<◌, ◌==◌, ◌&&◌, ◌||◌, Bool, true, false, not, List, [], ◌∷◌, ◌++◌, length, take, drop, nat_le, nat_lt, refl, sym, ap, ◌∙◌, subst, arith, ap₂, inl, inr}
use Rattle.std.proofs.lemmas.Bool.{cases_Bool, and_parts, or_parts, not-true, not_from_false, and_from, and_cases, and_left, and_right, eqb-true, false≢true, true≢false, cond-true, cond-false, or_from, ltb-true, lt-leb}
use Rattle.std.proofs.lemmas.Bool.Decides.{nat_tests}
use Rattle.std.specs.List.{list_all, prefix_len}
use Rattle.asm_tokens.specs.Tokens.{is_word_byte, is_blank, is_continuation, begins_with, begins_comment, piece_length, tokens_behind, tokens, quote, slash, space, tab}
use Rattle.asm_tokens.specs.Layout.{begins_word, is_sign, has_gap, spaced, laid, is_empty, comma, hash, open_brace}
use Rattle.asm_tokens.specs.AreTokens.{is_mark, is_token, are_tokens, ends, continues_character}

pub behind : (n : ℕ) (cs : List ℕ) → tokens_behind n cs ≡ tokens (drop n cs)
behind zero cs = refl
behind (suc n) [] = refl
behind (suc n) (c ∷ cs) = behind n cs

-- the piece that a text begins with is its first token
pub head_token : (c : ℕ) (cs : List ℕ) (n : ℕ) → begins_comment (c ∷ cs) ≡ false → is_blank c ≡ false → piece_length (c ∷ cs) ≡ suc n
    → tokens (c ∷ cs) ≡ (c ∷ take n cs) ∷ tokens (drop n cs)
head_token c cs n h k e =
    let less : suc n - 1 ≡ n = omega arith in
    cond-false (begins_comment (c ∷ cs)) _ _ h ∙ cond-false (is_blank c) _ _ k
    ∙ ap (λ (m : ℕ). take m (c ∷ cs) ∷ tokens_behind (m - 1) cs) e
    ∙ ap (λ (m : ℕ). (c ∷ take n cs) ∷ tokens_behind m cs) less
    ∙ ap (λ (ts : List (List ℕ)). (c ∷ take n cs) ∷ ts) (behind n cs)

-- ---- characters

-- a test that fails at a number tells it from one at which it holds
apart : (p : ℕ → Bool) (d c : ℕ) → p c ≡ true → p d ≡ false → (c == d) ≡ false
apart p d c h k = elim (cases_Bool (c == d)) [
  | inl e ↦ absurd (true≢false (sym h ∙ ap p (eqb-true c d e) ∙ k))
  | inr e ↦ e
]

word_is_no_blank : (c : ℕ) → is_word_byte c ≡ true → is_blank c ≡ false
word_is_no_blank c h = or_from (c == space) (c == tab) (apart is_word_byte space c h refl) (apart is_word_byte tab c h refl)

no_comment : (c : ℕ) (cs : List ℕ) → (c == slash) ≡ false → begins_comment (c ∷ cs) ≡ false
no_comment c cs h = and_left (c == slash) (begins_with slash cs) h

-- ---- a word

word_run : (cs x : List ℕ) → list_all is_word_byte cs ≡ true → begins_word x ≡ false → prefix_len is_word_byte (cs ++ x) ≡ length cs
word_run [] [] h k = refl
word_run [] (d ∷ ds) h k = cond-false (is_word_byte d) _ _ k
word_run (c ∷ cs) x h k =
    let parts = and_parts (is_word_byte c) (list_all is_word_byte cs) h in
    cond-true (is_word_byte c) _ _ parts.0 ∙ ap (λ (n : ℕ). 1 + n) (word_run cs x parts.1 k) ∙ omega arith

taken : (cs x : List ℕ) → take (length cs) (cs ++ x) ≡ cs
taken [] x = refl
taken (c ∷ cs) x = ap (λ (ds : List ℕ). c ∷ ds) (taken cs x)

dropped : (cs x : List ℕ) → drop (length cs) (cs ++ x) ≡ x
dropped [] x = refl
dropped (c ∷ cs) x = dropped cs x

word_token : (c : ℕ) (cs x : List ℕ) → is_word_byte c ≡ true → list_all is_word_byte cs ≡ true → begins_word x ≡ false
    → tokens ((c ∷ cs) ++ x) ≡ (c ∷ cs) ∷ tokens x
word_token c cs x h all k =
    let e : piece_length ((c ∷ cs) ++ x) ≡ suc (length cs) =
    cond-true (is_word_byte c) _ _ h ∙ ap (λ (n : ℕ). 1 + n) (word_run cs x all k) ∙ omega arith in
    head_token c (cs ++ x) (length cs) (no_comment c (cs ++ x) (apart is_word_byte slash c h refl)) (word_is_no_blank c h) e
    ∙ ap₂ (λ (ds : List ℕ) (ts : List (List ℕ)). (c ∷ ds) ∷ ts) (taken cs x) (ap tokens (dropped cs x))

-- ---- a mark

character : (x : List ℕ) → continues_character x ≡ false → prefix_len is_continuation x ≡ 0
character [] h = refl
character (c ∷ cs) h = cond-false (is_continuation c) _ _ h

mark_token : (c : ℕ) (x : List ℕ) → is_word_byte c ≡ false → is_mark c ≡ true → (is_sign slash (c ∷ []) && begins_with slash x) ≡ false
    → continues_character x ≡ false → tokens (c ∷ x) ≡ (c ∷ []) ∷ tokens x
mark_token c x h m s k =
    let plain = or_parts (is_blank c) (c == quote) (not-true _ (and_parts (nat_lt c 128) _ m).1) in
    let e : piece_length (c ∷ x) ≡ 1 =
    cond-false (is_word_byte c) _ _ h ∙ cond-false (c == quote) _ _ plain.1 ∙ cond-false (is_blank c) _ _ plain.0
    ∙ ap (λ (n : ℕ). 1 + n) (character x k) in
    let no : begins_comment (c ∷ x) ≡ false = elim (and_cases (c == slash && true) (begins_with slash x) s) [
      | inl f ↦ (elim (and_cases (c == slash) true f) [ inl g ↦ no_comment c x g | inr g ↦ absurd (true≢false g) ])
      | inr f ↦ and_right (c == slash) (begins_with slash x) f
    ] in
    head_token c x 0 no plain.0 e

-- ---- one token and all

nothing_left : (cs : List ℕ) → is_empty cs ≡ true → cs ≡ []
nothing_left [] h = refl
nothing_left (c ∷ cs) h = absurd (false≢true h)

lone_mark : (c : ℕ) (cs x : List ℕ) → cs ≡ [] → is_word_byte c ≡ false → is_mark c ≡ true → (is_sign slash (c ∷ cs) && begins_with slash x) ≡ false
    → continues_character x ≡ false → tokens ((c ∷ cs) ++ x) ≡ (c ∷ cs) ∷ tokens x
lone_mark c [] x e h m s k = mark_token c x h m s k
lone_mark c (d ∷ ds) x e h m s k = cc

pub one_token : (t x : List ℕ) → is_token t ≡ true → ends t x ≡ true → tokens (t ++ x) ≡ t ∷ tokens x
one_token [] x h k = absurd (false≢true h)
one_token (c ∷ cs) x h k =
    let k1 = and_parts (not (begins_word (c ∷ cs) && begins_word x)) (not (is_sign slash (c ∷ cs) && begins_with slash x) && not (continues_character x)) k in
    let k2 = and_parts (not (is_sign slash (c ∷ cs) && begins_with slash x)) (not (continues_character x)) k1.1 in
    elim (cases_Bool (is_word_byte c)) [
      | inl e ↦ word_token c cs x e (sym (cond-true (is_word_byte c) (list_all is_word_byte cs) (is_mark c && is_empty cs) e) ∙ h)
          (sym (ap (λ (b : Bool). b && begins_word x) e) ∙ not-true _ k1.0)
      | inr e ↦ (let m = and_parts (is_mark c) (is_empty cs) (sym (cond-false (is_word_byte c) (list_all is_word_byte cs) (is_mark c && is_empty cs) e) ∙ h) in
          lone_mark c cs x (nothing_left cs m.1) e m.0 (not-true _ k2.0) (not-true _ k2.1))
    ]

-- ---- one behind the other

low : (c : ℕ) → c < 128 → is_continuation c ≡ false
low c h = and_left (nat_le 128 c) (nat_lt c 192) (lt-leb 128 c h)

word_is_low : (c : ℕ) → is_word_byte c ≡ true → c < 128
word_is_low c h = grind (arith, nat_tests)

-- a token begins with a byte below 128, which goes on no character
begins_low : (u y : List ℕ) → is_token u ≡ true → continues_character (u ++ y) ≡ false
begins_low [] y h = absurd (false≢true h)
begins_low (c ∷ cs) y h = elim (cases_Bool (is_word_byte c)) [
  | inl e ↦ low c (word_is_low c e)
  | inr e ↦ low c (ltb-true c 128 (and_parts (nat_lt c 128) _ (and_parts (is_mark c) (is_empty cs) (sym (cond-false (is_word_byte c) (list_all is_word_byte cs) (is_mark c && is_empty cs) e) ∙ h)).0).0)
]

begins_same : (u y : List ℕ) → is_token u ≡ true → begins_word (u ++ y) ≡ begins_word u
begins_same [] y h = absurd (false≢true h)
begins_same (c ∷ cs) y h = refl

slash_alone : (c : ℕ) (cs : List ℕ) → c ≡ slash → is_token (c ∷ cs) ≡ true → is_empty cs ≡ true
slash_alone c cs e h = subst (λ (d : ℕ). is_token (d ∷ cs) ≡ true) e h

sign_same : (u y : List ℕ) → is_token u ≡ true → begins_with slash (u ++ y) ≡ is_sign slash u
sign_same [] y h = absurd (false≢true h)
sign_same (c ∷ cs) y h = elim (cases_Bool (c == slash)) [
  | inl e ↦ e ∙ sym (and_from (c == slash) (is_empty cs) e (slash_alone c cs (eqb-true c slash e) h))
  | inr e ↦ e ∙ sym (and_left (c == slash) (is_empty cs) e)
]

less : (a b c : Bool) → (a && (b || c)) ≡ false → (a && b) ≡ false
less true true c h = h
less true false c h = refl
less false b c h = refl

three : (a b c : Bool) → a ≡ false → b ≡ false → c ≡ false → (not a && (not b && not c)) ≡ true
three a b c h k l = and_from (not a) _ (not_from_false a h) (and_from (not b) (not c) (not_from_false b k) (not_from_false c l))

unspaced_ends : (t u y : List ℕ) → is_token t ≡ true → is_token u ≡ true → has_gap t u ≡ false → ends t (u ++ y) ≡ true
unspaced_ends t u y h k g =
    let parts = or_parts (begins_word t && (begins_word u || (is_sign hash u || is_sign open_brace u))) (is_sign slash t && is_sign slash u) (or_parts (is_sign comma t) _ g).1 in
    three (begins_word t && begins_word (u ++ y)) (is_sign slash t && begins_with slash (u ++ y)) (continues_character (u ++ y))
    (ap (λ (b : Bool). begins_word t && b) (begins_same u y k) ∙ less (begins_word t) (begins_word u) (is_sign hash u || is_sign open_brace u) parts.0)
    (ap (λ (b : Bool). is_sign slash t && b) (sign_same u y k) ∙ parts.1)
    (begins_low u y k)

plain_end : (a b : Bool) → (not (a && false) && (not (b && false) && true)) ≡ true
plain_end true true = refl
plain_end true false = refl
plain_end false true = refl
plain_end false false = refl

spaced_ends : (t y : List ℕ) → ends t (space ∷ y) ≡ true
spaced_ends t y = plain_end (begins_word t) (is_sign slash t)

put_ends : (t u y : List ℕ) → is_token t ≡ true → is_token u ≡ true → ends t (spaced (has_gap t u) (u ++ y)) ≡ true
put_ends t u y h k = elim (cases_Bool (has_gap t u)) [
  | inl g ↦ ap (λ (b : Bool). ends t (spaced b (u ++ y))) g ∙ spaced_ends t (u ++ y)
  | inr g ↦ ap (λ (b : Bool). ends t (spaced b (u ++ y))) g ∙ unspaced_ends t u y h k g
]

put_same : (b : Bool) (x : List ℕ) → tokens (spaced b x) ≡ tokens x
put_same true x = refl
put_same false x = refl

pub split_again : (t : List ℕ) (ts : List (List ℕ)) → is_token t ≡ true → are_tokens ts ≡ true → tokens (t ++ laid t ts) ≡ t ∷ ts
split_again t [] h k = one_token t [] h (plain_end (begins_word t) (is_sign slash t))
split_again t (u ∷ us) h k =
    let k2 = and_parts (is_token u) (are_tokens us) k in
    one_token t (spaced (has_gap t u) (u ++ laid u us)) h (put_ends t u (laid u us) h k2.0)
    ∙ ap (λ (ts : List (List ℕ)). t ∷ ts) (put_same (has_gap t u) (u ++ laid u us) ∙ split_again u us k2.0 k2.1)
