-- Numbers and the tokens that are left behind them.
use Rattle.std.proofs.Common.{◌≡◌, ℕ, ℤ, zero, suc, ◌-◌, ◌≤◌, ◌==◌, ◌∙◌, List, [], ◌∷◌, Some, None, drop, length, length-drop, refl, sym, ap, arith}
use Rattle.std.proofs.lemmas.Bool.{cond-true, cond-false, eq-eqb, ne_eqb}
use Rattle.asm_tokens.specs.Numbers.{Number, number_of}
use Rattle.asm_tokens.specs.Places.{AreTokens, IsNumber}
use Rattle.asm_tokens.specs.Tokens.{tokens}
use Rattle.listing_model.specs.Directives.{whole, whole_number}

-- the tokens behind the first n
pub behind : (n : ℕ) (text : List ℕ) (start past : ℕ) → AreTokens n text start past → tokens (drop past text) ≡ drop n (tokens (drop start text))
behind zero text start past h = ap (λ (i : ℕ). tokens (drop i text)) h
behind (suc n) text start past h =
    behind n text h.1 past h.3 ∙ ap (λ (ts : List (List ℕ)). drop (suc n) ts) (sym h.2.is)

pub enough : (n : ℕ) (text : List ℕ) (start past : ℕ) → AreTokens n text start past → n ≤ length (tokens (drop start text))
enough zero text start past h = omega arith
enough (suc n) text start past h =
    let more : length (tokens (drop start text)) ≡ suc (length (tokens (drop h.1 text))) = ap length h.2.is in
    omega (arith, enough n text h.1 past h.3)

left_length : (text : List ℕ) (start past : ℕ) (n : Number) → AreTokens n.count text start past
    → length (tokens (drop past text)) ≡ length (tokens (drop start text)) - n.count
left_length text start past n h = ap length (behind n.count text start past h) ∙ length-drop n.count (tokens (drop start text))

pub whole_is : (text : List ℕ) (start past : ℕ) (x : ℤ) → IsNumber (number_of (tokens (drop start text))) text start x past
    → tokens (drop past text) ≡ [] → whole_number (tokens (drop start text)) ≡ Some x
whole_is text start past x h e =
    let ts : List (List ℕ) = tokens (drop start text) in
    let all : h.number.count ≡ length ts = omega (arith, left_length text start past h.number h.behind, ap length e, enough h.number.count text start past h.behind) in
    ap (whole (length ts)) h.is ∙ cond-true (h.number.count == length ts) _ _ (eq-eqb h.number.count (length ts) all) ∙ ap Some (sym h.value_is)

none_left : (ts : List (List ℕ)) → length ts ≡ 0 → ts ≡ []
none_left [] e = refl
none_left (t ∷ ts) e = absurd (omega arith)

pub whole_is_none : (text : List ℕ) (start past : ℕ) (x : ℤ) → IsNumber (number_of (tokens (drop start text))) text start x past
    → (tokens (drop past text) ≡ [] → ⊥) → whole_number (tokens (drop start text)) ≡ None
whole_is_none text start past x h e =
    let ts : List (List ℕ) = tokens (drop start text) in
    let other : h.number.count ≡ length ts → ⊥ = λ q. e (none_left (tokens (drop past text)) (omega (arith, left_length text start past h.number h.behind))) in
    ap (whole (length ts)) h.is ∙ cond-false (h.number.count == length ts) _ _ (ne_eqb h.number.count (length ts) other)

pub no_number : (ts : List (List ℕ)) → number_of ts ≡ None → whole_number ts ≡ None
no_number ts e = ap (whole (length ts)) e
