-- Strings byte by byte.
use Rattle.std.proofs.Common.{◌≡◌, ◌≢◌, ℕ, ◌+◌, ◌<◌, ◌∙◌, eqb, Bool, true, false, List, ◌∷◌, drop, drop-cons, get_or, length, ap, add-one}
use Rattle.std.proofs.lemmas.Bool.{cond-true, cond-false, eq-eqb, ne_eqb}
use Rattle.asm_tokens.specs.Tokens.{string_length, quote, backslash}

at_byte : (xs : List ℕ) (i : ℕ) → i < length xs → (e : Bool) → string_length e (drop i xs) ≡ string_length e (get_or xs i 0 ∷ drop (i + 1) xs)
at_byte xs i h e = let at : drop i xs ≡ get_or xs i 0 ∷ drop (i + 1) xs = rw (add-one, drop-cons xs i 0) in ap (string_length e) at

pub string-escaped : (xs : List ℕ) (i : ℕ) → i < length xs → string_length true (drop i xs) ≡ 1 + string_length false (drop (i + 1) xs)
string-escaped xs i h = at_byte xs i h true

pub string-closed : (xs : List ℕ) (i : ℕ) → i < length xs → get_or xs i 0 ≡ quote → string_length false (drop i xs) ≡ 1
string-closed xs i h e = at_byte xs i h false ∙ cond-true (eqb (get_or xs i 0) quote) _ _ (eq-eqb (get_or xs i 0) quote e)

pub string-open : (xs : List ℕ) (i : ℕ) → i < length xs → get_or xs i 0 ≢ quote
    → string_length false (drop i xs) ≡ 1 + string_length (eqb (get_or xs i 0) backslash) (drop (i + 1) xs)
string-open xs i h e = at_byte xs i h false ∙ cond-false (eqb (get_or xs i 0) quote) _ _ (ne_eqb (get_or xs i 0) quote e)

pub ruleset steps = (string-escaped, string-closed, string-open)
