-- Words that write numbers.
use Rattle.std.proofs.Common.{◌≡◌, ◌<◌, ◌≤◌, ℕ, ◌^◌, Bool, true, false, ◌&&◌, List, [], ◌∷◌, length, drop, refl, sym, ap, subst, ◌∙◌, arith, cond, nat_lt, nat_eq, Some, None}
use Rattle.std.specs.List.{list_all}
use Rattle.std.specs.Char.{digit_value}
use Rattle.std.specs.Str.Parse.{digits_value, IsNumeral, AllDigits, without_leading_plus}
use Rattle.std.proofs.lemmas.Bool.Decides.{nat_tests}
use Rattle.command_model.specs.CommandLine.{decimal_of_word, is_decimal_digit, is_decimal}

both : (a b : Bool) → (a && b) ≡ true → (a ≡ true) × (b ≡ true)
both true b h = (refl, h)
both false b h = absurd (cc)

digit_of : (c : ℕ) → is_decimal_digit c ≡ true → digit_value c < 10
digit_of c h = grind (arith, nat_tests)

no_plus : (c : ℕ) → is_decimal_digit c ≡ true → nat_eq c 43 ≡ false
no_plus c h = grind (arith, nat_tests)

all_digits : (cs : List ℕ) → list_all is_decimal_digit cs ≡ true → AllDigits 10 cs
all_digits [] h = tt
all_digits (c ∷ cs) h = let b = both (is_decimal_digit c) (list_all is_decimal_digit cs) h in (digit_of c b.0, all_digits cs b.1)

without_plus : (cs : List ℕ) → list_all is_decimal_digit cs ≡ true → without_leading_plus cs ≡ cs
without_plus [] h = refl
without_plus (c ∷ cs) h = let b = both (is_decimal_digit c) (list_all is_decimal_digit cs) h in ap (λ t. drop (cond t 1 0) (c ∷ cs)) (no_plus c b.0)

parts_of : (cs : List ℕ) → is_decimal cs ≡ true → (nat_lt 0 (length cs) ≡ true) × (list_all is_decimal_digit cs ≡ true)
parts_of cs h = let b = both (nat_lt 0 (length cs)) _ h in (b.0, (both (list_all is_decimal_digit cs) _ b.1).0)

is_some_length : (cs : List ℕ) → nat_lt 0 (length cs) ≡ true → 0 < length cs
is_some_length cs h = grind (arith, nat_tests)

absurd_or : (n : ℕ) → (n < 2 ^ 64 → ⊥) → 2 ^ 64 ≤ n
absurd_or n below = grind (arith, nat_tests)

small_false : (n : ℕ) → 2 ^ 64 ≤ n → nat_lt n (2 ^ 64) ≡ false
small_false n h = grind (arith, nat_tests)

-- a numeral that doesn't parse is too great
pub too_great : (cs : List ℕ) → is_decimal cs ≡ true → ((IsNumeral 10 (without_leading_plus cs) × (digits_value 10 (without_leading_plus cs) < 2 ^ 64)) → ⊥) → None ≡ decimal_of_word cs
too_great cs h fails =
    let p = parts_of cs h in
    let same = without_plus cs p.1 in
    let great : 2 ^ 64 ≤ digits_value 10 cs = absurd_or (digits_value 10 cs) (λ lt. fails (subst (λ (ds : List ℕ). IsNumeral 10 ds × (digits_value 10 ds < 2 ^ 64)) (sym same) ((is_some_length cs p.0, all_digits cs p.1), lt))) in
    ap (λ b. cond b (Some (digits_value 10 cs)) None) (sym (small_false (digits_value 10 cs) great)) ∙ ap (λ b. cond (b && nat_lt (digits_value 10 cs) (2 ^ 64)) (Some (digits_value 10 cs)) None) (sym h)
