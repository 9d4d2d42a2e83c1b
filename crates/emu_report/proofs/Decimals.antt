-- The decimal digits of a number below 2^64, one by one.
use Rattle.std.proofs.Common.{◌≡◌, ℕ, ◌+◌, ◌/◌, ◌%◌, ◌^◌, ◌<◌, ◌≤◌, List, [], ◌∷◌, ◌++◌, length, ap, ◌∙◌, arith, length-append}
use Rattle.std.specs.Fmt.{decimal}
use Rattle.std.proofs.lemmas.Fmt.{decimal_digit, decimal_step, length-decimal-le}

-- a number has at most 20 digits
pub decimal_short : (n : ℕ) → n < 2 ^ 64 → length (decimal n) ≤ 20
decimal_short n h = length-decimal-le 20 n (omega arith) (omega arith) h

pub decimal_appended : (text : List ℕ) (n : ℕ) → n < 2 ^ 64 → length (text ++ decimal n) ≤ length text + 20
decimal_appended text n h = omega (arith, length-append text (decimal n), decimal_short n h)

pub length_one_digit : (n : ℕ) → n < 10 → length (decimal n) ≡ 1
length_one_digit n h = ap length (decimal_digit n h)

-- one digit behind those of the tenth
pub length_digits : (n : ℕ) → 10 ≤ n → n < 2 ^ 64 → length (decimal n) ≡ length (decimal (n / 10)) + 1
length_digits n h k = ap length (decimal_step n h k) ∙ length-append (decimal (n / 10)) ((48 + n % 10) ∷ [])
