-- Numbers of a listing: decimal, or hexadecimal behind `0x`, with an optional `-`, and an optional `#` before that.
-- Leading zeros are allowed. They are the decimal and hexadecimal integers of GNU as's manual, 'Constants', and `#` may
-- be left out as in the Arm manual; all else is this project's own choice, as docs/MANUAL.md has it under "Labels,
-- numbers and targets".
use Rattle.std.specs.Prelude.{ℕ, ◌+◌, ◌-◌, ◌^◌, ◌==◌, ◌&&◌, Bool, true, false, if◌then◌else◌, List, [], ◌∷◌, Option, Some, None, drop, min, option_map, ℤ, pos, neg_ℤ}
use Rattle.std.specs.Char.{is_digit, to_ascii_lowercase}
use Rattle.std.specs.List.{list_all}
use Rattle.std.specs.Str.Parse.{digits_value}
use Rattle.asm_tokens.specs.Layout.{is_sign, hash}

abbrev pub minus : ℕ
minus = 45

-- ---- one token

-- `0x`
abbrev pub is_hexadecimal : List ℕ → Bool
is_hexadecimal [] = false
is_hexadecimal (c ∷ []) = false
is_hexadecimal (c ∷ d ∷ ds) = c == 48 && to_ascii_lowercase d == 120

-- one digit or more, and nothing else
abbrev pub are_digits : ℕ → List ℕ → Bool
are_digits base [] = false
are_digits base (c ∷ cs) = list_all (λ d. is_digit d base) (c ∷ cs)

abbrev pub digits_in : ℕ → List ℕ → Option ℕ
digits_in base ds = if are_digits base ds then Some (digits_value base ds) else None

-- the number that a token writes
abbrev pub numeral : List ℕ → Option ℕ
numeral t = if is_hexadecimal t then digits_in 16 (drop 2 t) else digits_in 10 t

-- ---- several tokens

-- a number, and how many tokens write it
pub record Number : Type 0 where
  pub is_negative : Bool
  pub magnitude : ℕ
  pub count : ℕ

abbrev pub plain_number : ℕ → Number
plain_number m = record { is_negative = false; magnitude = m; count = 1 }

abbrev pub behind_minus : Number → Number
behind_minus n = record { is_negative = true; magnitude = n.magnitude; count = n.count + 1 }

abbrev pub behind_hash : Number → Number
behind_hash n = record n { count = n.count + 1 }

abbrev pub unsigned_number : List (List ℕ) → Option Number
unsigned_number [] = None
unsigned_number (t ∷ ts) = option_map plain_number (numeral t)

abbrev pub signed_number : List (List ℕ) → Option Number
signed_number [] = None
signed_number (t ∷ ts) =
    if is_sign minus t then option_map behind_minus (unsigned_number ts) else unsigned_number (t ∷ ts)

-- the number that tokens begin with
abbrev pub number_of : List (List ℕ) → Option Number
number_of [] = None
number_of (t ∷ ts) = if is_sign hash t then option_map behind_hash (signed_number ts) else signed_number (t ∷ ts)

-- Its value. A magnitude over 2^127 - 1 counts as that.
abbrev pub value : Number → ℤ
value n = let m = pos (min n.magnitude (2 ^ 127 - 1)) in if n.is_negative then neg_ℤ m else m
