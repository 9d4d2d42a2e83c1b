-- Numbers packed into words of 64 bits.
use Rattle.std.specs.Prelude.{◌≡◌, ◌⊎◌, ℕ, ◌+◌, ◌*◌, ◌/◌, ◌%◌, ◌^◌, List, [], ◌∷◌, get_or, take, drop, replicate}
use Rattle.emu_model.specs.LaneSizes.{IsLaneSize}

-- lanes of e bits packed into one number, the first the lowest
abbrev pub packed : ℕ → List ℕ → ℕ
packed e [] = 0
packed e (x ∷ xs) = x % 2 ^ e + 2 ^ e * packed e xs

-- word k of packed lanes
abbrev pub word_of : ℕ → List ℕ → ℕ → ℕ
word_of e lanes k = packed e (take (64 / e) (drop (k * (64 / e)) lanes))

-- v in the place of the b bits of n from s on
abbrev pub put : ℕ → ℕ → ℕ → ℕ → ℕ
put n s b v = (n / 2 ^ s / 2 ^ b * 2 ^ b + v) * 2 ^ s + n % 2 ^ s

-- the bits of a scalar in a vector register: a lane's, or 128
abbrev pub IsLowSize : ℕ → Type 0
IsLowSize bits = IsLaneSize bits ⊎ (bits ≡ 128)

-- the words of a register that is a number below 2^128
abbrev pub number_words : ℕ → List ℕ
number_words x = x % 2 ^ 64 ∷ (x / 2 ^ 64 ∷ replicate 30 0)

-- the two lowest words, zeros above
abbrev pub low_words : List ℕ → List ℕ
low_words words = get_or words 0 0 ∷ (get_or words 1 0 ∷ replicate 30 0)
