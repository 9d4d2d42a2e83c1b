-- Bits of words of 64 bits, as predicates stand in them. They are this project's own.
use Rattle.std.specs.Prelude.{◌≡◌, ◌≤◌, ℕ, ◌/◌, ◌%◌, Bool, false, nat_eq, List, get_or}
use Rattle.std.specs.Int.{bit_at}
use Rattle.lane_model.specs.Lists.{each}

-- bit j of words
abbrev pub bit_of : List ℕ → ℕ → Bool
bit_of words j = nat_eq (bit_at (get_or words (j / 64) 0) (j % 64)) 1

-- their first n bits
abbrev pub bits_of : ℕ → List ℕ → List Bool
bits_of n words = each n (bit_of words)

-- 0 from bit n on
abbrev pub AreClearFrom : ℕ → List ℕ → Type 0
AreClearFrom n words = (j : ℕ) → n ≤ j → bit_of words j ≡ false
