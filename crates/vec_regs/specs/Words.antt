-- The bytes and the bits of words of 64 bits.
use Rattle.std.specs.Prelude.{◌≡◌, ◌≤◌, ℕ, ◌/◌, ◌%◌, ◌^◌, Bool, false, nat_eq, if◌then◌else◌, List, get_or}
use Rattle.emu_model.specs.Lists.{each}
use Rattle.emu_model.specs.Lanes.{byte_in}

-- byte j of numbers of w bytes
abbrev pub byte_of : ℕ → List ℕ → ℕ → ℕ
byte_of w numbers j = byte_in w (λ k. get_or numbers k 0) j

-- bit j of words
abbrev pub bit_of : List ℕ → ℕ → Bool
bit_of words j = nat_eq (get_or words (j / 64) 0 / 2 ^ (j % 64) % 2) 1

-- the first n bytes, and the first n bits
abbrev pub bytes_of : ℕ → List ℕ → List ℕ
bytes_of n words = each n (byte_of 8 words)

abbrev pub bits_of : ℕ → List ℕ → List Bool
bits_of n words = each n (bit_of words)

-- byte j of bytes of which part i, of 128 bits, is a pair of words
abbrev pub byte_with_pair : List ℕ → ℕ → List ℕ → ℕ → ℕ
byte_with_pair bytes i pair j = if nat_eq (j / 16) i then byte_of 8 pair (j % 16) else get_or bytes j 0

-- 0 from word n on, and from bit n on
abbrev pub AreZeroFrom : ℕ → List ℕ → Type 0
AreZeroFrom n words = (k : ℕ) → n ≤ k → get_or words k 0 ≡ 0

abbrev pub AreClearFrom : ℕ → List ℕ → Type 0
AreClearFrom n words = (j : ℕ) → n ≤ j → bit_of words j ≡ false
