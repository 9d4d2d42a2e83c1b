-- Fields of a word. A field is `w<hi:lo>` of the Arm manual's pseudocode, of which a flag is a single bit.
use Rattle.std.specs.Prelude.{ℕ, ◌/◌, ◌%◌, ◌^◌, Bool, true, false}

-- the n bits of a word from the place lo on, as a number
abbrev pub field : ℕ → ℕ → ℕ → ℕ
field w lo n = w / 2 ^ lo % 2 ^ n

-- a flag as a number
abbrev pub bit : Bool → ℕ
bit false = 0
bit true = 1
