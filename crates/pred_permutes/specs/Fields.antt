-- Fields of words.
use Rattle.std.specs.Prelude.{ℕ, ◌+◌, ◌*◌, Bool, List}
use Rattle.vec_regs.specs.Words.{bit_of}

-- bit i of field k of w bits
abbrev pub bit_of_field : ℕ → ℕ → List ℕ → ℕ → Bool
bit_of_field w i words k = bit_of words (k * w + i)
