-- A statement that the patterns of a table read.
use Rattle.std.specs.Prelude.{◌≡◌, ℕ, Ok, List}
use Rattle.asm_tokens.specs.Tokens.{tokens}
use Rattle.text_model.specs.Statement.{Statement, reads_tokens}
use Rattle.asm_a64.specs.Law as a64
use Rattle.asm_a64.specs.Table.{a64_patterns}
use Rattle.asm_sve.specs.Law as sve
use Rattle.asm_sve.specs.Table.{sve_patterns}

-- The A64 patterns read a name and the text behind it as this.
abbrev pub IsA64 : List ℕ → List ℕ → Statement → Type 0
IsA64 name rest s = reads_tokens a64.in_table a64_patterns name (tokens rest) ≡ Ok s

-- The SVE patterns read it as this.
abbrev pub IsSve : List ℕ → List ℕ → Statement → Type 0
IsSve name rest s = reads_tokens sve.in_table sve_patterns name (tokens rest) ≡ Ok s
