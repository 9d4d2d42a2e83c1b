-- The hexadecimal digits of a number that is kept as words of 64 bits, the lowest word first.
use Rattle.std.specs.Prelude.{ℕ, ◌-◌, ◌*◌, ◌/◌, ◌%◌, ◌^◌, List, get_or}
use Rattle.emu_model.specs.Lists.{each}
use Rattle.emu_run.specs.Text.{hex_digit}

-- digit d, the lowest being digit 0
abbrev pub digit_of : List ℕ → ℕ → ℕ
digit_of words d = get_or words (d / 16) 0 / 2 ^ (4 * (d % 16)) % 16

-- the lowest n digits, the most significant first
abbrev pub word_digits : ℕ → List ℕ → List ℕ
word_digits n words = each n (λ k. hex_digit (digit_of words (n - 1 - k)))
