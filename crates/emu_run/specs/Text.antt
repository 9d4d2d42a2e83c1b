-- Numbers as text. A text is the list of its bytes, in ASCII. It is this project's own choice.
use Rattle.std.specs.Prelude.{ℕ, ◌+◌, ◌-◌, ◌/◌, ◌%◌, ◌^◌, List, [], ◌∷◌, nat_lt, if◌then◌else◌}
use Rattle.emu_model.specs.Lists.{each}

-- a hexadecimal digit, in lower case
abbrev pub hex_digit : ℕ → ℕ
hex_digit d = if nat_lt d 10 then 48 + d else 87 + d

-- n hexadecimal digits of a number, the most significant first
abbrev pub hex : ℕ → ℕ → List ℕ
hex n number = each n (λ k. hex_digit (number / 16 ^ (n - 1 - k) % 16))

abbrev pub space : List ℕ
space = 32 ∷ []

abbrev pub newline : List ℕ
newline = 10 ∷ []
