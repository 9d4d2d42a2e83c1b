-- Symbols found among others.
use Rattle.std.specs.Prelude.{ℕ, ◌+◌, Bool, ◌&&◌, ◌||◌, List, [], ◌∷◌, Option, Some, None, nat_eq, nat_lt, nat_le, if◌then◌else◌}
use Rattle.std.specs.List.{find}
use Rattle.std.specs.Option.{option_map}
use Rattle.std.specs.Str.{bytes_eq}
use Rattle.elf_symbols.specs.declared.Symbol.{Symbol}

-- the address is at a symbol or above it, and within its size, if it has one
unfoldable pub reaches : ℕ → Symbol → Bool
reaches address s = nat_le s.address address && (nat_eq s.size 0 || nat_lt address (s.address + s.size))

-- a symbol that was found behind this one, or else this one, if it reaches the address
abbrev pub or_this : Option Symbol → ℕ → Symbol → Option Symbol
or_this (Some found) address s = Some found
or_this None address s = if reaches address s then Some s else None

-- the last of some symbols that reaches an address
unfoldable pub last_reaching : ℕ → List Symbol → Option Symbol
last_reaching address [] = None
last_reaching address (s ∷ symbols) = or_this (last_reaching address symbols) address s

-- a symbol has this name
abbrev pub has_name : List ℕ → Symbol → Bool
has_name name s = bytes_eq s.name.now name

-- the address of the first of some symbols with this name
abbrev pub address_of : List ℕ → List Symbol → Option ℕ
address_of name symbols = option_map (λ s. s.address) (find (has_name name) symbols)
