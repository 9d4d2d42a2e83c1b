-- Where bytes stand in memory, one behind the other, whatever the rights of their pages are.
use Rattle.std.specs.Prelude.{ℕ, zero, suc, ◌+◌, Bool, true, false, ◌&&◌, List, [], ◌∷◌, Option, Some, None, nat_eq, if◌then◌else◌}
use Rattle.std.specs.Option.{option_map_or}
use Rattle.emu_model.specs.Access.{Memory, address}
use Rattle.emu_model.specs.Pages.{peeked}

-- in mapped memory
abbrev pub is_byte_at : Memory → ℕ → ℕ → Bool
is_byte_at m a byte = option_map_or (λ found. nat_eq found byte) (peeked m a) false

-- the bytes stand from an address on
abbrev pub stand_at : Memory → ℕ → List ℕ → Bool
stand_at m a [] = true
stand_at m a (byte ∷ bytes) = is_byte_at m a byte && stand_at m (address (a + 1)) bytes

-- the first of n addresses from one on from which on they stand
unfoldable pub first_at : Memory → List ℕ → ℕ → ℕ → Option ℕ
first_at m bytes a zero = None
first_at m bytes a (suc n) = if stand_at m a bytes then Some a else first_at m bytes (address (a + 1)) n
