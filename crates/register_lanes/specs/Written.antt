-- A register that is written 128 bits after 128 bits.
use Rattle.std.specs.Prelude.{ℕ, ◌/◌, nat_lt, if◌then◌else◌, List, get_or}
use Rattle.emu_model.specs.Lists.{each}
use Rattle.emu_model.specs.State.{Vectors}
use Rattle.emu_model.specs.Lanes.{byte_in, read_z, with_z}

-- byte j of a register of which the first i parts have the lanes that f gives
abbrev pub written_byte : ℕ → (ℕ → ℕ) → ℕ → List ℕ → ℕ → ℕ
written_byte e f i bytes j = if nat_lt (j / 16) i then byte_in (e / 8) f j else get_or bytes j 0

abbrev pub written : ℕ → (ℕ → ℕ) → ℕ → ℕ → Vectors → Vectors
written e f i zd v = with_z v zd (each (v.bits / 8) (written_byte e f i (read_z v zd)))
