-- Words that call and that return, by the encodings of the Arm manual.
use Rattle.std.specs.Prelude.{ℕ, Bool, ◌&&◌, ◌||◌, nat_eq}
use Rattle.emu_bits.specs.Fields.{field}

-- BL: bits 31 to 26 are 100101. BLR: bits 31 to 10 are those of 0xD63F0000, and bits 4 to 0 are 0.
abbrev pub is_call : ℕ → Bool
is_call w = nat_eq (field w 26 6) 37 || (nat_eq (field w 10 22) 3510208 && nat_eq (field w 0 5) 0)

-- RET: bits 31 to 10 are those of 0xD65F0000, and bits 4 to 0 are 0
abbrev pub is_return : ℕ → Bool
is_return w = nat_eq (field w 10 22) 3512256 && nat_eq (field w 0 5) 0
