-- What a system call that returns leaves of the vector registers. From Linux's documentation 'Scalable Vector Extension
-- support for AArch64 Linux', 'System call behaviour'; that a new length clears the same is this project's own choice
-- where 'prctl extensions' has it unspecified.
use Rattle.std.specs.Prelude.{ℕ, ◌-◌, ◌/◌, Bool, false, List, ◌++◌, map, take, replicate}
use Rattle.emu_model.specs.State.{Vectors}

-- the low 128 bits of a Z register, and zeros above, up to `bits` bits
abbrev pub low_bytes : ℕ → List ℕ → List ℕ
low_bytes bits bytes = take 16 bytes ++ replicate (bits / 8 - 16) 0

-- in a length of `bits` bits, which is the present one from then on, the bits above 127 of each Z register, the
-- predicates and FFR are 0
abbrev pub cleared : ℕ → Vectors → Vectors
cleared bits v =
    let clear : List Bool = replicate (bits / 8) false in
    record v { bits = bits; z = map (low_bytes bits) v.z; p = replicate 16 clear; ffr = clear }
