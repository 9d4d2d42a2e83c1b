-- Lanes of Z registers and fields of predicates: what is read of them, and what a write leaves. From the shared
-- pseudocode of the Arm Architecture Reference Manual for A-profile (DDI 0487), J1: Z, P, FFR, Elem, and V, a write to
-- which clears the bits above it.
use Rattle.std.specs.Prelude.{ℕ, ◌+◌, ◌*◌, ◌/◌, ◌%◌, ◌^◌, Bool, List, [], ◌∷◌, get_or, set, take, drop}
pub use Rattle.lane_model.specs.Bits.{field_bit}
use Rattle.emu_model.specs.Lists.{each}
use Rattle.emu_model.specs.State.{Vectors}

-- ---- whole registers

-- Z[r]: its bytes, the lowest first
abbrev pub read_z : Vectors → ℕ → List ℕ
read_z v r = get_or v.z r []

-- P[r]: a bit for each byte of a Z register, the lowest first
abbrev pub read_p : Vectors → ℕ → List Bool
read_p v r = get_or v.p r []

abbrev pub with_z : Vectors → ℕ → List ℕ → Vectors
with_z v r bytes = record v { z = set v.z r bytes }

abbrev pub with_p : Vectors → ℕ → List Bool → Vectors
with_p v r bits = record v { p = set v.p r bits }

abbrev pub with_ffr : Vectors → List Bool → Vectors
with_ffr v bits = record v { ffr = bits }

-- ---- lanes of a Z register

-- the number of some bytes, the first the lowest
abbrev pub number : List ℕ → ℕ
number [] = 0
number (b ∷ bs) = b + 256 * number bs

-- Elem[bytes, k, e]: lane k of e bits
abbrev pub lane : ℕ → List ℕ → ℕ → ℕ
lane e bytes k = number (take (e / 8) (drop (k * (e / 8)) bytes))

-- byte j of lanes of w bytes: of lane j / w, which is f (j / w), the byte j % w
abbrev pub byte_in : ℕ → (ℕ → ℕ) → ℕ → ℕ
byte_in w f j = f (j / w) / 2 ^ (8 * (j % w)) % 256

-- each lane k of e bits of register zd is f k modulo 2^e
abbrev pub with_lanes : ℕ → (ℕ → ℕ) → ℕ → Vectors → Vectors
with_lanes e f zd v = with_z v zd (each (v.bits / 8) (byte_in (e / 8) f))

-- register zd has the low `bits` bits of x, and zeros above
abbrev pub with_low : ℕ → ℕ → ℕ → Vectors → Vectors
with_low bits x zd v = with_z v zd (each (v.bits / 8) (λ j. x % 2 ^ bits / 2 ^ (8 * j) % 256))

-- ---- fields of a predicate: e / 8 bits for a lane of e bits

-- each field k of predicate pd has f k as its lowest bit, and zeros above
abbrev pub with_fields : ℕ → (ℕ → Bool) → ℕ → Vectors → Vectors
with_fields e f pd v = with_p v pd (each (v.bits / 8) (field_bit (e / 8) f))
