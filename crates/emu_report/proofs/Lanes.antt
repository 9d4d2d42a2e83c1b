-- The lanes of a register, and the pieces of the lines of a debugger.
use Rattle.std.proofs.Common.{◌≡◌, ℕ, ◌+◌, ◌*◌, ◌/◌, ◌<◌, ◌≤◌, List, [], ◌++◌, ap, ◌∙◌, arith}
use Rattle.emu_bits.specs.declared.flags.Esize.{Esize}
use Rattle.emu_bits.specs.declared.flags.Esize.TheVariants.{B, H, S, D}
use Rattle.emu_bits.specs.Flags.{size_of}

-- lane k of so many bits lies within all of them
pub lane_within : (size : Esize) (k bits : ℕ) → k < bits / size_of size → size_of size * k + size_of size ≤ bits
lane_within B k bits h = omega arith
lane_within H k bits h = omega arith
lane_within S k bits h = omega arith
lane_within D k bits h = omega arith

pub lanes_within : (size : Esize) (k bits : ℕ) → k ≤ bits / size_of size → size_of size * k ≤ bits
lanes_within B k bits h = omega arith
lanes_within H k bits h = omega arith
lanes_within S k bits h = omega arith
lanes_within D k bits h = omega arith

-- a lane takes at most three characters for each byte
pub lane_short : (size : Esize) → 8 * (size_of size / 4 + 1) ≤ 3 * size_of size
lane_short B = omega arith
lane_short H = omega arith
lane_short S = omega arith
lane_short D = omega arith

-- the pieces of a text that was empty
pub four_pieces : (first t1 t2 t3 t4 a b c d : List ℕ) → first ≡ [] → t1 ≡ first ++ a → t2 ≡ t1 ++ b → t3 ≡ t2 ++ c → t4 ≡ t3 ++ d → t4 ≡ a ++ b ++ c ++ d
four_pieces first t1 t2 t3 t4 a b c d p0 p1 p2 p3 p4 =
    let p : t1 ≡ a = p1 ∙ ap (λ (xs : List ℕ). xs ++ a) p0 in cc

pub five_pieces : (first t1 t2 t3 t4 t5 a b c d e : List ℕ) → first ≡ [] → t1 ≡ first ++ a → t2 ≡ t1 ++ b → t3 ≡ t2 ++ c → t4 ≡ t3 ++ d → t5 ≡ t4 ++ e → t5 ≡ a ++ b ++ c ++ d ++ e
five_pieces first t1 t2 t3 t4 t5 a b c d e p0 p1 p2 p3 p4 p5 =
    let p : t1 ≡ a = p1 ∙ ap (λ (xs : List ℕ). xs ++ a) p0 in cc
