-- The loops over lanes: lane k of what they write is given by k alone. From the Arm Architecture Reference Manual for
-- A-profile (DDI 0487), C8.2 'Alphabetical list of SVE instructions': the loops over elements that the operations of
-- its entries share, with the shared pseudocode Elem and ActivePredicateElement.
use Rattle.std.specs.Prelude.{ℕ, zero, suc, ◌*◌, ◌/◌, ◌^◌, Bool, if◌then◌else◌}
use Rattle.emu_model.specs.State.{Vectors}
use Rattle.emu_model.specs.Active.{active}
use Rattle.emu_model.specs.Lanes.{lane, read_z, read_p, with_lanes}

-- the bits of the lanes of a size: 0 b, 1 h, 2 s, 3 d, and 4 q
abbrev pub lane_bits : ℕ → ℕ
lane_bits size = 8 * 2 ^ size

-- ---- operands

-- lane k of e bits of register r
abbrev pub lane_of : ℕ → Vectors → ℕ → ℕ → ℕ
lane_of e v r k = lane e (read_z v r) k

-- the 64-bit lane of register r that covers lane k of e bits
abbrev pub covering_lane : ℕ → Vectors → ℕ → ℕ → ℕ
covering_lane e v r k = lane 64 (read_z v r) (k * e / 64)

-- whether lane k of e bits is active by predicate pg
abbrev pub is_active : ℕ → Vectors → ℕ → ℕ → Bool
is_active e v pg k = active e (read_p v pg) k

-- ---- loops

-- each lane k of register zd is f k
abbrev pub every_lane : ℕ → (ℕ → ℕ) → ℕ → Vectors → Vectors
every_lane e f zd v = with_lanes e f zd v

-- merging: an inactive lane keeps its value
abbrev pub merging : ℕ → ℕ → (ℕ → ℕ) → ℕ → Vectors → Vectors
merging e pg f zd v = with_lanes e (λ k. if is_active e v pg k then f k else lane_of e v zd k) zd v

-- zeroing: an inactive lane is 0
abbrev pub zeroing : ℕ → ℕ → (ℕ → ℕ) → ℕ → Vectors → Vectors
zeroing e pg f zd v = with_lanes e (λ k. if is_active e v pg k then f k else 0) zd v

-- fold: what the active ones of the first n lanes make of a start, in the order of lanes; f takes the value so far and
-- the lane
unfoldable pub folded : (ℕ → Bool) → (ℕ → ℕ → ℕ) → ℕ → (ℕ → ℕ) → ℕ → ℕ
folded is_on f start value zero = start
folded is_on f start value (suc n) =
    if is_on n then f (folded is_on f start value n) (value n) else folded is_on f start value n

-- the same over all active lanes of register zn
abbrev pub folding : ℕ → ℕ → (ℕ → ℕ → ℕ) → ℕ → ℕ → Vectors → ℕ
folding e pg f start zn v = folded (is_active e v pg) f start (lane_of e v zn) (v.bits / e)
