-- The bitmask of the fields N, immr and imms: a run of ones, rotated within an element, and the element repeated. It is
-- the wmask of DecodeBitMasks of the shared pseudocode of the Arm Architecture Reference Manual for A-profile
-- (DDI 0487), J1, for logical immediates; none is what that has as UNDEFINED.
use Rattle.std.specs.Prelude.{ℕ, zero, suc, ◌+◌, ◌-◌, ◌*◌, ◌/◌, ◌%◌, ◌^◌, ◌==◌, ◌&&◌, ◌||◌, Bool, cond, Option, Some, None}

-- v rotated right by r places within e bits
abbrev pub rotated : ℕ → ℕ → ℕ → ℕ
rotated e v r = v / 2 ^ r + v % 2 ^ r * 2 ^ (e - r)

-- k elements of e bits, each of them v
abbrev pub repeated : ℕ → ℕ → ℕ → ℕ
repeated e v zero = 0
repeated e v (suc k) = v + repeated e v k * 2 ^ e

-- the highest set bit of a number, from place k down
abbrev pub highest_set : ℕ → ℕ → Option ℕ
highest_set zero x = cond (x % 2 == 1) (Some 0) None
highest_set (suc k) x = cond (x / 2 ^ suc k % 2 == 1) (Some (suc k)) (highest_set k x)

-- the highest set bit of the seven bits N and NOT imms: an element has 2 to its power bits
abbrev pub element_log : ℕ → ℕ → Option ℕ
element_log n imms = highest_set 6 (n * 64 + (63 - imms))

-- There is no bitmask where the element has one bit or is longer than the width, or would be all ones.
abbrev pub has_no_value : ℕ → ℕ → ℕ → ℕ → Bool
has_no_value width n imms h = h == 0 || (width == 32 && n == 1) || imms % 2 ^ h == 2 ^ h - 1

-- An element of 2^h bits has S + 1 ones, rotated right by R, where S and R are the low h bits of imms and immr.
abbrev pub element : ℕ → ℕ → ℕ → ℕ
element immr imms h = rotated (2 ^ h) (2 ^ (imms % 2 ^ h + 1) - 1) (immr % 2 ^ h)

abbrev pub with_elements : ℕ → ℕ → ℕ → ℕ → Option ℕ → Option ℕ
with_elements width n immr imms None = None
with_elements width n immr imms (Some h) =
    cond (has_no_value width n imms h) None (Some (repeated (2 ^ h) (element immr imms h) (width / 2 ^ h)))

-- the bitmask of a width of 32 or 64 bits, or none
unfoldable pub bitmask_of : ℕ → ℕ → ℕ → ℕ → Option ℕ
bitmask_of width n immr imms = with_elements width n immr imms (element_log n imms)
