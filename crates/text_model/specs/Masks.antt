-- The fields N, immr and imms of a bitmask immediate, as one number of 13 bits: N its highest bit, imms its lowest six.
-- The bitmask is the wmask of DecodeBitMasks() in the shared pseudocode of the Arm Architecture Reference Manual for
-- A-profile (DDI 0487). Which fields a bitmask is written with is this project's own: those of the least rotation.
use Rattle.std.specs.Prelude.{ℕ, ◌/◌, ◌%◌, ◌^◌, ◌==◌, false, Option, find, unwrap_or}
use Rattle.std.specs.Option.{option_map_or}
use Rattle.std.specs.List.{range_with_len}
use Rattle.emu_bits.specs.Bitmask.{bitmask_of}

-- the bitmask of fields, or none
abbrev pub bitmask_at : ℕ → ℕ → Option ℕ
bitmask_at w v = bitmask_of w (v / 4096) (v / 64 % 64) (v % 64)

-- The fields with the least rotation whose bitmask at a width is m, 0 where there are none: the first of all fields
-- whose bitmask is m, since a bitmask has one N and one imms.
unfoldable pub bitmask_fields : ℕ → ℕ → ℕ
bitmask_fields w m =
    unwrap_or (find (λ v. option_map_or (λ x. x == m) (bitmask_at w v) false) (range_with_len 0 (2 ^ 13))) 0
