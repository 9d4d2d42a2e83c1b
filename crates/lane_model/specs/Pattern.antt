-- How many of n lanes a pattern names. It is DecodePredCount of the shared pseudocode of the Arm Architecture Reference
-- Manual for A-profile (DDI 0487), J1.
use Rattle.std.specs.Prelude.{ℕ, ◌-◌, ◌*◌, ◌/◌, ◌^◌, nat_eq, nat_le, if◌then◌else◌}
use Rattle.std.specs.Option.{option_map_or}
use Rattle.lane_model.specs.FirstLast.{last_where}

-- the greatest power of two up to n, and 0 where there is none
abbrev pub greatest_power : ℕ → ℕ
greatest_power n = option_map_or (λ k. 2 ^ k) (last_where n (λ k. nat_le (2 ^ k) n)) 0

-- that many, or none where n is less
abbrev pub so_many : ℕ → ℕ → ℕ
so_many count n = if nat_le count n then count else 0

-- 0 pow2; 1 to 8 vl1 to vl8, that number; 9 to 13 vl16, vl32, vl64, vl128, vl256; 29 mul4 and 30 mul3, the greatest
-- multiple of 4 and of 3; 31 all; others name none
abbrev pub pattern_count : ℕ → ℕ → ℕ
pattern_count pattern n =
    if nat_eq pattern 0 then greatest_power n else
    (if nat_le pattern 8 then so_many pattern n else
    (if nat_le pattern 13 then so_many (2 ^ (pattern - 5)) n else
    (if nat_eq pattern 29 then n / 4 * 4 else
    (if nat_eq pattern 30 then n / 3 * 3 else
    (if nat_eq pattern 31 then n else 0)))))
