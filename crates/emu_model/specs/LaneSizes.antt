-- The sizes of lanes.
use Rattle.std.specs.Prelude.{◌≡◌, ◌⊎◌, ℕ}

-- the bits of a lane, the manual's esize
abbrev pub IsLaneSize : ℕ → Type 0
IsLaneSize e = (e ≡ 8) ⊎ (e ≡ 16) ⊎ (e ≡ 32) ⊎ (e ≡ 64)
