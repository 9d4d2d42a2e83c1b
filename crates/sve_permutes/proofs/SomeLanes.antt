-- The number of lanes of a register.
use Rattle.std.proofs.Common.{◌≤◌, ◌/◌, ℕ, inl, inr, arith}
use Rattle.emu_model.specs.LaneSizes.{IsLaneSize}
use Rattle.emu_model.specs.SoundState.{IsVectorLength}

-- a register has some lanes
pub some_lanes : (e bits : ℕ) → IsLaneSize e → IsVectorLength bits → 1 ≤ bits / e
some_lanes e bits (inl s) l = let m : 128 ≤ bits = l.least in rw s (omega arith)
some_lanes e bits (inr (inl s)) l = let m : 128 ≤ bits = l.least in rw s (omega arith)
some_lanes e bits (inr (inr (inl s))) l = let m : 128 ≤ bits = l.least in rw s (omega arith)
some_lanes e bits (inr (inr (inr s))) l = let m : 128 ≤ bits = l.least in rw s (omega arith)
