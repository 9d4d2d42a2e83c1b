-- Lane i of each 128 bits is the same where those bits are.
use Rattle.std.proofs.Common.{◌≡◌, ◌*◌, ◌/◌, ◌%◌, ℕ, inl, inr, arith}
use Rattle.emu_model.specs.State.{Vectors}
use Rattle.register_lanes.specs.Parts.{SamePart, same_lane}
use Rattle.sve_effects.specs.LaneLoop.{lane_of}
use Rattle.sve_effects.specs.VectorData.{indexed_lane}
use Rattle.emu_model.specs.LaneSizes.{IsLaneSize}

same_place : (e i k n : ℕ) → IsLaneSize e → k * e / 128 ≡ i → indexed_lane e (n % (128 / e)) k * e / 128 ≡ i
same_place e i k n (inl s) at = let p : k * 8 / 128 ≡ i = rw s at at in rw s (omega arith)
same_place e i k n (inr (inl s)) at = let p : k * 16 / 128 ≡ i = rw s at at in rw s (omega arith)
same_place e i k n (inr (inr (inl s))) at = let p : k * 32 / 128 ≡ i = rw s at at in rw s (omega arith)
same_place e i k n (inr (inr (inr s))) at = let p : k * 64 / 128 ≡ i = rw s at at in rw s (omega arith)

pub same_indexed : (e i k r n : ℕ) (v w : Vectors) → IsLaneSize e → k * e / 128 ≡ i → SamePart i v w
    → lane_of e v r (indexed_lane e (n % (128 / e)) k) ≡ lane_of e w r (indexed_lane e (n % (128 / e)) k)
same_indexed e i k r n v w size at same = same_lane e i (indexed_lane e (n % (128 / e)) k) r v w size (same_place e i k n size at) same
