-- Lanes that are given by the same numbers.
use Rattle.std.proofs.Common.{◌≡◌, ◌/◌, ◌%◌, ◌*◌, ◌^◌, ◌∙◌, ℕ, Bool, true, false, if◌then◌else◌, refl, ap, ap₂}
use Rattle.emu_model.specs.ListLaws.{each_same}
use Rattle.emu_model.specs.State.{Vectors}
use Rattle.lane_model.specs.declared.places.LaneSource.{LaneSource}
use Rattle.lane_model.specs.declared.places.LaneSource.TheVariants.{FirstLane, Scalar}
use Rattle.sve_effects.specs.declared.lane_functions.LaneOp.{LaneOp}
use Rattle.sve_effects.specs.Lane.{lane_op}
use Rattle.sve_effects.specs.LaneLoop.{lane_of, is_active, merging, every_lane}
use Rattle.sve_effects.specs.Permute.{taken, copy_place}
use Rattle.sve_effects.specs.PermuteRows.{with_places}
use Rattle.emu_model.specs.Lanes.{with_z, with_lanes, byte_in}

pub same_lanes : (e : ℕ) (f h : ℕ → ℕ) (zd : ℕ) (v : Vectors) → ((k : ℕ) → f k ≡ h k) → with_lanes e f zd v ≡ with_lanes e h zd v
same_lanes e f h zd v is = ap (with_z v zd) (each_same (v.bits / 8) (byte_in (e / 8) f) (byte_in (e / 8) h) 0 (λ j b. ap (λ x. x / 2 ^ (8 * (j % (e / 8))) % 256) (is (j / (e / 8)))))

-- a scalar in the active lanes
pub copied_is : (e pg scalar zd : ℕ) (v : Vectors) → merging e pg (λ k. scalar) zd v ≡ with_places e (copy_place (is_active e v pg)) zd zd scalar zd v
copied_is e pg scalar zd v =
    same_lanes e (λ k. if is_active e v pg k then scalar else lane_of e v zd k) (λ k. taken (lane_of e v zd) (lane_of e v zd) scalar 0 (copy_place (is_active e v pg) k)) zd v (λ k. by_test (is_active e v pg k) k) where
      by_test : (t : Bool) (k : ℕ) → (if t then scalar else lane_of e v zd k) ≡ taken (lane_of e v zd) (lane_of e v zd) scalar 0 (if t then Scalar else FirstLane k)
      by_test true k = refl
      by_test false k = refl

-- the same places
pub spliced_is : (e zn zm zd : ℕ) (v : Vectors) (p q : ℕ → LaneSource) → ((k : ℕ) → p k ≡ q k) → with_places e p zn zm 0 zd v ≡ with_places e q zn zm 0 zd v
spliced_is e zn zm zd v p q is = same_lanes e (λ k. taken (lane_of e v zn) (lane_of e v zm) 0 0 (p k)) (λ k. taken (lane_of e v zn) (lane_of e v zm) 0 0 (q k)) zd v (λ k. ap (taken (lane_of e v zn) (lane_of e v zm) 0 0) (is k))

-- an operation on each lane and a count
pub counted_is : (e e' n n' : ℕ) (op op' : LaneOp) (zdn : ℕ) (v w : Vectors) → w ≡ every_lane e (λ k. lane_op op e (lane_of e v zdn k) n) zdn v → op ≡ op' → e ≡ e' → n ≡ n'
    → w ≡ every_lane e' (λ k. lane_op op' e' (lane_of e' v zdn k) n') zdn v
counted_is e e' n n' op op' zdn v w is p q r =
    is ∙ ap₂ (λ (e n : ℕ). every_lane e (λ k. lane_op op e (lane_of e v zdn k) n) zdn v) q r
    ∙ ap (λ (op : LaneOp). every_lane e' (λ k. lane_op op e' (lane_of e' v zdn k) n') zdn v) p
