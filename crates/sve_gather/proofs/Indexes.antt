-- Plans as the loops of gathers and scatters read them.
use Rattle.std.proofs.Common.{◌≡◌, ◌<◌, ℕ, ◌/◌, sym, ap, subst, ◌∙◌, arith}
use Rattle.emu_model.specs.State.{Vectors}
use Rattle.emu_model.specs.LaneSizes.{IsLaneSize}
use Rattle.sve_effects.specs.LaneLoop.{is_active}
use Rattle.element_loops.specs.declared.plan.OnLanes.{OnLanes}
use Rattle.element_loops.specs.declared.plan.Plan.{Plan}
use Rattle.element_loops.specs.Layouts.{IsPlan, is_on_of}
use Rattle.sve_gather.specs.declared.indexed.Index.{Index}
use Rattle.sve_gather.specs.Indexing.{IsIndex}

pub size_is : (p : Plan) (v : Vectors) (e : ℕ) → IsPlan p v → e ≡ p.bits → IsLaneSize e
size_is p v e plan bits = subst IsLaneSize (sym bits) plan.size

pub lane_within : (p : Plan) (v : Vectors) (e k : ℕ) → IsPlan p v → e ≡ p.bits → k < p.lanes → k < v.bits / e
lane_within p v e k plan bits h = let few : k < v.bits / p.bits = omega (arith, plan.lanes, h) in subst (λ e. k < v.bits / e) (sym bits) few

pub lane_is_on : (x : Index) (p : Plan) (v : Vectors) (e k : ℕ) → IsIndex x p → e ≡ p.bits → is_active e v x.pg k ≡ is_on_of p.on p.bits v k
lane_is_on x p v e k h bits = ap (λ e. is_active e v x.pg k) bits ∙ sym (ap (λ (on : OnLanes). is_on_of on p.bits v k) h.on)
