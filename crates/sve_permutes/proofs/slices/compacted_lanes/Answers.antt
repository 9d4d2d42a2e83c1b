use Rattle.std.proofs.Common.{◌≡◌, ◌≤◌, ◌/◌, ◌%◌, ◌^◌, ◌∙◌, ℕ, Bool, false, take, length, ap, ap₂, subst, arith}
use Rattle.lane_model.specs.Bits.{is_set}
use Rattle.sve_effects.specs.LaneLoop.{lane_of, is_active}
use Rattle.sve_effects.specs.Permute.{taken, compact_place}
use Rattle.sve_permutes.proofs.LaneArrays.{permuted_mod, same_active}
use Rattle.sve_permutes.proofs.slices.compacted_lanes.Goals as goal

pub returns : goal.returns
returns g c =
    let e = g.T.Lane.BITS in
    let v = c.args.vec.now in
    let a : ℕ → ℕ = lane_of e v c.args.zn in
    let on : ℕ → Bool = is_active e v c.args.pg in
    let n = v.bits / e in
    let m = c.bits.result / c.BITS.result in
    let same : c.bits.result / c.BITS.result ≡ c.args.vec.now.bits / g.T.Lane.BITS = ap₂ (λ x y. x / y) (c.bits.ensures.value ∙ c.length.ensures.value) c.BITS.ensures in
    let front = c.split_at_mut-front.result.0.now in
    let long : length c.split_at_mut-front.result.0.now ≡ c.args.vec.now.bits / g.T.Lane.BITS = omega arith in
    let count : length c.compact.new.out ≡ c.args.vec.now.bits / g.T.Lane.BITS = omega arith in
    let none : (k : ℕ) → n ≤ k → on k ≡ false
    = λ k b. subst (λ e. v.bits / e ≤ k → is_active e v c.args.pg k ≡ false) c.BITS-2.ensures (c.flags_in-mask.ensures.above k) b in
    let active : is_set (take m c.flags_in-mask.result) ≡ on = same_active n m c.flags_in-mask.result on same (λ k. c.flags_in-mask.ensures.flags k ∙ ap (λ e. is_active e v c.args.pg k) c.BITS-2.ensures) none in
    c.set_lanes.ensures (λ k. taken a a 0 0 (compact_place on n k))
    (λ k h. permuted_mod g.T.Lane.number e n m (length front) c.lanes_in-a.result c.lanes_in-a.result c.compact.new.out a a (λ l. compact_place (is_set (take m c.flags_in-mask.result)) l) same long
    c.lanes_in-a.ensures.lanes c.lanes_in-a.ensures.above c.lanes_in-a.ensures.lanes c.lanes_in-a.ensures.above count c.compact.ensures k h
    ∙ ap (λ (act : ℕ → Bool). taken a a 0 0 (compact_place act n k) % 2 ^ e) active)

pub split_at_mut-front-requires : goal.split_at_mut-front-requires
split_at_mut-front-requires g c =
    let same : c.bits.result / c.BITS.result ≡ c.args.vec.now.bits / g.T.Lane.BITS = ap₂ (λ x y. x / y) (c.bits.ensures.value ∙ c.length.ensures.value) c.BITS.ensures in
    omega arith

pub compact-requires-clause-mask : goal.compact-requires-clause-mask
compact-requires-clause-mask g c =
    let same : c.bits.result / c.BITS.result ≡ c.args.vec.now.bits / g.T.Lane.BITS = ap₂ (λ x y. x / y) (c.bits.ensures.value ∙ c.length.ensures.value) c.BITS.ensures in
    omega arith

pub compact-requires-clause-first : goal.compact-requires-clause-first
compact-requires-clause-first g c =
    let same : c.bits.result / c.BITS.result ≡ c.args.vec.now.bits / g.T.Lane.BITS = ap₂ (λ x y. x / y) (c.bits.ensures.value ∙ c.length.ensures.value) c.BITS.ensures in
    omega arith

pub set_lanes-requires : goal.set_lanes-requires
set_lanes-requires g c =
    let same : c.bits.result / c.BITS.result ≡ c.args.vec.now.bits / g.T.Lane.BITS = ap₂ (λ x y. x / y) (c.bits.ensures.value ∙ c.length.ensures.value) c.BITS.ensures in
    omega arith
