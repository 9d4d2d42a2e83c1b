use Rattle.std.proofs.Common.{◌≡◌, ◌/◌, ◌∙◌, ℕ, length, ap₂, arith}
use Rattle.sve_effects.specs.LaneLoop.{lane_of}
use Rattle.sve_effects.specs.Permute.{taken, spliced}
use Rattle.sve_permutes.proofs.LaneArrays.{permuted_mod}
use Rattle.sve_permutes.proofs.slices.spliced_lanes.Goals as goal

pub returns : goal.returns
returns g c =
    let e = g.T.Lane.BITS in
    let v = c.args.vec.now in
    let a : ℕ → ℕ = lane_of e v c.args.zdn in
    let b : ℕ → ℕ = lane_of e v c.args.zm in
    let n = v.bits / e in
    let same : c.bits.result / c.BITS.result ≡ c.args.vec.now.bits / g.T.Lane.BITS = ap₂ (λ x y. x / y) (c.bits.ensures.value ∙ c.length.ensures.value) c.BITS.ensures in
    let front = c.split_at_mut-front.result.0.now in
    let long : length c.split_at_mut-front.result.0.now ≡ c.args.vec.now.bits / g.T.Lane.BITS = omega arith in
    let count : length c.spliced.new.out ≡ c.args.vec.now.bits / g.T.Lane.BITS = omega arith in
    c.set_lanes.ensures (λ k. taken a b 0 0 (spliced c.args.from c.args.count k))
    (permuted_mod g.T.Lane.number e n (c.bits.result / c.BITS.result) (length front) c.lanes_in-a.result c.lanes_in-b.result c.spliced.new.out a b (λ l. spliced c.args.from c.args.count) same long
    c.lanes_in-a.ensures.lanes c.lanes_in-a.ensures.above c.lanes_in-b.ensures.lanes c.lanes_in-b.ensures.above count c.spliced.ensures)

pub split_at_mut-front-requires : goal.split_at_mut-front-requires
split_at_mut-front-requires g c =
    let same : c.bits.result / c.BITS.result ≡ c.args.vec.now.bits / g.T.Lane.BITS = ap₂ (λ x y. x / y) (c.bits.ensures.value ∙ c.length.ensures.value) c.BITS.ensures in
    omega arith

pub spliced-requires-clause-run : goal.spliced-requires-clause-run
spliced-requires-clause-run g c =
    let same : c.bits.result / c.BITS.result ≡ c.args.vec.now.bits / g.T.Lane.BITS = ap₂ (λ x y. x / y) (c.bits.ensures.value ∙ c.length.ensures.value) c.BITS.ensures in
    omega arith

pub spliced-requires-clause-first : goal.spliced-requires-clause-first
spliced-requires-clause-first g c =
    let same : c.bits.result / c.BITS.result ≡ c.args.vec.now.bits / g.T.Lane.BITS = ap₂ (λ x y. x / y) (c.bits.ensures.value ∙ c.length.ensures.value) c.BITS.ensures in
    omega arith

pub spliced-requires-clause-second : goal.spliced-requires-clause-second
spliced-requires-clause-second g c =
    let same : c.bits.result / c.BITS.result ≡ c.args.vec.now.bits / g.T.Lane.BITS = ap₂ (λ x y. x / y) (c.bits.ensures.value ∙ c.length.ensures.value) c.BITS.ensures in
    omega arith

pub set_lanes-requires : goal.set_lanes-requires
set_lanes-requires g c =
    let same : c.bits.result / c.BITS.result ≡ c.args.vec.now.bits / g.T.Lane.BITS = ap₂ (λ x y. x / y) (c.bits.ensures.value ∙ c.length.ensures.value) c.BITS.ensures in
    omega arith
