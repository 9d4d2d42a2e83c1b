use Rattle.std.proofs.Common.{◌≡◌, ◌≤◌, ◌<◌, ◌+◌, ◌*◌, ◌/◌, ◌%◌, ◌^◌, ◌∙◌, ℕ, Bool, take, length, sym, ap, ap₂, subst, arith}
use Rattle.emu_bits.specs.Fields.{bit}
use Rattle.lane_permute.specs.Slices.{number_at}
use Rattle.sve_effects.specs.Lane.{extended_by}
use Rattle.sve_effects.specs.LaneLoop.{lane_of}
use Rattle.sve_effects.specs.Permute.{taken, half_place}
use Rattle.sve_effects.specs.PermuteRows.{unpacks}
use Rattle.sve_permutes.proofs.LaneArrays.{cut_lanes, half_lanes, lanes_few, extended_mod}
use Rattle.sve_permutes.proofs.slices.widened_lanes.Goals as goal

pub returns : goal.returns
returns g c =
    let e = g.T.Lane.BITS in
    let h = g.H.Lane.BITS in
    let f = g.H.Lane.number in
    let v = c.args.vec.now in
    let a : ℕ → ℕ = lane_of h v c.args.zn in
    let s : Bool = (unpacks c.args.op).1 in
    let hi : ℕ = bit (unpacks c.args.op).0 in
    let n = v.bits / e in
    let lanes = c.lanes_in-a.result in
    let bits : g.T.Lane.BITS ≡ 2 * g.H.Lane.BITS = c.requires.bits in
    let half : g.T.Lane.BITS / 2 ≡ g.H.Lane.BITS = omega arith in
    let less : g.H.Lane.BITS ≤ g.T.Lane.BITS = omega arith in
    let same : c.bits.result / c.BITS.result ≡ c.args.vec.now.bits / g.T.Lane.BITS = ap₂ (λ x y. x / y) (c.bits.ensures.value ∙ c.length.ensures.value) c.BITS.ensures in
    let m = c.bits.result / c.BITS.result in
    let count : length c.split_at_mut-front.result.0.now ≡ c.args.vec.now.bits / g.T.Lane.BITS = omega arith in
    let twice = half_lanes e h v.bits g.met.H.Lane.width c.length.ensures.length bits in
    let none : (k : ℕ) → 2 * m ≤ k → a k ≡ 0
    = λ k b. let past : v.bits / h ≤ k = subst (λ x. x ≤ k) (ap (λ x. 2 * x) same ∙ sym twice) b in c.lanes_in-a.ensures.above k past in
    c.set_lanes.ensures (λ k. extended_by s e (e / 2) (taken (lane_of (e / 2) v c.args.zn) (lane_of (e / 2) v c.args.zn) 0 0 (half_place (unpacks c.args.op).0 n k)))
    (λ k b.
    let within : k < length c.split_at_mut-front.result.0.now = omega arith in
    let cut = cut_lanes f (2 * m) lanes a h c.lanes_in-a.ensures.lanes none (hi * n + k) in
    c.widen.ensures k within
    ∙ ap₂ (λ (s hi : Bool). extended_by s e h (number_at f (take (2 * m) lanes) (bit hi * length c.split_at_mut-front.result.0.now + k))) c.is_signed.ensures c.is_high.ensures
    ∙ ap (λ l. extended_by s e h (number_at f (take (2 * m) lanes) (hi * l + k))) count
    ∙ extended_mod s e h (number_at f (take (2 * m) lanes) (hi * n + k)) (a (hi * n + k)) less cut (c.lanes_in-a.ensures.small (hi * n + k))
    ∙ ap (λ h. extended_by s e h (lane_of h v c.args.zn (hi * n + k)) % 2 ^ e) (sym half))

pub split_at_mut-front-requires : goal.split_at_mut-front-requires
split_at_mut-front-requires g c =
    let same : c.bits.result / c.BITS.result ≡ c.args.vec.now.bits / g.T.Lane.BITS = ap₂ (λ x y. x / y) (c.bits.ensures.value ∙ c.length.ensures.value) c.BITS.ensures in
    let few : c.args.vec.now.bits / g.T.Lane.BITS ≤ g.row.N = lanes_few g.T.Lane.BITS g.row.N c.args.vec.now.bits g.met.T.Lane.width c.length.ensures.length c.requires.whole in
    omega arith

pub set_lanes-requires : goal.set_lanes-requires
set_lanes-requires g c =
    let same : c.bits.result / c.BITS.result ≡ c.args.vec.now.bits / g.T.Lane.BITS = ap₂ (λ x y. x / y) (c.bits.ensures.value ∙ c.length.ensures.value) c.BITS.ensures in
    let few : c.args.vec.now.bits / g.T.Lane.BITS ≤ g.row.N = lanes_few g.T.Lane.BITS g.row.N c.args.vec.now.bits g.met.T.Lane.width c.length.ensures.length c.requires.whole in
    omega arith

pub overflow_mul-n : goal.overflow_mul-n
overflow_mul-n g c =
    let same : c.bits.result / c.BITS.result ≡ c.args.vec.now.bits / g.T.Lane.BITS = ap₂ (λ x y. x / y) (c.bits.ensures.value ∙ c.length.ensures.value) c.BITS.ensures in
    let twice : c.args.vec.now.bits / g.H.Lane.BITS ≡ 2 * (c.args.vec.now.bits / g.T.Lane.BITS) = half_lanes g.T.Lane.BITS g.H.Lane.BITS c.args.vec.now.bits g.met.H.Lane.width c.length.ensures.length c.requires.bits in
    omega arith

pub widen-requires-clause-lanes : goal.widen-requires-clause-lanes
widen-requires-clause-lanes g c =
    let same : c.bits.result / c.BITS.result ≡ c.args.vec.now.bits / g.T.Lane.BITS = ap₂ (λ x y. x / y) (c.bits.ensures.value ∙ c.length.ensures.value) c.BITS.ensures in
    let twice : c.args.vec.now.bits / g.H.Lane.BITS ≡ 2 * (c.args.vec.now.bits / g.T.Lane.BITS) = half_lanes g.T.Lane.BITS g.H.Lane.BITS c.args.vec.now.bits g.met.H.Lane.width c.length.ensures.length c.requires.bits in
    omega arith
