use Rattle.std.proofs.Common.{◌≡◌, ◌≤◌, ◌/◌, ap, ◌∙◌, arith}
use Rattle.emu_bits.specs.Flags.{size_of}
use Rattle.sve_effects.specs.LaneLoop.{lane_bits}
use Rattle.sve_effects.specs.Pattern.{pattern_count}
use Rattle.sve_effects.specs.Bits.{lanes_of}
use Rattle.sve_effects.specs.Predicate.{lanes_below}
use Rattle.sve_effects.specs.PredicateRows.{predicate_bits}
use Rattle.sve_pred.proofs.Lengths.{lanes_fit}
use Rattle.sve_pred.proofs.lanes.ptrue_bits.Goals as goal

pub first_lanes-requires-clause-lanes : goal.first_lanes-requires-clause-lanes
first_lanes-requires-clause-lanes c =
    let fits : c.args.vec.now.bits / size_of c.esize-e.result ≤ lanes_of (size_of c.esize-e.result) c.bits.result = lanes_fit c.esize-e.result c.args.vec.now.bits c.bits.result c.length.ensures.length c.bits.ensures.value in
    let all : c.lanes.result ≡ c.args.vec.now.bits / size_of c.esize-e.result = c.lanes.ensures ∙ ap (λ n. n / size_of c.esize-e.result) c.length.ensures.value in
    omega (arith, c.pattern_count.ensures.within)

pub returns-clause-value : goal.returns-clause-value
returns-clause-value c =
    let lanes : c.lanes.result ≡ c.args.vec.now.bits / lane_bits c.args.size
    = c.lanes.ensures ∙ ap (λ n. n / size_of c.esize-e.result) c.length.ensures.value ∙ ap (λ e. c.args.vec.now.bits / e) c.esize-e.ensures in
    c.first_lanes.ensures ∙ ap (λ n. lanes_below (size_of c.esize-e.result) c.bits.result n) (c.pattern_count.ensures.value ∙ ap (pattern_count c.args.pattern) lanes)
    ∙ ap (λ m. lanes_below (size_of c.esize-e.result) m (pattern_count c.args.pattern (c.args.vec.now.bits / lane_bits c.args.size))) c.bits.ensures.value
    ∙ ap (λ e. lanes_below e (predicate_bits c.args.vec.now) (pattern_count c.args.pattern (c.args.vec.now.bits / lane_bits c.args.size))) c.esize-e.ensures
