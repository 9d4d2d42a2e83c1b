use Rattle.std.proofs.Common.{◌/◌, sym, ap, ◌∙◌}
use Rattle.emu_bits.specs.Flags.{size_of}
use Rattle.sve_effects.specs.LaneLoop.{lane_bits}
use Rattle.sve_effects.specs.Pattern.{pattern_count}
use Rattle.sve_effects.specs.Predicate.{lanes_below}
use Rattle.sve_effects.specs.PredicateRows.{predicate_bits}
use Rattle.sve_pred.proofs.Lengths.{lanes_are}
use Rattle.sve_pred.proofs.lanes.all_bits.Goals as goal

pub returns-clause-value : goal.returns-clause-value
returns-clause-value c =
    c.all_lanes.ensures
    ∙ ap (λ n. lanes_below (size_of c.esize.result) c.bits.result n) (lanes_are c.esize.result c.args.vec.now.bits c.bits.result c.bits.ensures.value)
    ∙ ap (λ e. lanes_below e c.bits.result (c.args.vec.now.bits / e)) c.esize.ensures
    ∙ ap (λ m. lanes_below (lane_bits c.args.size) m (c.args.vec.now.bits / lane_bits c.args.size)) c.bits.ensures.value
    ∙ ap (λ p. lanes_below (lane_bits c.args.size) (predicate_bits c.args.vec.now) (pattern_count p (c.args.vec.now.bits / lane_bits c.args.size))) (sym c.requires)
