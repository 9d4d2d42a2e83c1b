use Rattle.std.proofs.Common.{◌≡◌, ◌<◌, ◌-◌, ◌*◌, ◌/◌, ◌%◌, ◌&&◌, false, length, get_or, sym, ap, ◌∙◌, arith}
use Rattle.emu_bits.specs.Flags.{size_of}
use Rattle.lane_model.specs.Bits.{field_bit}
use Rattle.pred_bits.specs.LaneBits.{among}
use Rattle.pred_bits.proofs.Fields.{some_bits}
use Rattle.pred_bits.proofs.LaneWords.{whole_lanes, cut_lanes}
use Rattle.pred_bits.proofs.Views.{length_shown, get_shown}
use Rattle.pred_bits.proofs.lanes.lane_words.Goals as goal

pub returns-then-rest-eq0 : goal.returns-then-rest-eq0
returns-then-rest-eq0 c b =
    let lg : length c.args.g.now ≡ c.g.inside.bits = length_shown c.g.inside.bits c.g.inside.words c.args.g.now c.g.view_is in
    let whole : c.g.inside.bits % (size_of c.args.e / 8) ≡ 0 = ap (λ e. c.g.inside.bits % (e / 8)) (sym c.bits.ensures) ∙ c.if-rest-eq0.true in
    whole_lanes (size_of c.args.e / 8) c.g.inside.bits c.g.inside.words c.a.inside.words c.starts_in_both-words.result c.args.g.now c.args.a.now (some_bits c.args.e)
    (λ k h. let in_g : k < length c.args.g.now = omega arith in get_shown c.g.inside.bits c.g.inside.words c.args.g.now k c.g.view_is in_g)
    (λ k h. let in_a : k < length c.args.a.now = omega (arith, c.requires) in get_shown c.a.inside.bits c.a.inside.words c.args.a.now k c.a.view_is in_a)
    c.g.invariant.above c.starts_in_both-words.ensures whole b
    ∙ ap (λ m. field_bit (size_of c.args.e / 8) (among (m / (size_of c.args.e / 8)) (λ k. get_or c.args.g.now (k * (size_of c.args.e / 8)) false && get_or c.args.a.now (k * (size_of c.args.e / 8)) false)) b) (sym lg)

pub returns-else-rest-eq0 : goal.returns-else-rest-eq0
returns-else-rest-eq0 c b =
    let lg : length c.args.g.now ≡ c.g.inside.bits = length_shown c.g.inside.bits c.g.inside.words c.args.g.now c.g.view_is in
    let end : c.g.inside.bits - c.g.inside.bits % (c.bits.result / 8) ≡ c.g.inside.bits - c.g.inside.bits % (size_of c.args.e / 8) = ap (λ e. c.g.inside.bits - c.g.inside.bits % (e / 8)) c.bits.ensures in
    cut_lanes (size_of c.args.e / 8) c.g.inside.bits c.g.inside.words c.a.inside.words c.starts_in_both-words.result c.args.g.now c.args.a.now (some_bits c.args.e)
    (λ k h. let in_g : k < length c.args.g.now = omega arith in get_shown c.g.inside.bits c.g.inside.words c.args.g.now k c.g.view_is in_g)
    (λ k h. let in_a : k < length c.args.a.now = omega (arith, c.requires) in get_shown c.a.inside.bits c.a.inside.words c.args.a.now k c.a.view_is in_a)
    c.g.invariant.above c.starts_in_both-words.ensures
    c.starts_below_apart.result c.starts_in_both.result (c.g.inside.bits - c.g.inside.bits % (c.bits.result / 8)) end c.starts_below_apart.ensures c.starts_in_both.ensures b
    ∙ ap (λ m. field_bit (size_of c.args.e / 8) (among (m / (size_of c.args.e / 8)) (λ k. get_or c.args.g.now (k * (size_of c.args.e / 8)) false && get_or c.args.a.now (k * (size_of c.args.e / 8)) false)) b) (sym lg)
