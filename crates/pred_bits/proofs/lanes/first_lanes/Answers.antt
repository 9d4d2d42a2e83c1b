use Rattle.std.proofs.Common.{◌≡◌, ◌≤◌, ◌*◌, ◌/◌, min, sym, ap, subst, ◌∙◌, arith}
use Rattle.emu_bits.specs.Flags.{size_of}
use Rattle.pred_bits.proofs.Fields.{below_clear, below_fields, lanes_end, whole_end}
use Rattle.pred_bits.proofs.lanes.first_lanes.Goals as goal

pub starts_below-requires : goal.starts_below-requires
starts_below-requires c =
    let end : c.args.count * (c.bits.result / 8) ≤ c.args.bits = subst (λ e. c.args.count * (e / 8) ≤ c.args.bits) (sym c.bits.ensures) (lanes_end c.args.e c.args.bits c.args.count c.requires.lanes) in
    omega (arith, c.requires.few)

pub of_words-requires-clause-above : goal.of_words-requires-clause-above
of_words-requires-clause-above c =
    let end : c.args.count * (c.bits.result / 8) ≤ c.args.bits = subst (λ e. c.args.count * (e / 8) ≤ c.args.bits) (sym c.bits.ensures) (lanes_end c.args.e c.args.bits c.args.count c.requires.lanes) in
    below_clear c.args.e c.args.bits (c.args.count * (c.bits.result / 8)) c.starts_below.result end c.starts_below.ensures

pub returns : goal.returns
returns c =
    let end : c.args.count * (c.bits.result / 8) ≡ min (min c.args.count 256 * (size_of c.args.e / 8)) c.args.bits
    = ap (λ e. c.args.count * (e / 8)) c.bits.ensures ∙ whole_end c.args.e c.args.bits c.args.count c.requires.few c.requires.lanes in
    c.of_words.ensures ∙ below_fields c.args.e c.args.bits c.args.count (c.args.count * (c.bits.result / 8)) c.starts_below.result c.requires.few end c.starts_below.ensures
