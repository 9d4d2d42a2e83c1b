use Rattle.std.proofs.Common.{◌<◌, true, Bool, List, length, set, ap, subst, ◌∙◌}
use Rattle.pred_bits.proofs.Breaks.{first_written, none_written}
use Rattle.pred_bits.proofs.Bytes.{byte_lanes}
use Rattle.pred_bits.proofs.whole.first.Goals as goal

pub returns-in-Some : goal.returns-in-Some
returns-in-Some c =
    c.set.ensures ∙ ap (λ (p : List Bool). set p c.in-Some.k true) (c.of_words-bits.ensures ∙ c.before-2.view_is)
    ∙ first_written (length c.args.g.now) c.args.g.now c.args.before.now c.requires c.first_lane.result c.first_lane.ensures.value c.in-Some.k c.in-Some.is (subst (λ n. c.in-Some.k < n) (byte_lanes (length c.args.g.now)) c.in-Some.ensures.within)

pub returns-in_default : goal.returns-in_default
returns-in_default c =
    c.of_words-bits.ensures ∙ c.before-2.view_is ∙ none_written (length c.args.g.now) c.args.g.now c.args.before.now c.requires c.first_lane.result c.first_lane.ensures.value c.in_default.is
