use Rattle.std.proofs.Common.{◌≡◌, ◌<◌, IfSome, length, subst, ◌∙◌}
use Rattle.pred_bits.proofs.Breaks.{broken_kept, broken_cut}
use Rattle.pred_bits.proofs.Bytes.{byte_lanes}
use Rattle.pred_bits.proofs.Views.{length_shown}
use Rattle.pred_bits.proofs.whole.brk.Goals as goal

pub upto-part-requires-clause-within : goal.upto-part-requires-clause-within
upto-part-requires-clause-within c =
    let same : length c.args.g.now ≡ c.g.inside.bits = length_shown c.g.inside.bits c.g.inside.words c.args.g.now c.g.view_is in
    subst (λ n. IfSome c.first_set.result (λ k. k < n)) (byte_lanes (length c.args.g.now) ∙ same) c.first_set.ensures.within

pub returns-then-keep : goal.returns-then-keep
returns-then-keep c =
    let same : length c.args.g.now ≡ c.g.inside.bits = length_shown c.g.inside.bits c.g.inside.words c.args.g.now c.g.view_is in
    rw c.if-keep.true (c.logic.ensures ∙ broken_kept c.args.after (length c.args.g.now) c.g.inside.bits c.args.g.now c.args.a.now c.args.before.now c.upto-part.result c.first_set.result c.first_set.ensures.value same c.upto-part.ensures)

pub returns-else-keep : goal.returns-else-keep
returns-else-keep c =
    let same : length c.args.g.now ≡ c.g.inside.bits = length_shown c.g.inside.bits c.g.inside.words c.args.g.now c.g.view_is in
    rw c.if-keep.false (c.logic-else-keep.ensures ∙ broken_cut c.args.after (length c.args.g.now) c.g.inside.bits c.args.g.now c.args.a.now c.args.before.now c.upto-part.result c.first_set.result c.first_set.ensures.value same c.upto-part.ensures)
