use Rattle.std.proofs.Common.{◌≡◌, false, length, replicate, ap, sym, ◌∙◌}
use Rattle.pred_bits.proofs.Breaks.{pair_goes_on, pair_stops}
use Rattle.pred_bits.proofs.Views.{length_shown}
use Rattle.pred_bits.proofs.whole.brkp.Goals as goal

pub returns-then-last_is_set : goal.returns-then-last_is_set
returns-then-last_is_set c = c.brk.ensures ∙ pair_goes_on (length c.args.g.now) c.args.g.now c.args.a.now c.last_is_set.result c.last_is_set.ensures c.args.after c.args.b.now c.if-last_is_set.true

pub returns-else-last_is_set : goal.returns-else-last_is_set
returns-else-last_is_set c =
    let same : length c.args.g.now ≡ c.g.inside.bits = length_shown c.g.inside.bits c.g.inside.words c.args.g.now c.g.view_is in
    c.new.ensures ∙ ap (λ m. replicate m false) (sym same) ∙ pair_stops (length c.args.g.now) c.args.g.now c.args.a.now c.last_is_set.result c.last_is_set.ensures c.args.after c.args.b.now c.if-last_is_set.false
