use Rattle.std.proofs.Common.{◌≡◌, ◌<◌, length, sym, subst, ◌∙◌, arith}
use Rattle.std.proofs.lemmas.List.{length-set}
use Rattle.lane_model.specs.WordBits.{AreClearFrom}
use Rattle.lane_model.specs.Predicate.{logic_bit}
use Rattle.pred_bits.proofs.LogicWords.{logic_above, logic_shown}
use Rattle.pred_bits.proofs.Made.{bit_in, made_more}
use Rattle.pred_bits.proofs.Views.{length_shown}
use Rattle.pred_bits.proofs.whole.logic.Goals as goal

pub loop-i-preserved : goal.loop-i-preserved
loop-i-preserved c =
    let place : c.loop-i.i < length c.loop-i.words = omega (arith, c.loop-i.invariant.count) in
    record {
      count = length-set c.loop-i.words c.loop-i.i c.logic.result ∙ c.loop-i.invariant.count;
      done = made_more c.loop-i.words c.loop-i.i c.logic.result (λ j i. logic_bit c.args.op (bit_in c.g.inside.words j i) (bit_in c.a.inside.words j i) (bit_in c.b.inside.words j i)) place c.loop-i.invariant.done c.logic.ensures;
    }

pub invariant_of-result : goal.invariant_of-result
invariant_of-result c =
    let lg : length c.args.g.now ≡ c.g.inside.bits = length_shown c.g.inside.bits c.g.inside.words c.args.g.now c.g.view_is in
    let la : length c.args.a.now ≡ c.a.inside.bits = length_shown c.a.inside.bits c.a.inside.words c.args.a.now c.a.view_is in
    let lb : length c.args.b.now ≡ c.b.inside.bits = length_shown c.b.inside.bits c.b.inside.words c.args.b.now c.b.view_is in
    let sa : c.a.inside.bits ≡ c.g.inside.bits = sym la ∙ c.requires.first ∙ lg in
    let sb : c.b.inside.bits ≡ c.g.inside.bits = sym lb ∙ c.requires.second ∙ lg in
    record {
      count = c.loop-i.invariant.count;
      few = c.g.invariant.few;
      above = logic_above c.args.op c.loop-i.words c.g.inside.words c.a.inside.words c.b.inside.words c.loop-i.invariant.count (λ j i q r. c.loop-i.invariant.done j i (omega arith) r)
          c.g.inside.bits c.g.invariant.above (subst (λ n. AreClearFrom n c.a.inside.words) sa c.a.invariant.above) (subst (λ n. AreClearFrom n c.b.inside.words) sb c.b.invariant.above);
    }

pub returns : goal.returns
returns c =
    logic_shown c.args.op c.loop-i.words c.g.inside.words c.a.inside.words c.b.inside.words c.loop-i.invariant.count (λ j i q r. c.loop-i.invariant.done j i (omega arith) r)
    c.g.inside.bits c.a.inside.bits c.b.inside.bits c.args.g.now c.args.a.now c.args.b.now c.g.invariant.few c.g.view_is c.a.view_is c.b.view_is c.requires.first c.requires.second
