use Rattle.std.proofs.Common.{◌≡◌, ◌<◌, ◌≤◌, ◌/◌, length, ◌∙◌, arith}
use Rattle.std.proofs.lemmas.List.{length-set}
use Rattle.pred_bits.proofs.Views.{length_shown, above_kept, set_shown}
use Rattle.pred_bits.proofs.PredBits.set.Goals as goal

pub invariant_of-self : goal.invariant_of-self
invariant_of-self c =
    let bits : length c.args.self.now ≡ c.self.inside.bits = length_shown c.self.inside.bits c.self.inside.words c.args.self.now c.self.view_is in
    let few : length c.args.self.now ≤ 256 = omega (arith, c.self.invariant.few) in
    let place : c.args.k / 64 < length c.self.inside.words = omega (arith, c.self.told) in
    record {
      count = length-set c.self.inside.words (c.args.k / 64) c.with_bit.result ∙ c.self.told;
      few = c.self.invariant.few;
      above = above_kept c.self.inside.words c.args.k c.with_bit.result c.args.v place c.with_bit.ensures.written c.with_bit.ensures.others c.self.inside.bits (omega arith) c.self.invariant.above;
    }

pub returns : goal.returns
returns c =
    let bits : length c.args.self.now ≡ c.self.inside.bits = length_shown c.self.inside.bits c.self.inside.words c.args.self.now c.self.view_is in
    let few : length c.args.self.now ≤ 256 = omega (arith, c.self.invariant.few) in
    let place : c.args.k / 64 < length c.self.inside.words = omega (arith, c.self.told) in
    set_shown c.self.inside.words c.args.k c.with_bit.result c.args.v place c.with_bit.ensures.written c.with_bit.ensures.others c.self.inside.bits c.args.self.now c.self.view_is c.requires
