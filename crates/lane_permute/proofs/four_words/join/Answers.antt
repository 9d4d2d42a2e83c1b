use Rattle.std.proofs.Common.{◌-◌, get_or, bit_or, refl, arith}
use Rattle.lane_model.specs.WordBits.{bit_of}
use Rattle.lane_permute.specs.Places.{joined}
use Rattle.lane_permute.proofs.FourWords.{four, join_bit, join_past}
use Rattle.lane_permute.proofs.four_words.join.Goals as goal

pub returns : goal.returns
returns c =
    four (bit_or (get_or c.args.a.now 0 0) c.bits_from-w0.result) (bit_or (get_or c.args.a.now 1 0) c.bits_from-w1.result) (bit_or (get_or c.args.a.now 2 0) c.bits_from-w2.result) (bit_or (get_or c.args.a.now 3 0) c.bits_from-w3.result) (joined c.args.at (bit_of c.args.a.now) (bit_of c.args.b.now))
    (λ s h. join_bit c.args.at 0 s (get_or c.args.a.now 0 0) c.bits_from-w0.result (128 - c.args.at) c.args.a.now c.args.b.now c.requires.within (omega arith) h refl (omega arith) c.requires.above c.requires.few (c.bits_from-w0.ensures s h))
    (λ s h. join_bit c.args.at 1 s (get_or c.args.a.now 1 0) c.bits_from-w1.result (192 - c.args.at) c.args.a.now c.args.b.now c.requires.within (omega arith) h refl (omega arith) c.requires.above c.requires.few (c.bits_from-w1.ensures s h))
    (λ s h. join_bit c.args.at 2 s (get_or c.args.a.now 2 0) c.bits_from-w2.result (256 - c.args.at) c.args.a.now c.args.b.now c.requires.within (omega arith) h refl (omega arith) c.requires.above c.requires.few (c.bits_from-w2.ensures s h))
    (λ s h. join_bit c.args.at 3 s (get_or c.args.a.now 3 0) c.bits_from-w3.result (320 - c.args.at) c.args.a.now c.args.b.now c.requires.within (omega arith) h refl (omega arith) c.requires.above c.requires.few (c.bits_from-w3.ensures s h))
    (λ j h. join_past c.args.at j (bit_of c.args.a.now) (bit_of c.args.b.now) c.requires.within h c.requires.few)
