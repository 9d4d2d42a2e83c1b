use Rattle.std.proofs.Common.{◌∙◌, arith}
use Rattle.lane_model.specs.WordBits.{bit_of}
use Rattle.lane_permute.specs.Places.{every_second}
use Rattle.lane_permute.proofs.FourWords.{halves_end, uzp_bit, uzp_above, none_past}
use Rattle.lane_permute.proofs.four_words.uzp_words.Goals as goal

pub join-requires-clause-above : goal.join-requires-clause-above
join-requires-clause-above c j h = halves_end c.args.w c.args.skip c.args.bits j (bit_of c.every_second_field-low.result) (bit_of c.args.a.now) c.requires.field c.requires.whole c.requires.first c.every_second_field-low.ensures h

pub join-requires-clause-few : goal.join-requires-clause-few
join-requires-clause-few c j h = c.every_second_field-high.ensures j ∙ none_past 128 128 j (every_second c.args.w c.args.skip (bit_of c.args.b.now) j) (omega arith) h

pub returns-clause-fields : goal.returns-clause-fields
returns-clause-fields c j h = uzp_bit c.args.w c.args.skip c.args.bits j (bit_of c.join.result) (bit_of c.every_second_field-low.result) (bit_of c.every_second_field-high.result) (bit_of c.args.a.now) (bit_of c.args.b.now) c.requires.few h c.requires.whole c.every_second_field-low.ensures c.every_second_field-high.ensures (c.join.ensures j)

pub returns-clause-above : goal.returns-clause-above
returns-clause-above c j h = uzp_above c.args.w c.args.skip c.args.bits j (bit_of c.join.result) (bit_of c.every_second_field-low.result) (bit_of c.every_second_field-high.result) (bit_of c.args.b.now) c.requires.field c.requires.whole h c.requires.second c.every_second_field-high.ensures (c.join.ensures j)
