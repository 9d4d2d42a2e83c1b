use Rattle.std.proofs.Common.{◌&&◌, nat_lt}
use Rattle.lane_model.specs.WordBits.{bit_of}
use Rattle.lane_permute.specs.Places.{zipped}
use Rattle.lane_permute.proofs.FourWords.{four, none_past}
use Rattle.lane_permute.proofs.four_words.zip_words.Goals as goal

pub returns : goal.returns
returns c =
    four c.zipped_at-w0.result c.zipped_at-w1.result c.zipped_at-w2.result c.zipped_at-w3.result (λ j. nat_lt j c.args.bits && zipped c.args.w c.args.from (bit_of c.args.a.now) (bit_of c.args.b.now) j) c.zipped_at-w0.ensures c.zipped_at-w1.ensures c.zipped_at-w2.ensures c.zipped_at-w3.ensures
    (λ j h. none_past c.args.bits 256 j (zipped c.args.w c.args.from (bit_of c.args.a.now) (bit_of c.args.b.now) j) c.requires.few h)
