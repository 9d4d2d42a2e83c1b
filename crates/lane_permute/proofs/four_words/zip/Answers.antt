use Rattle.std.proofs.Common.{◌&&◌, nat_lt}
use Rattle.lane_model.specs.WordBits.{bit_of}
use Rattle.lane_permute.specs.Places.{zipped}
use Rattle.lane_permute.proofs.FourWords.{one_word, none_past}
use Rattle.lane_permute.proofs.four_words.zip.Goals as goal

pub returns-then-bits-le64 : goal.returns-then-bits-le64
returns-then-bits-le64 c =
    one_word c.zip_word-word.result (λ j. nat_lt j c.args.bits && zipped c.args.w c.args.from (bit_of c.args.a.now) (bit_of c.args.b.now) j) c.zip_word-word.ensures
    (λ j h. none_past c.args.bits 64 j (zipped c.args.w c.args.from (bit_of c.args.a.now) (bit_of c.args.b.now) j) c.if-bits-le64.true h)
