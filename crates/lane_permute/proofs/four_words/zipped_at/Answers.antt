use Rattle.std.proofs.Common.{◌+◌, ◌*◌, arith}
use Rattle.lane_model.specs.WordBits.{bit_of}
use Rattle.lane_permute.specs.Places.{zipped}
use Rattle.lane_permute.proofs.FourWords.{zip_part, zip_none}
use Rattle.lane_permute.proofs.four_words.zipped_at.Goals as goal

pub returns-then-bits-i : goal.returns-then-bits-i
returns-then-bits-i c s h = zip_none c.args.bits c.args.i s (zipped c.args.w c.args.from (bit_of c.args.a.now) (bit_of c.args.b.now) (64 * c.args.i + s)) (omega arith)

pub returns-else-bits-i : goal.returns-else-bits-i
returns-else-bits-i c s h = zip_part c.args.w c.args.from c.args.bits c.args.i s c.first_bits.result c.zipped_word-word.result (bit_of c.args.a.now) (bit_of c.args.b.now) c.requires.field (omega arith) h (c.zipped_word-word.ensures s h) (c.first_bits.ensures s h)
