use Rattle.std.proofs.Common.{◌+◌, ◌*◌, ◌&&◌, nat_lt, get_or, refl, arith}
use Rattle.lane_model.specs.WordBits.{bit_of}
use Rattle.lane_permute.specs.Places.{every_second}
use Rattle.lane_permute.proofs.FourWords.{four, seconds_word, none_past, empty_word}
use Rattle.lane_permute.proofs.four_words.every_second_field.Goals as goal

pub returns : goal.returns
returns c =
    four c.second_fields-w0.result c.second_fields-w1.result 0 0 (λ j. nat_lt j 128 && every_second c.args.w c.args.skip (bit_of c.args.a.now) j)
    (λ s h. seconds_word c.args.w c.args.skip 0 s c.second_fields-w0.result (get_or c.args.a.now 0 0) (get_or c.args.a.now 1 0) c.args.a.now c.requires.field c.requires.within (omega arith) h refl refl (c.second_fields-w0.ensures s h))
    (λ s h. seconds_word c.args.w c.args.skip 1 s c.second_fields-w1.result (get_or c.args.a.now 2 0) (get_or c.args.a.now 3 0) c.args.a.now c.requires.field c.requires.within (omega arith) h refl refl (c.second_fields-w1.ensures s h))
    (λ s h. empty_word 2 s (every_second c.args.w c.args.skip (bit_of c.args.a.now) (64 * 2 + s)) (omega arith)) (λ s h. empty_word 3 s (every_second c.args.w c.args.skip (bit_of c.args.a.now) (64 * 3 + s)) (omega arith))
    (λ j h. none_past 128 256 j (every_second c.args.w c.args.skip (bit_of c.args.a.now) j) (omega arith) h)
