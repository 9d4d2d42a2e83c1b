use Rattle.std.proofs.Common.{get_or, refl}
use Rattle.lane_permute.proofs.FourWords.{uzp_word_bit}
use Rattle.lane_permute.proofs.four_words.uzp_word.Goals as goal

pub returns : goal.returns
returns c s h = uzp_word_bit c.args.w c.args.skip c.args.bits s c.second_fields-first.result c.second_fields-second.result (get_or c.args.a.now 0 0) (get_or c.args.b.now 0 0) c.args.a.now c.args.b.now
    c.requires.field c.requires.within c.requires.few c.requires.whole h refl refl c.requires.first c.requires.second c.second_fields-first.ensures c.second_fields-second.ensures
