use Rattle.std.proofs.Common.{get_or, refl, arith}
use Rattle.lane_model.specs.WordBits.{bit_of}
use Rattle.lane_permute.specs.Places.{transposed}
use Rattle.lane_permute.proofs.FourWords.{four, trn_word, trn_past}
use Rattle.lane_permute.proofs.four_words.trn.Goals as goal

pub returns : goal.returns
returns c =
    four c.transposed_word-w0.result c.transposed_word-w1.result c.transposed_word-w2.result c.transposed_word-w3.result (transposed c.args.w c.args.skip (bit_of c.args.a.now) (bit_of c.args.b.now))
    (λ s h. trn_word c.args.w c.args.skip 0 s c.transposed_word-w0.result (get_or c.args.a.now 0 0) (get_or c.args.b.now 0 0) c.args.a.now c.args.b.now c.requires.field c.requires.within h refl refl (c.transposed_word-w0.ensures s h))
    (λ s h. trn_word c.args.w c.args.skip 1 s c.transposed_word-w1.result (get_or c.args.a.now 1 0) (get_or c.args.b.now 1 0) c.args.a.now c.args.b.now c.requires.field c.requires.within h refl refl (c.transposed_word-w1.ensures s h))
    (λ s h. trn_word c.args.w c.args.skip 2 s c.transposed_word-w2.result (get_or c.args.a.now 2 0) (get_or c.args.b.now 2 0) c.args.a.now c.args.b.now c.requires.field c.requires.within h refl refl (c.transposed_word-w2.ensures s h))
    (λ s h. trn_word c.args.w c.args.skip 3 s c.transposed_word-w3.result (get_or c.args.a.now 3 0) (get_or c.args.b.now 3 0) c.args.a.now c.args.b.now c.requires.field c.requires.within h refl refl (c.transposed_word-w3.ensures s h))
    (λ j h. trn_past c.args.w c.args.skip j c.args.a.now c.args.b.now c.requires.field (omega arith) (omega arith) h)
