use Rattle.std.proofs.Common.{◌&&◌, nat_lt, get_or, refl, arith}
use Rattle.lane_model.specs.WordBits.{bit_of}
use Rattle.lane_permute.specs.Places.{reversed}
use Rattle.lane_permute.proofs.FourWords.{four, turned_word, none_past}
use Rattle.lane_permute.proofs.four_words.turned.Goals as goal

pub returns : goal.returns
returns c =
    four c.backwards-w0.result c.backwards-w1.result c.backwards-w2.result c.backwards-w3.result (λ j. nat_lt j 256 && reversed c.args.w 256 (bit_of c.args.a.now) j)
    (λ s h. turned_word c.args.w 0 s c.backwards-w0.result (get_or c.args.a.now 3 0) c.args.a.now c.requires (omega arith) h refl c.backwards-w0.ensures)
    (λ s h. turned_word c.args.w 1 s c.backwards-w1.result (get_or c.args.a.now 2 0) c.args.a.now c.requires (omega arith) h refl c.backwards-w1.ensures)
    (λ s h. turned_word c.args.w 2 s c.backwards-w2.result (get_or c.args.a.now 1 0) c.args.a.now c.requires (omega arith) h refl c.backwards-w2.ensures)
    (λ s h. turned_word c.args.w 3 s c.backwards-w3.result (get_or c.args.a.now 0 0) c.args.a.now c.requires (omega arith) h refl c.backwards-w3.ensures)
    (λ j h. none_past 256 256 j (reversed c.args.w 256 (bit_of c.args.a.now) j) (omega arith) h)
