use Rattle.std.proofs.Common.{◌≡◌, ◌≤◌, ◌/◌, ◌∙◌, ℕ, false, [], ◌∷◌, arith}
use Rattle.lane_model.specs.WordBits.{bit_of}
use Rattle.lane_permute.specs.Places.{every_second, joined}
use Rattle.lane_permute.proofs.FourWords.{one_word, uzp_end}
use Rattle.lane_permute.proofs.four_words.uzp.Goals as goal

pub returns-then-bits-le64 : goal.returns-then-bits-le64
returns-then-bits-le64 c =
    let f = joined (c.args.bits / 2) (every_second c.args.w c.args.skip (bit_of c.args.a.now)) (every_second c.args.w c.args.skip (bit_of c.args.b.now)) in
    let above : (j : ℕ) → c.args.bits ≤ j → f j ≡ false = λ j h. uzp_end c.args.w c.args.skip c.args.bits j (bit_of c.args.a.now) (bit_of c.args.b.now) c.requires.field c.requires.whole c.requires.second h in
    let is : (j : ℕ) → bit_of (c.uzp_word-word.result ∷ 0 ∷ 0 ∷ 0 ∷ []) j ≡ f j = one_word c.uzp_word-word.result f c.uzp_word-word.ensures (λ j h. above j (omega arith)) in
    record { fields = λ j h. is j; above = λ j h. is j ∙ above j h }
