use Rattle.std.proofs.Common.{◌+◌, ◌-◌, ◌∷◌, [], ap, ◌∙◌, arith}
use Rattle.lane_model.specs.WordBits.{bit_of}
use Rattle.lane_permute.proofs.FourWords.{four, rev_bit, rev_above, rev_past, moved_up}
use Rattle.lane_permute.proofs.four_words.rev.Goals as goal

pub returns-clause-fields : goal.returns-clause-fields
returns-clause-fields c j h = rev_bit c.args.w c.args.bits j (bit_of (c.bits_from-w0.result ∷ c.bits_from-w1.result ∷ c.bits_from-w2.result ∷ c.bits_from-w3.result ∷ [])) (bit_of c.turned-turned.result) (bit_of c.args.a.now) c.requires.field c.requires.few c.requires.whole h c.turned-turned.ensures
    (four c.bits_from-w0.result c.bits_from-w1.result c.bits_from-w2.result c.bits_from-w3.result (λ j. bit_of c.turned-turned.result (256 - c.args.bits + j))
    (λ s h. c.bits_from-w0.ensures s h ∙ ap (bit_of c.turned-turned.result) (moved_up c.args.bits 0 s 256 c.requires.few (omega arith)))
    (λ s h. c.bits_from-w1.ensures s h ∙ ap (bit_of c.turned-turned.result) (moved_up c.args.bits 1 s 320 c.requires.few (omega arith)))
    (λ s h. c.bits_from-w2.ensures s h ∙ ap (bit_of c.turned-turned.result) (moved_up c.args.bits 2 s 384 c.requires.few (omega arith)))
    (λ s h. c.bits_from-w3.ensures s h ∙ ap (bit_of c.turned-turned.result) (moved_up c.args.bits 3 s 448 c.requires.few (omega arith)))
    (λ j h. rev_past c.args.w c.args.bits j (bit_of c.turned-turned.result) (bit_of c.args.a.now) c.requires.few h c.turned-turned.ensures) j)

pub returns-clause-above : goal.returns-clause-above
returns-clause-above c j h = rev_above c.args.w c.args.bits j (bit_of (c.bits_from-w0.result ∷ c.bits_from-w1.result ∷ c.bits_from-w2.result ∷ c.bits_from-w3.result ∷ [])) (bit_of c.turned-turned.result) (bit_of c.args.a.now) c.requires.few h c.turned-turned.ensures
    (four c.bits_from-w0.result c.bits_from-w1.result c.bits_from-w2.result c.bits_from-w3.result (λ j. bit_of c.turned-turned.result (256 - c.args.bits + j))
    (λ s h. c.bits_from-w0.ensures s h ∙ ap (bit_of c.turned-turned.result) (moved_up c.args.bits 0 s 256 c.requires.few (omega arith)))
    (λ s h. c.bits_from-w1.ensures s h ∙ ap (bit_of c.turned-turned.result) (moved_up c.args.bits 1 s 320 c.requires.few (omega arith)))
    (λ s h. c.bits_from-w2.ensures s h ∙ ap (bit_of c.turned-turned.result) (moved_up c.args.bits 2 s 384 c.requires.few (omega arith)))
    (λ s h. c.bits_from-w3.ensures s h ∙ ap (bit_of c.turned-turned.result) (moved_up c.args.bits 3 s 448 c.requires.few (omega arith)))
    (λ j h. rev_past c.args.w c.args.bits j (bit_of c.turned-turned.result) (bit_of c.args.a.now) c.requires.few h c.turned-turned.ensures) j)
