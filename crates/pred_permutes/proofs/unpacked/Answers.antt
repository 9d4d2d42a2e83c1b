use Rattle.std.proofs.Common.{◌≡◌, ◌*◌, ◌/◌, replicate, ap, subst, ◌∙◌}
use Rattle.emu_bits.specs.Fields.{bit}
use Rattle.vec_regs.specs.Words.{bit_of, AreClearFrom}
use Rattle.pred_permutes.proofs.FieldPlaces.{zip_above, half_written}
use Rattle.pred_permutes.proofs.unpacked.Goals as goal

pub set_p_words-requires : goal.set_p_words-requires
set_p_words-requires c =
    subst (λ n. AreClearFrom (n / 8) c.zip-words.result) (c.bits-bits.ensures.value ∙ c.length.ensures.value)
    (zip_above 1 (c.bits-bits.result / 8) c.begin-from.result (bit_of c.zip-words.result) (bit_of c.p_words.result.now) (bit_of (replicate 4 0)) c.zip-words.ensures)

pub returns : goal.returns
returns c =
    let bits : c.bits-bits.result / 8 ≡ c.args.vec.now.bits / 8 = ap (λ n. n / 8) (c.bits-bits.ensures.value ∙ c.length.ensures.value) in
    c.set_p_words.ensures
    ∙ half_written c.args.op (c.bits-bits.result / 8) c.begin-from.result c.args.pn c.args.pd c.args.vec.now c.p_words.result.now c.zip-words.result c.length.ensures.length bits
    (c.begin-from.ensures.value ∙ ap (λ t. bit t * (c.bits-bits.result / 8 / 2)) c.is_high.ensures) c.p_words.ensures.words c.p_words.ensures.above c.zip-words.ensures
