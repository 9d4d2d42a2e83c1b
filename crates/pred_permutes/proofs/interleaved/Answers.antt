use Rattle.std.proofs.Common.{◌≡◌, ◌/◌, ap, sym, subst, ◌∙◌}
use Rattle.sve_effects.specs.PermuteRows.{interleave_place}
use Rattle.vec_regs.specs.Words.{AreClearFrom}
use Rattle.pred_permutes.proofs.FieldPlaces.{field_size, fields_written}
use Rattle.pred_permutes.proofs.interleaved.Goals as goal

pub interleaved_words-words-requires-clause-field : goal.interleaved_words-words-requires-clause-field
interleaved_words-words-requires-clause-field c = field_size c.args.e c.requires

pub interleaved_words-words-requires-clause-first : goal.interleaved_words-words-requires-clause-first
interleaved_words-words-requires-clause-first c = subst (λ n. AreClearFrom (n / 8) c.p_words.result.now) (sym (c.bits-bits.ensures.value ∙ c.length.ensures.value)) c.p_words.ensures.above

pub interleaved_words-words-requires-clause-second : goal.interleaved_words-words-requires-clause-second
interleaved_words-words-requires-clause-second c = subst (λ n. AreClearFrom (n / 8) c.p_words-2.result.now) (sym (c.bits-bits.ensures.value ∙ c.length.ensures.value)) c.p_words-2.ensures.above

pub set_p_words-requires : goal.set_p_words-requires
set_p_words-requires c = subst (λ n. AreClearFrom (n / 8) c.interleaved_words-words.result) (c.bits-bits.ensures.value ∙ c.length.ensures.value) c.interleaved_words-words.ensures.above

pub returns : goal.returns
returns c =
    let bits : c.bits-bits.result / 8 ≡ c.args.vec.now.bits / 8 = ap (λ n. n / 8) (c.bits-bits.ensures.value ∙ c.length.ensures.value) in
    c.set_p_words.ensures
    ∙ fields_written c.args.e (c.bits-bits.result / 8) c.args.pn c.args.pm c.args.pd (interleave_place c.args.op) c.args.vec.now c.p_words.result.now c.p_words-2.result.now c.interleaved_words-words.result
    c.requires bits c.p_words.ensures.words c.p_words.ensures.above c.p_words-2.ensures.words c.p_words-2.ensures.above c.interleaved_words-words.ensures.fields
