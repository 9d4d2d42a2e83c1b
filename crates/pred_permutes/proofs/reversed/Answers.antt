use Rattle.std.proofs.Common.{◌≡◌, ◌/◌, ap, subst, ◌∙◌}
use Rattle.lane_model.specs.Permute.{rev_place}
use Rattle.vec_regs.specs.Words.{AreClearFrom}
use Rattle.pred_permutes.proofs.FieldPlaces.{field_size, fields_written}
use Rattle.pred_permutes.proofs.reversed.Goals as goal

pub rev-words-requires-clause-field : goal.rev-words-requires-clause-field
rev-words-requires-clause-field c = field_size c.args.e c.requires

pub set_p_words-requires : goal.set_p_words-requires
set_p_words-requires c = subst (λ n. AreClearFrom (n / 8) c.rev-words.result) (c.bits-bits.ensures.value ∙ c.length.ensures.value) c.rev-words.ensures.above

pub returns : goal.returns
returns c =
    let bits : c.bits-bits.result / 8 ≡ c.args.vec.now.bits / 8 = ap (λ n. n / 8) (c.bits-bits.ensures.value ∙ c.length.ensures.value) in
    c.set_p_words.ensures
    ∙ fields_written c.args.e (c.bits-bits.result / 8) c.args.pn c.args.pn c.args.pd rev_place c.args.vec.now c.p_words.result.now c.p_words.result.now c.rev-words.result
    c.requires bits c.p_words.ensures.words c.p_words.ensures.above c.p_words.ensures.words c.p_words.ensures.above c.rev-words.ensures.fields
