use Rattle.vec_regs.specs.Words.{bit_of}
use Rattle.pred_permutes.proofs.FieldPlaces.{uzp_field}
use Rattle.pred_permutes.proofs.unzipped.Goals as goal

pub returns-clause-fields : goal.returns-clause-fields
returns-clause-fields c = λ j h. uzp_field c.args.w c.args.bits j c.begin.result c.args.second (bit_of c.uzp.result) (bit_of c.args.a.now) (bit_of c.args.b.now) c.requires.field c.requires.whole c.begin.ensures.value h c.uzp.ensures.fields

pub returns-clause-above : goal.returns-clause-above
returns-clause-above c = c.uzp.ensures.above
