use Rattle.vec_regs.specs.Words.{bit_of}
use Rattle.pred_permutes.proofs.FieldPlaces.{trn_field, trn_above}
use Rattle.pred_permutes.proofs.transposed.Goals as goal

pub returns-clause-fields : goal.returns-clause-fields
returns-clause-fields c = λ j h. trn_field c.args.w c.args.bits j c.begin.result c.args.second (bit_of c.trn.result) (bit_of c.args.a.now) (bit_of c.args.b.now) c.requires.field c.begin.ensures.value c.trn.ensures

pub returns-clause-above : goal.returns-clause-above
returns-clause-above c = trn_above c.args.w c.begin.result c.args.bits (bit_of c.trn.result) (bit_of c.args.a.now) (bit_of c.args.b.now) c.requires.field c.requires.whole c.requires.first c.requires.second c.trn.ensures
