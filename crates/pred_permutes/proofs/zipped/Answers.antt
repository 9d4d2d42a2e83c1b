use Rattle.vec_regs.specs.Words.{bit_of}
use Rattle.pred_permutes.proofs.FieldPlaces.{zip_field, zip_above}
use Rattle.pred_permutes.proofs.zipped.Goals as goal

pub returns-clause-fields : goal.returns-clause-fields
returns-clause-fields c = λ j h. zip_field c.args.w c.args.bits j c.begin.result c.args.second (bit_of c.zip.result) (bit_of c.args.a.now) (bit_of c.args.b.now) c.requires.field c.requires.whole c.begin.ensures.value h c.zip.ensures

pub returns-clause-above : goal.returns-clause-above
returns-clause-above c = zip_above c.args.w c.args.bits c.begin.result (bit_of c.zip.result) (bit_of c.args.a.now) (bit_of c.args.b.now) c.zip.ensures
