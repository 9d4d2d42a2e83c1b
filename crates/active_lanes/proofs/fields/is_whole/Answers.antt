use Rattle.std.proofs.Common.{refl}
use Rattle.std.proofs.lemmas.Bool.{eqb-true}
use Rattle.active_lanes.proofs.FieldBits.{whole_by, full1, full2, some2, full4, some4}
use Rattle.active_lanes.proofs.fields.is_whole.Goals as goal

pub returns-in-8 : goal.returns-in-8
returns-in-8 c = λ is. whole_by c.args.e 8 1 c.args.field 255 c.in-8.is refl (eqb-true c.args.field 255 is) full1

pub returns-then-field-eq85 : goal.returns-then-field-eq85
returns-then-field-eq85 c = λ is. whole_by c.args.e 16 2 c.args.field 85 c.in-16.is refl c.if-field-eq85.true some2

pub returns-else-field-eq85 : goal.returns-else-field-eq85
returns-else-field-eq85 c = λ is. whole_by c.args.e 16 2 c.args.field 255 c.in-16.is refl (eqb-true c.args.field 255 is) full2

pub returns-then-field-eq17 : goal.returns-then-field-eq17
returns-then-field-eq17 c = λ is. whole_by c.args.e 32 4 c.args.field 17 c.in-32.is refl c.if-field-eq17.true some4

pub returns-else-field-eq17 : goal.returns-else-field-eq17
returns-else-field-eq17 c = λ is. whole_by c.args.e 32 4 c.args.field 255 c.in-32.is refl (eqb-true c.args.field 255 is) full4
