use Rattle.std.proofs.Common.{arith}
use Rattle.sve_rows.proofs.Laws.{form_found, word_again}
use Rattle.sve_rows.proofs.decode_sve_here.Goals as goal

pub returns-clause-form : goal.returns-clause-form
returns-clause-form c = form_found c.find.result c.args.w c.find.ensures

pub returns-clause-back : goal.returns-clause-back
returns-clause-back c = word_again c.args.w c.find.result (omega arith) c.find.ensures
