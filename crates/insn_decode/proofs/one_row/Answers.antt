use Rattle.insn_decode.proofs.Tables.{one_row_of_all}
use Rattle.insn_decode.proofs.one_row.Goals as goal

pub returns : goal.returns
returns c = one_row_of_all c.one_row.ensures c.one_row-2.ensures
