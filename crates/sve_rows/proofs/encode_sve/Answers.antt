use Rattle.std.proofs.Common.{◌∙◌, ap}
use Rattle.emu_bits.specs.Rows.{decode}
use Rattle.sve_insn.specs.Table.{sve_table}
use Rattle.sve_rows.proofs.Laws.{back, form_back}
use Rattle.sve_rows.proofs.encode_sve.Goals as goal

pub returns-clause-row : goal.returns-clause-row
returns-clause-row c = ap (decode sve_table) c.word_of.ensures.table ∙ back c.args.i.now c.word_of.ensures.shape c.word_of.ensures.met

pub returns-clause-back : goal.returns-clause-back
returns-clause-back c =
    form_back c.args.i.now c.word_of.result
    (ap (decode sve_table) c.word_of.ensures.table ∙ back c.args.i.now c.word_of.ensures.shape c.word_of.ensures.met)
