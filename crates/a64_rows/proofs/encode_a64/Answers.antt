use Rattle.std.proofs.Common.{◌∙◌, ap}
use Rattle.emu_bits.specs.Rows.{decode}
use Rattle.a64_insn.specs.Table.{a64_table}
use Rattle.a64_rows.proofs.Laws.{back, form_back}
use Rattle.a64_rows.proofs.encode_a64.Goals as goal

pub returns-clause-table : goal.returns-clause-table
returns-clause-table c = (rw c.form.ensures.form at c.word_of.ensures).0

pub returns-clause-row : goal.returns-clause-row
returns-clause-row c =
    let word = rw c.form.ensures.form at c.word_of.ensures in
    ap (decode a64_table) word.0 ∙ back c.args.i.now word.1 c.form.ensures.meets

pub returns-clause-back : goal.returns-clause-back
returns-clause-back c =
    let word = rw c.form.ensures.form at c.word_of.ensures in
    form_back c.args.i.now c.word_of.result
    (ap (decode a64_table) word.0 ∙ back c.args.i.now word.1 c.form.ensures.meets)
