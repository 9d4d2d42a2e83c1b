use Rattle.std.proofs.Common.{sym, subst}
use Rattle.a64_insn.specs.Table as base
use Rattle.a64_insn.specs.Rows as base_rows
use Rattle.sve_insn.specs.Table as vectors
use Rattle.sve_insn.specs.Rows as vector_rows
use Rattle.dis_text.specs.ReadBack.{IsInstruction}
use Rattle.dis_text.proofs.Rows.{decoded_row}
use Rattle.dis_text.proofs.Said.{shown_again}
use Rattle.dis_text.proofs.what_is_said_is_read_back.Goals as goal

pub returns-in-A64 : goal.returns-in-A64
returns-in-A64 c =
    shown_again c.args.i.now c.encode.result
    (subst IsInstruction (sym c.in-A64.is) (decoded_row base.a64_table c.encode_a64.result (base_rows.row_of c.in-A64.i) c.encode_a64.ensures.row))
    c.encode.ensures.table c.encode.ensures.back

pub returns-in-Sve : goal.returns-in-Sve
returns-in-Sve c =
    shown_again c.args.i.now c.encode.result
    (subst IsInstruction (sym c.in-Sve.is) (decoded_row vectors.sve_table c.encode_sve.result (vector_rows.row_of c.in-Sve.i) c.encode_sve.ensures.row))
    c.encode.ensures.table c.encode.ensures.back
