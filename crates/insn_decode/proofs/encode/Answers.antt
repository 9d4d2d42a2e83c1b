use Rattle.std.proofs.Common.{◌∙◌, Some, sym, ap}
use Rattle.sve_insn.specs.Rows.{row_of}
use Rattle.emu_run.specs.declared.insn.Insn.{Insn}
use Rattle.insn_decode.proofs.Tables.{sve_again}
use Rattle.insn_decode.proofs.encode.Goals as goal

pub returns-in-Sve-clause-back : goal.returns-in-Sve-clause-back
returns-in-Sve-clause-back c =
    sve_again c.encode_sve.result (row_of c.in-Sve.i) c.in-Sve.i c.encode_sve.ensures.row c.encode_sve.ensures.back ∙ ap (λ (i : Insn). Some i) (sym c.in-Sve.is)
