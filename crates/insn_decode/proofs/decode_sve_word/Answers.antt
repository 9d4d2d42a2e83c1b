use Rattle.std.proofs.Common.{ap, ◌∙◌}
use Rattle.emu_run.specs.ByTable.{sve}
use Rattle.insn_decode.proofs.Tables.{of_sve}
use Rattle.insn_decode.proofs.decode_sve_word.Goals as goal

pub returns-clause-table : goal.returns-clause-table
returns-clause-table c = ap sve c.decode_sve_here.ensures.form ∙ of_sve c.args.w c.requires
