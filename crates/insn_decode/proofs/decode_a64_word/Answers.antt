use Rattle.std.proofs.Common.{ap, ◌∙◌}
use Rattle.emu_run.specs.ByTable.{a64}
use Rattle.insn_decode.proofs.Tables.{of_a64}
use Rattle.insn_decode.proofs.decode_a64_word.Goals as goal

pub returns-clause-table : goal.returns-clause-table
returns-clause-table g c = ap a64 c.decode_a64_at.ensures.form ∙ of_a64 c.args.w (c.requires, tt)
