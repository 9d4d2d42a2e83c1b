-- Each arm has the lines that its bits leave.
use Rattle.std.proofs.Common.{◌∙◌, sym, arith}
use Rattle.sve_rows.proofs.Narrowed.{find_at_1, find_at_others}
use Rattle.sve_rows.proofs.dispatch.find.Goals as goal

pub returns-in-1 : goal.returns-in-1
returns-in-1 c = c.find_memory.ensures ∙ sym (find_at_1 c.args.w (sym c.bits.ensures ∙ c.in-1.is))

pub returns-in_default : goal.returns-in_default
returns-in_default c = c.words_of_registers.ensures ∙ sym (find_at_others c.args.w ((λ e. omega (arith, e)), tt))
