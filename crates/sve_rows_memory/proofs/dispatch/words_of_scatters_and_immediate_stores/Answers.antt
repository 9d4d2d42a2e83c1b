-- Each arm has the lines that its bits leave.
use Rattle.std.proofs.Common.{◌∙◌, sym, arith}
use Rattle.sve_rows_memory.proofs.Narrowed.{words_of_scatters_and_immediate_stores_at_0, words_of_scatters_and_immediate_stores_at_others}
use Rattle.sve_rows_memory.proofs.dispatch.words_of_scatters_and_immediate_stores.Goals as goal

pub returns-in-0 : goal.returns-in-0
returns-in-0 c = c.words_of_extended_scatters.ensures ∙ sym (words_of_scatters_and_immediate_stores_at_0 c.args.w (sym c.bits.ensures ∙ c.in-0.is))

pub returns-in_default : goal.returns-in_default
returns-in_default c = c.words_of_plain_scatters_and_immediate_stores.ensures ∙ sym (words_of_scatters_and_immediate_stores_at_others c.args.w ((λ e. omega (arith, e)), tt))
