-- Each arm has the lines that its bits leave.
use Rattle.std.proofs.Common.{◌∙◌, sym, arith}
use Rattle.sve_rows_predicates.proofs.Narrowed.{find_predicates_at_0, find_predicates_at_others}
use Rattle.sve_rows_predicates.proofs.dispatch.find_predicates.Goals as goal

pub returns-in-0 : goal.returns-in-0
returns-in-0 c = c.words_of_vector_compares.ensures ∙ sym (find_predicates_at_0 c.args.w (sym c.bits.ensures ∙ c.in-0.is))

pub returns-in_default : goal.returns-in_default
returns-in_default c = c.words_of_predicates_and_immediates.ensures ∙ sym (find_predicates_at_others c.args.w ((λ e. omega (arith, e)), tt))
