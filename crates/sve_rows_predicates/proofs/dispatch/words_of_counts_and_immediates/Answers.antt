-- Each arm has the lines that its bits leave.
use Rattle.std.proofs.Common.{◌∙◌, sym, arith}
use Rattle.sve_rows_predicates.proofs.Narrowed.{words_of_counts_and_immediates_at_0, words_of_counts_and_immediates_at_2, words_of_counts_and_immediates_at_3, words_of_counts_and_immediates_at_others}
use Rattle.sve_rows_predicates.proofs.dispatch.words_of_counts_and_immediates.Goals as goal

pub returns-in-0 : goal.returns-in-0
returns-in-0 c = c.words_of_register_compares.ensures ∙ sym (words_of_counts_and_immediates_at_0 c.args.w (sym c.bits.ensures ∙ c.in-0.is))

pub returns-in-2 : goal.returns-in-2
returns-in-2 c = c.words_of_predicate_counts.ensures ∙ sym (words_of_counts_and_immediates_at_2 c.args.w (sym c.bits.ensures ∙ c.in-2.is))

pub returns-in-3 : goal.returns-in-3
returns-in-3 c = c.words_of_immediates.ensures ∙ sym (words_of_counts_and_immediates_at_3 c.args.w (sym c.bits.ensures ∙ c.in-3.is))

pub returns-in_default : goal.returns-in_default
returns-in_default c = sym (words_of_counts_and_immediates_at_others c.args.w ((λ e. omega (arith, e)), ((λ e. omega (arith, e)), ((λ e. omega (arith, e)), tt))))
