-- Each arm has the lines that its bits leave.
use Rattle.std.proofs.Common.{◌∙◌, sym, arith}
use Rattle.sve_rows_predicates.proofs.Narrowed.{words_of_single_predicates_at_0, words_of_single_predicates_at_8, words_of_single_predicates_at_9, words_of_single_predicates_at_others}
use Rattle.sve_rows_predicates.proofs.dispatch.words_of_single_predicates.Goals as goal

pub returns-in-0 : goal.returns-in-0
returns-in-0 c = c.ptest.ensures ∙ sym (words_of_single_predicates_at_0 c.args.w (sym c.bits.ensures ∙ c.in-0.is))

pub returns-in-8 : goal.returns-in-8
returns-in-8 c = c.words_of_whole_predicates.ensures ∙ sym (words_of_single_predicates_at_8 c.args.w (sym c.bits.ensures ∙ c.in-8.is))

pub returns-in-9 : goal.returns-in-9
returns-in-9 c = c.words_of_next_and_flags.ensures ∙ sym (words_of_single_predicates_at_9 c.args.w (sym c.bits.ensures ∙ c.in-9.is))

pub returns-in_default : goal.returns-in_default
returns-in_default c = sym (words_of_single_predicates_at_others c.args.w ((λ e. omega (arith, e)), ((λ e. omega (arith, e)), ((λ e. omega (arith, e)), tt))))
