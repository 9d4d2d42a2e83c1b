-- Each arm has the lines that its bits leave.
use Rattle.std.proofs.Common.{◌∙◌, sym, arith}
use Rattle.a64_rows.proofs.Narrowed.{words_11_10_at_0, words_11_10_at_1, words_11_10_at_2, words_11_10_at_3, words_11_10_at_4, words_11_10_at_6, words_11_10_at_others}
use Rattle.a64_rows.proofs.dispatch.words_11_10.Goals as goal

pub returns-in-0 : goal.returns-in-0
returns-in-0 g c = c.add_carry.ensures ∙ sym (words_11_10_at_0 c.args.w (sym c.bits.ensures ∙ c.in-0.is))

pub returns-in-1 : goal.returns-in-1
returns-in-1 g c = c.f_move.ensures ∙ sym (words_11_10_at_1 c.args.w (sym c.bits.ensures ∙ c.in-1.is))

pub returns-in-2 : goal.returns-in-2
returns-in-2 g c = c.words_of_comparisons.ensures ∙ sym (words_11_10_at_2 c.args.w (sym c.bits.ensures ∙ c.in-2.is))

pub returns-in-3 : goal.returns-in-3
returns-in-3 g c = c.f_move-in-3.ensures ∙ sym (words_11_10_at_3 c.args.w (sym c.bits.ensures ∙ c.in-3.is))

pub returns-in-4 : goal.returns-in-4
returns-in-4 g c = c.select.ensures ∙ sym (words_11_10_at_4 c.args.w (sym c.bits.ensures ∙ c.in-4.is))

pub returns-in-6 : goal.returns-in-6
returns-in-6 g c = c.words_of_sources.ensures ∙ sym (words_11_10_at_6 c.args.w (sym c.bits.ensures ∙ c.in-6.is))

pub returns-in_default : goal.returns-in_default
returns-in_default g c = sym (words_11_10_at_others c.args.w ((λ e. omega (arith, e)), ((λ e. omega (arith, e)), ((λ e. omega (arith, e)), ((λ e. omega (arith, e)), ((λ e. omega (arith, e)), ((λ e. omega (arith, e)), tt)))))))
