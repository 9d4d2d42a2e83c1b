-- Each arm has the lines that its bits leave.
use Rattle.std.proofs.Common.{◌∙◌, sym, arith}
use Rattle.a64_rows.proofs.Narrowed.{words_10110_at_0, words_10110_at_1, words_10110_at_2, words_10110_at_others}
use Rattle.a64_rows.proofs.dispatch.words_10110.Goals as goal

pub returns-in-0 : goal.returns-in-0
returns-in-0 g c = c.branch-w.ensures ∙ sym (words_10110_at_0 c.args.w (sym c.bits.ensures ∙ c.in-0.is))

pub returns-in-1 : goal.returns-in-1
returns-in-1 g c = c.test_branch.ensures ∙ sym (words_10110_at_1 c.args.w (sym c.bits.ensures ∙ c.in-1.is))

pub returns-in-2 : goal.returns-in-2
returns-in-2 g c = c.branch_reg.ensures ∙ sym (words_10110_at_2 c.args.w (sym c.bits.ensures ∙ c.in-2.is))

pub returns-in_default : goal.returns-in_default
returns-in_default g c = sym (words_10110_at_others c.args.w ((λ e. omega (arith, e)), ((λ e. omega (arith, e)), ((λ e. omega (arith, e)), tt))))
