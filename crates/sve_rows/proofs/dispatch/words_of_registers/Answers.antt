-- Each arm has the lines that its bits leave.
use Rattle.std.proofs.Common.{◌∙◌, sym, arith}
use Rattle.sve_rows.proofs.Narrowed.{words_of_registers_at_4, words_of_registers_at_5, words_of_registers_at_36, words_of_registers_at_37, words_of_registers_at_68, words_of_registers_at_others}
use Rattle.sve_rows.proofs.dispatch.words_of_registers.Goals as goal

pub returns-in-4 : goal.returns-in-4
returns-in-4 c = c.find_data.ensures ∙ sym (words_of_registers_at_4 c.args.w (sym c.bits.ensures ∙ c.in-4.is))

pub returns-in-5 : goal.returns-in-5
returns-in-5 c = c.words_of_reversals_and_moves.ensures ∙ sym (words_of_registers_at_5 c.args.w (sym c.bits.ensures ∙ c.in-5.is))

pub returns-in-36 : goal.returns-in-36
returns-in-36 c = c.find_predicates.ensures ∙ sym (words_of_registers_at_36 c.args.w (sym c.bits.ensures ∙ c.in-36.is))

pub returns-in-37 : goal.returns-in-37
returns-in-37 c = c.find_predicates-in-37.ensures ∙ sym (words_of_registers_at_37 c.args.w (sym c.bits.ensures ∙ c.in-37.is))

pub returns-in-68 : goal.returns-in-68
returns-in-68 c = c.find_data-in-68.ensures ∙ sym (words_of_registers_at_68 c.args.w (sym c.bits.ensures ∙ c.in-68.is))

pub returns-in_default : goal.returns-in_default
returns-in_default c = sym (words_of_registers_at_others c.args.w ((λ e. omega (arith, e)), ((λ e. omega (arith, e)), ((λ e. omega (arith, e)), ((λ e. omega (arith, e)), ((λ e. omega (arith, e)), tt))))))
