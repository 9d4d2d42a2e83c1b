-- Each arm has the lines that its bits leave.
use Rattle.std.proofs.Common.{◌∙◌, sym, arith}
use Rattle.sve_rows_memory.proofs.Narrowed.{words_of_contiguous_loads_at_0, words_of_contiguous_loads_at_1, words_of_contiguous_loads_at_2, words_of_contiguous_loads_at_3, words_of_contiguous_loads_at_5, words_of_contiguous_loads_at_others}
use Rattle.sve_rows_memory.proofs.dispatch.words_of_contiguous_loads.Goals as goal

pub returns-in-0 : goal.returns-in-0
returns-in-0 c = c.load_quad_reg.ensures ∙ sym (words_of_contiguous_loads_at_0 c.args.w (sym c.bits.ensures ∙ c.in-0.is))

pub returns-in-1 : goal.returns-in-1
returns-in-1 c = c.load_quad_imm.ensures ∙ sym (words_of_contiguous_loads_at_1 c.args.w (sym c.bits.ensures ∙ c.in-1.is))

pub returns-in-2 : goal.returns-in-2
returns-in-2 c = c.load_reg.ensures ∙ sym (words_of_contiguous_loads_at_2 c.args.w (sym c.bits.ensures ∙ c.in-2.is))

pub returns-in-3 : goal.returns-in-3
returns-in-3 c = c.load_ff.ensures ∙ sym (words_of_contiguous_loads_at_3 c.args.w (sym c.bits.ensures ∙ c.in-3.is))

pub returns-in-5 : goal.returns-in-5
returns-in-5 c = c.words_of_typed_loads.ensures ∙ sym (words_of_contiguous_loads_at_5 c.args.w (sym c.bits.ensures ∙ c.in-5.is))

pub returns-in_default : goal.returns-in_default
returns-in_default c = c.words_of_sized_loads.ensures ∙ sym (words_of_contiguous_loads_at_others c.args.w ((λ e. omega (arith, e)), ((λ e. omega (arith, e)), ((λ e. omega (arith, e)), ((λ e. omega (arith, e)), ((λ e. omega (arith, e)), tt))))))
