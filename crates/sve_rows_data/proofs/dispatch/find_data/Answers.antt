-- Each arm has the lines that its bits leave.
use Rattle.std.proofs.Common.{◌∙◌, sym, arith}
use Rattle.sve_rows_data.proofs.Narrowed.{find_data_at_0, find_data_at_1, find_data_at_2, find_data_at_3, find_data_at_4, find_data_at_5, find_data_at_6, find_data_at_others}
use Rattle.sve_rows_data.proofs.dispatch.find_data.Goals as goal

pub returns-in-0 : goal.returns-in-0
returns-in-0 c = c.words_of_operations_and_dots.ensures ∙ sym (find_data_at_0 c.args.w (sym c.bits.ensures ∙ c.in-0.is))

pub returns-in-1 : goal.returns-in-1
returns-in-1 c = c.words_of_logic_copies_and_folds.ensures ∙ sym (find_data_at_1 c.args.w (sym c.bits.ensures ∙ c.in-1.is))

pub returns-in-2 : goal.returns-in-2
returns-in-2 c = c.words_of_sums_series_and_lengths.ensures ∙ sym (find_data_at_2 c.args.w (sym c.bits.ensures ∙ c.in-2.is))

pub returns-in-3 : goal.returns-in-3
returns-in-3 c = c.mul_add_z.ensures ∙ sym (find_data_at_3 c.args.w (sym c.bits.ensures ∙ c.in-3.is))

pub returns-in-4 : goal.returns-in-4
returns-in-4 c = c.words_of_shifts.ensures ∙ sym (find_data_at_4 c.args.w (sym c.bits.ensures ∙ c.in-4.is))

pub returns-in-5 : goal.returns-in-5
returns-in-5 c = c.words_of_one_source.ensures ∙ sym (find_data_at_5 c.args.w (sym c.bits.ensures ∙ c.in-5.is))

pub returns-in-6 : goal.returns-in-6
returns-in-6 c = c.words_of_sums_and_lane_counts.ensures ∙ sym (find_data_at_6 c.args.w (sym c.bits.ensures ∙ c.in-6.is))

pub returns-in_default : goal.returns-in_default
returns-in_default c = c.words_of_sums_and_register_counts.ensures ∙ sym (find_data_at_others c.args.w ((λ e. omega (arith, e)), ((λ e. omega (arith, e)), ((λ e. omega (arith, e)), ((λ e. omega (arith, e)), ((λ e. omega (arith, e)), ((λ e. omega (arith, e)), ((λ e. omega (arith, e)), tt))))))))
