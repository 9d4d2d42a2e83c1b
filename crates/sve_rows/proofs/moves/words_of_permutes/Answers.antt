-- Each arm has the lines that its bits leave.
use Rattle.std.proofs.Common.{◌∙◌, sym, arith}
use Rattle.sve_rows.proofs.NarrowedMoves.{words_of_permutes_at_0, words_of_permutes_at_1, words_of_permutes_at_2, words_of_permutes_at_others}
use Rattle.sve_rows.proofs.moves.words_of_permutes.Goals as goal

pub returns-in-0 : goal.returns-in-0
returns-in-0 c = c.words_of_lane_moves.ensures ∙ sym (words_of_permutes_at_0 c.args.w (sym c.bits.ensures ∙ c.in-0.is))

pub returns-in-1 : goal.returns-in-1
returns-in-1 c = c.words_of_interleavings.ensures ∙ sym (words_of_permutes_at_1 c.args.w (sym c.bits.ensures ∙ c.in-1.is))

pub returns-in-2 : goal.returns-in-2
returns-in-2 c = c.words_of_active_lanes.ensures ∙ sym (words_of_permutes_at_2 c.args.w (sym c.bits.ensures ∙ c.in-2.is))

pub returns-in_default : goal.returns-in_default
returns-in_default c = c.select_z.ensures ∙ sym (words_of_permutes_at_others c.args.w ((λ e. omega (arith, e)), ((λ e. omega (arith, e)), ((λ e. omega (arith, e)), tt))))
