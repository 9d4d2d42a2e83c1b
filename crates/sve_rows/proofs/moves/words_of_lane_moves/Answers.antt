-- Each arm has the lines that its bits leave.
use Rattle.std.proofs.Common.{◌∙◌, sym, arith}
use Rattle.sve_rows.proofs.NarrowedMoves.{words_of_lane_moves_at_0, words_of_lane_moves_at_others}
use Rattle.sve_rows.proofs.moves.words_of_lane_moves.Goals as goal

pub returns-in-0 : goal.returns-in-0
returns-in-0 c = c.ext.ensures ∙ sym (words_of_lane_moves_at_0 c.args.w (sym c.bits.ensures ∙ c.in-0.is))

pub returns-in_default : goal.returns-in_default
returns-in_default c = c.words_of_lane_moves_and_duplicates.ensures ∙ sym (words_of_lane_moves_at_others c.args.w ((λ e. omega (arith, e)), tt))
