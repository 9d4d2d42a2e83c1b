use Rattle.std.proofs.Common.{◌&&◌, sym, ap, ◌∙◌, Option, ℕ}
use Rattle.lane_model.specs.WordBits.{bit_of}
use Rattle.lane_model.specs.Predicate.{is_behind}
use Rattle.pred_bits.proofs.LaneWords.{and_true}
use Rattle.pred_bits.proofs.pred_words.behind.Goals as goal

pub returns-in-Some : goal.returns-in-Some
returns-in-Some c b = c.behind_place.ensures b ∙ sym (ap (λ (o : Option ℕ). bit_of c.args.words.now b && is_behind o b) c.in-Some.is)

pub returns-in-None : goal.returns-in-None
returns-in-None c b = sym (and_true (bit_of c.args.words.now b)) ∙ sym (ap (λ (o : Option ℕ). bit_of c.args.words.now b && is_behind o b) c.in-None.is)
