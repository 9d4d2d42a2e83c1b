use Rattle.std.proofs.Common.{◌+◌, ◌*◌, Some, None, w64, get_or, refl, sym, inl, inr, arith}
use Rattle.std.specs.Int.{trailing_zeros}
use Rattle.std.proofs.lemmas.Bool.{cases_lt}
use Rattle.lane_model.specs.WordBits.{bit_of}
use Rattle.lane_model.proofs.Found.{first_is}
use Rattle.pred_bits.proofs.Places.{zero_word, first_found}
use Rattle.pred_bits.proofs.pred_words.first_bit.Goals as goal

pub returns-then-word-ne0-clause-value : goal.returns-then-word-ne0-clause-value
returns-then-word-ne0-clause-value c =
    let x = get_or c.args.words.now c.loop-i.i 0 in
    sym (first_is 256 (bit_of c.args.words.now) (Some (64 * c.loop-i.i + trailing_zeros w64 x)) (first_found c.args.words.now c.loop-i.i x refl (omega arith) (omega arith) (omega arith) c.loop-i.invariant))

pub loop-i-preserved : goal.loop-i-preserved
loop-i-preserved c b h = elim (cases_lt b (64 * c.loop-i.i)) [
  | inl q ↦ c.loop-i.invariant b q
  | inr q ↦ zero_word c.args.words.now c.loop-i.i b (omega arith) q (omega arith)
]

pub returns-clause-value : goal.returns-clause-value
returns-clause-value c = sym (first_is 256 (bit_of c.args.words.now) None (λ b h. c.loop-i.invariant b (omega arith)))
