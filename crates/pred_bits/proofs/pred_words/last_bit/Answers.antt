use Rattle.std.proofs.Common.{◌+◌, ◌-◌, ◌*◌, Some, None, w64, get_or, refl, sym, inl, inr, arith}
use Rattle.std.specs.Int.{leading_zeros}
use Rattle.std.proofs.lemmas.Bool.{cases_lt}
use Rattle.lane_model.specs.WordBits.{bit_of}
use Rattle.lane_model.proofs.Found.{last_is}
use Rattle.pred_bits.proofs.Places.{zero_word, last_found}
use Rattle.pred_bits.proofs.pred_words.last_bit.Goals as goal

pub returns-then-word-ne0-clause-value : goal.returns-then-word-ne0-clause-value
returns-then-word-ne0-clause-value c =
    let x = get_or c.args.words.now (c.loop-i.i - 1) 0 in
    sym (last_is 256 (bit_of c.args.words.now) (Some (64 * (c.loop-i.i - 1) + (63 - leading_zeros w64 x))) (last_found c.args.words.now (c.loop-i.i - 1) x refl (omega arith) (omega arith) (omega arith) (λ b p q. c.loop-i.invariant b (omega arith) q)))

pub loop-i-preserved : goal.loop-i-preserved
loop-i-preserved c b p q = elim (cases_lt b (64 * c.loop-i.i)) [
  | inl h ↦ zero_word c.args.words.now (c.loop-i.i - 1) b (omega arith) p (omega arith)
  | inr h ↦ c.loop-i.invariant b h q
]

pub returns-clause-value : goal.returns-clause-value
returns-clause-value c = sym (last_is 256 (bit_of c.args.words.now) None (λ b h. c.loop-i.invariant b (omega arith) h))
