use Rattle.std.proofs.Common.{◌+◌, ◌-◌, ◌*◌, ℕ, Option, Some, None, w64, get_or, refl, sym, ap, inl, inr, ◌∙◌, arith}
use Rattle.std.specs.Int.{leading_zeros}
use Rattle.std.proofs.lemmas.Bool.{cases_lt}
use Rattle.lane_model.specs.WordBits.{bit_of}
use Rattle.lane_model.proofs.Found.{last_is}
use Rattle.lane_model.specs.FirstLastLaws.{answer_at}
use Rattle.pred_bits.proofs.Made.{bit_placed}
use Rattle.pred_bits.proofs.Places.{zero_word, last_found}
use Rattle.pred_bits.proofs.pred_words.last_is_in.Goals as goal

pub returns-then-word-ne0 : goal.returns-then-word-ne0
returns-then-word-ne0 c =
    let x : ℕ = get_or c.args.on.now (c.loop-i.i - 1) 0 in
    sym (bit_placed c.args.set.now (c.loop-i.i - 1) (63 - leading_zeros w64 x) (omega arith))
    ∙ ap (λ (o : Option ℕ). answer_at o (bit_of c.args.set.now))
    (sym (last_is 256 (bit_of c.args.on.now) (Some (64 * (c.loop-i.i - 1) + (63 - leading_zeros w64 x)))
    (last_found c.args.on.now (c.loop-i.i - 1) x refl (omega arith) (omega arith) (omega arith) (λ b p q. c.loop-i.invariant b (omega arith) q))))

pub loop-i-preserved : goal.loop-i-preserved
loop-i-preserved c b p q = elim (cases_lt b (64 * c.loop-i.i)) [
  | inl h ↦ zero_word c.args.on.now (c.loop-i.i - 1) b (omega arith) p (omega arith)
  | inr h ↦ c.loop-i.invariant b h q
]

pub returns : goal.returns
returns c = ap (λ (o : Option ℕ). answer_at o (bit_of c.args.set.now)) (sym (last_is 256 (bit_of c.args.on.now) None (λ b h. c.loop-i.invariant b (omega arith) h)))
