use Rattle.std.proofs.Common.{◌+◌, ◌*◌, ℕ, Option, Some, None, w64, get_or, refl, sym, ap, inl, inr, ◌∙◌, arith}
use Rattle.std.specs.Int.{trailing_zeros}
use Rattle.std.proofs.lemmas.Bool.{cases_lt}
use Rattle.std.proofs.lemmas.Nat.Bits.{bit_at-trailing_zeros}
use Rattle.lane_model.specs.WordBits.{bit_of}
use Rattle.lane_model.proofs.Found.{first_is}
use Rattle.lane_model.specs.FirstLastLaws.{answer_at}
use Rattle.pred_bits.proofs.Made.{bit_placed}
use Rattle.pred_bits.proofs.Places.{zero_word, first_found}
use Rattle.pred_bits.proofs.pred_words.first_is_in.Goals as goal

pub returns-then-word-ne0 : goal.returns-then-word-ne0
returns-then-word-ne0 c =
    let x : ℕ = get_or c.args.on.now c.loop-i.i 0 in
    let it = bit_at-trailing_zeros w64 (get_or c.args.on.now c.loop-i.i 0) (omega arith) (omega arith) in
    sym (bit_placed c.args.set.now c.loop-i.i (trailing_zeros w64 x) it.0)
    ∙ ap (λ (o : Option ℕ). answer_at o (bit_of c.args.set.now))
    (sym (first_is 256 (bit_of c.args.on.now) (Some (64 * c.loop-i.i + trailing_zeros w64 x)) (first_found c.args.on.now c.loop-i.i x refl (omega arith) (omega arith) (omega arith) c.loop-i.invariant)))

pub loop-i-preserved : goal.loop-i-preserved
loop-i-preserved c b h = elim (cases_lt b (64 * c.loop-i.i)) [
  | inl q ↦ c.loop-i.invariant b q
  | inr q ↦ zero_word c.args.on.now c.loop-i.i b (omega arith) q (omega arith)
]

pub returns : goal.returns
returns c = ap (λ (o : Option ℕ). answer_at o (bit_of c.args.set.now)) (sym (first_is 256 (bit_of c.args.on.now) None (λ b h. c.loop-i.invariant b (omega arith))))
