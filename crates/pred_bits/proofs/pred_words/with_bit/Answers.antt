use Rattle.std.proofs.Common.{w64, nat_eq, sym, ap, ◌∙◌}
use Rattle.std.proofs.lemmas.Nat.Bits.{bit_at_set_same, bit_at_set_other, bit_at_clear_same, bit_at_clear_other}
use Rattle.pred_bits.proofs.pred_words.with_bit.Goals as goal

pub returns-then-v-clause-written : goal.returns-then-v-clause-written
returns-then-v-clause-written c = ap (λ x. nat_eq x 1) (bit_at_set_same w64 c.args.word c.args.at c.requires) ∙ sym c.if-v.true

pub returns-then-v-clause-others : goal.returns-then-v-clause-others
returns-then-v-clause-others c i h other = bit_at_set_other w64 c.args.word c.args.at c.requires i other

pub returns-else-v-clause-written : goal.returns-else-v-clause-written
returns-else-v-clause-written c = ap (λ x. nat_eq x 1) (bit_at_clear_same w64 c.args.word c.args.at c.requires) ∙ sym c.if-v.false

pub returns-else-v-clause-others : goal.returns-else-v-clause-others
returns-else-v-clause-others c i h other = bit_at_clear_other w64 c.args.word c.args.at c.requires i h other
