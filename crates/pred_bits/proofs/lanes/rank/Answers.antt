use Rattle.std.proofs.Common.{◌≡◌, ◌<◌, ◌+◌, ◌%◌, ◌^◌, inl, inr, refl, sym, ap, subst, ◌∙◌}
use Rattle.pred_bits.specs.LaneBits.{offset}
use Rattle.pred_bits.proofs.Loops.{rank_wrapped}
use Rattle.pred_bits.proofs.lanes.rank.Goals as goal

pub returns-then-width-eq64 : goal.returns-then-width-eq64
returns-then-width-eq64 c =
    let is : 64 ≡ c.args.width = sym c.if-width-eq64.true in
    record {
      value = c.low_bits.ensures.value ∙ rank_wrapped 64 (c.args.x + c.offset.result) (inr refl) ∙ ap (λ n. (c.args.x + n) % 2 ^ 64) c.offset.ensures
          ∙ ap (λ w. (c.args.x + offset c.args.test w) % 2 ^ w) is;
      small = subst (λ w. c.low_bits.result < 2 ^ w) is c.low_bits.ensures.small;
    }

pub returns-else-width-eq64 : goal.returns-else-width-eq64
returns-else-width-eq64 c =
    let is : 32 ≡ c.args.width = elim c.requires [ inl e ↦ sym e | inr e ↦ absurd (c.if-width-eq64.false e) ] in
    record {
      value = c.low_bits-else-width-eq64.ensures.value ∙ rank_wrapped 32 (c.args.x + c.offset-else-width-eq64.result) (inl refl) ∙ ap (λ n. (c.args.x + n) % 2 ^ 32) c.offset-else-width-eq64.ensures
          ∙ ap (λ w. (c.args.x + offset c.args.test w) % 2 ^ w) is;
      small = subst (λ w. c.low_bits-else-width-eq64.result < 2 ^ w) is c.low_bits-else-width-eq64.ensures.small;
    }
