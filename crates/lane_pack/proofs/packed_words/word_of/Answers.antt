use Rattle.std.proofs.Common.{◌≡◌, ◌∙◌, ◌<◌, ◌≤◌, ◌+◌, ◌-◌, ◌*◌, ◌%◌, ◌^◌, ℕ, sym, ap, ap₂, subst, arith}
use Rattle.lane_pack.proofs.Places.{grown, unshifted, lane_back}
use Rattle.lane_pack.proofs.packed_words.word_of.Goals as goal

pub loop-j-preserved : goal.loop-j-preserved
loop-j-preserved g c =
    let e = g.T.Lane.BITS in
    let j = c.loop-j.j in
    let n = c.args.n in
    let x = c.loop-j.so_far in
    let r = c.to_u64-lane.result in
    let some : 0 < c.loop-j.j = omega arith in
    let within : c.loop-j.j ≤ c.args.n = omega arith in
    let sum : x * 2 ^ c.BITS-else-BITS-eq64.result % 2 ^ 64 + r ≡ x * 2 ^ e + r
    = ap (λ b. x * 2 ^ b % 2 ^ 64 + r) c.BITS-else-BITS-eq64.ensures ∙ ap (λ y. y + r) (unshifted e x r n j c.loop-j.invariant.small c.to_u64-lane.ensures.below some within c.requires.few) in
    let turned : (a b p : ℕ) → a * p + b ≡ b + p * a = λ a b p. omega arith in
    record {
      is = sum ∙ turned x r (2 ^ e) ∙ ap₂ (λ a b. a + 2 ^ e * b) c.to_u64-lane.ensures.value c.loop-j.invariant.is ∙ sym (lane_back g.T.Lane.number (2 ^ e) c.args.at n j c.args.lanes.now c.index-lanes-at.result some within c.requires.inside c.index-lanes-at.is);
      small = subst (λ y. y < 2 ^ ((n - (j - 1)) * e)) (sym sum) (grown e x r n j c.loop-j.invariant.small c.to_u64-lane.ensures.below some within);
    }
