use Rattle.std.proofs.Common.{◌≡◌, ◌∙◌, ◌<◌, ◌+◌, ◌*◌, ◌/◌, ◌%◌, ◌^◌, ℕ, map, get_or, set, length, inl, inr, sym, ap, subst, arith}
use Rattle.std.proofs.lemmas.Bool.{cases_eq}
use Rattle.std.proofs.lemmas.List.{length-set}
use Rattle.lane_pack.proofs.Places.{put_same, put_other}
use Rattle.lane_pack.proofs.packed_words.put_lanes.Goals as goal

pub loop-j-preserved : goal.loop-j-preserved
loop-j-preserved g c =
    let e = g.T.Lane.BITS in
    let n = g.T.Lane.number in
    let at = c.args.at in
    let i = c.loop-j.j in
    let out = c.loop-j.out in
    let room : c.args.at + c.loop-j.j < length c.loop-j.out = omega arith in
    record {
      count = length-set out (at + i) c.from_u64.result ∙ c.loop-j.invariant.count;
      lanes = λ j b. elim (cases_eq j i) [
        | inl s ↦
            (let P : ℕ → Type 0 = λ j. get_or (map g.T.Lane.number (set c.loop-j.out (c.args.at + c.loop-j.j) c.from_u64.result)) (c.args.at + j) 0 ≡ c.args.word / 2 ^ (j * g.T.Lane.BITS) % 2 ^ g.T.Lane.BITS in
            subst P (sym s) (put_same n out (at + i) c.from_u64.result room ∙ c.from_u64.ensures ∙ ap (λ b. c.args.word / 2 ^ (c.loop-j.j * b) % 2 ^ e) c.BITS.ensures))
        | inr other ↦
            (let apart : c.args.at + j ≡ c.args.at + c.loop-j.j → ⊥ = λ s. other (omega arith) in
            let below : j < c.loop-j.j = omega arith in
            put_other n out (at + i) (at + j) c.from_u64.result apart ∙ c.loop-j.invariant.lanes j below)
      ];
      before = λ k b.
          let apart : k ≡ c.args.at + c.loop-j.j → ⊥ = λ s. omega arith in
          put_other n out (at + i) k c.from_u64.result apart ∙ c.loop-j.invariant.before k b;
    }
