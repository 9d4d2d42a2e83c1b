use Rattle.std.proofs.Common.{◌≡◌, ◌∙◌, ◌<◌, ◌+◌, ◌%◌, ◌^◌, ℕ, map, get_or, set, length, inl, inr, sym, ap, subst, arith}
use Rattle.std.proofs.lemmas.Bool.{cases_eq}
use Rattle.std.proofs.lemmas.List.{length-set}
use Rattle.lane_pack.proofs.Places.{put_same, put_other}
use Rattle.sve_data.proofs.lanes.each_lane.Goals as goal

pub loop-j-preserved : goal.loop-j-preserved
loop-j-preserved g c =
    let e = g.T.Lane.BITS in
    let n = g.T.Lane.number in
    let i = c.loop-j.j in
    let out = c.loop-j.out in
    let room : c.loop-j.j < length c.loop-j.out = omega arith in
    record {
      count = length-set out i c.from_u64.result ∙ c.loop-j.invariant.count;
      lanes = λ j b. elim (cases_eq j i) [
        | inl s ↦
            (let P : ℕ → Type 0 = λ j. get_or (map g.T.Lane.number (set c.loop-j.out c.loop-j.j c.from_u64.result)) j 0 ≡ g.L.Gives.value c.args.lanes.now g.T.Lane.BITS c.args.vec.now (c.args.from + j) % 2 ^ g.T.Lane.BITS in
            subst P (sym s) (put_same n out i c.from_u64.result room ∙ c.from_u64.ensures ∙ ap (λ x. x % 2 ^ e) (c.lane.ensures ∙ ap (λ b. g.L.Gives.value c.args.lanes.now b c.args.vec.now (c.args.from + c.loop-j.j)) c.BITS.ensures)))
        | inr other ↦
            (let below : j < c.loop-j.j = omega arith in
            put_other n out i j c.from_u64.result other ∙ c.loop-j.invariant.lanes j below)
      ];
    }
