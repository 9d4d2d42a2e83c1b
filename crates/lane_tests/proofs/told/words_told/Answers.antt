use Rattle.std.proofs.Common.{◌≡◌, ◌<◌, ◌∙◌, ℕ, Bool, false, List, length, get_or, replicate, refl, ap, arith}
use Rattle.std.proofs.lemmas.List.{length-set}
use Rattle.vec_regs.proofs.PackedLanes.{still}
use Rattle.vec_regs.proofs.Views.{zero_word}
use Rattle.lane_tests.proofs.ToldBits.{one_part, parts_more, small_more, all_parts}
use Rattle.lane_tests.proofs.told.words_told.Goals as goal

pub loop-i-init : goal.loop-i-init
loop-i-init g c = record {
  count = refl;
  small = λ k. let zero : let xs : List ℕ = replicate 16 0 in get_or xs k 0 ≡ 0 = zero_word 16 k in omega arith;
  done = λ k s q b. absurd (omega arith);
  rest = λ k h. zero_word 16 k;
}

pub loop-i-preserved : goal.loop-i-preserved
loop-i-preserved g c =
    let e = g.T.Lane.BITS in
    let f : ℕ → Bool = g.L.Tells.answer c.args.lanes.now g.T.Lane.BITS c.args.vec.now in
    let within : c.loop-i.i < length c.loop-i.parts = omega (arith, c.loop-i.invariant.count) in
    record {
      count = length-set c.loop-i.parts c.loop-i.i c.part_told.result ∙ c.loop-i.invariant.count;
      small = small_more c.loop-i.parts c.loop-i.i c.part_told.result within c.part_told.type_inv c.loop-i.invariant.small;
      done = parts_more e g.row.W f g.met.T.Lane.width g.met.T.Quad.whole c.loop-i.parts c.loop-i.i c.part_told.result within c.loop-i.invariant.done
          (one_part e g.row.W f g.met.T.Lane.width g.met.T.Quad.whole c.loop-i.i c.part_told.result (λ j. get_or c.told.result j false) c.told.ensures c.part_told.ensures);
      rest = still c.loop-i.parts c.loop-i.i c.part_told.result c.loop-i.invariant.rest;
    }

pub returns : goal.returns
returns g c =
    let f : ℕ → Bool = g.L.Tells.answer c.args.lanes.now g.T.Lane.BITS c.args.vec.now in
    all_parts g.T.Lane.BITS g.row.W f g.met.T.Lane.width g.met.T.Quad.whole c.args.vec.now.bits c.loop-i.parts c.joined.result c.length-length.ensures.length (ap length c.joined.ensures) c.loop-i.invariant.count
    (λ k h. c.loop-i.invariant.small k) c.joined.ensures (λ k s h b. c.loop-i.invariant.done k s (omega arith) b) (λ k h. c.loop-i.invariant.rest k (omega arith))
