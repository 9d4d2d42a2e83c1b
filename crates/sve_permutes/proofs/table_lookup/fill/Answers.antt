use Rattle.std.proofs.Common.{◌≡◌, ◌∙◌, ◌<◌, ◌≤◌, ◌+◌, ◌*◌, ◌/◌, ◌%◌, ◌^◌, ℕ, List, length, map, get_or, set, ap, arith}
use Rattle.std.proofs.lemmas.List.{length-map, length-set}
use Rattle.emu_model.specs.Lists.{each}
use Rattle.register_lanes.proofs.PairLanes.{pair_of_lanes}
use Rattle.lane_permute.specs.Slices.{number_at}
use Rattle.sve_effects.specs.LaneLoop.{lane_of}
use Rattle.sve_effects.specs.Permute.{taken, indexed_place}
use Rattle.vec_regs.specs.Packed.{packed}
use Rattle.vec_regs.proofs.PackedLanes.{filled, still}
use Rattle.sve_permutes.proofs.LaneArrays.{table_lane}
use Rattle.sve_permutes.proofs.table_lookup.fill.Goals as goal

pub loop-i-preserved : goal.loop-i-preserved
loop-i-preserved g c =
    let e = g.T.Lane.BITS in
    let w = g.row.W in
    let i = c.loop-i.i in
    let v = c.args.vec.now in
    let a : ℕ → ℕ = lane_of e v c.args.zn in
    let z : ℕ → ℕ = lane_of e v c.args.zm in
    let size = g.met.T.Lane.width in
    let l = c.length-length.ensures.length in
    let f : ℕ → ℕ = λ k. taken a a 0 0 (indexed_place (z k) (v.bits / e)) in
    let word : ℕ → ℕ = λ k. packed e (each (64 / e) (λ j. f (k * (64 / e) + j))) in
    let lanes : List ℕ = map g.T.Lane.number c.chosen_quad.result in
    let made : List ℕ = c.packed-pair.result in
    let count : length lanes ≡ g.row.W = length-map c.chosen_quad.result g.T.Lane.number ∙ omega arith in
    let few : c.args.vec.now.bits / g.T.Lane.BITS ≤ length c.lanes_in-lanes.result = omega (arith, c.lanes_in-lanes.ensures.few) in
    let looked : (j : ℕ) → j < w → get_or lanes j 0 ≡ f (i * w + j) % 2 ^ e
    = λ j b. c.chosen_quad.ensures j b ∙ table_lane a (number_at g.T.Lane.number c.lanes_in-lanes.result) e (v.bits / e) (length c.lanes_in-lanes.result) (z (i * w + j)) c.lanes_in-lanes.ensures.lanes c.lanes_in-lanes.ensures.above few in
    let zero : 2 * i + 0 ≡ 2 * i = omega arith in
    let low : get_or made 0 0 ≡ word (2 * i)
    = ap (λ (xs : List ℕ). get_or xs 0 0) c.packed-pair.ensures ∙ pair_of_lanes e w i 0 f lanes size g.met.T.Quad.whole count looked (omega arith) ∙ ap word zero in
    let high : get_or made 1 0 ≡ word (2 * i + 1)
    = ap (λ (xs : List ℕ). get_or xs 1 0) c.packed-pair.ensures ∙ pair_of_lanes e w i 1 f lanes size g.met.T.Quad.whole count looked (omega arith) in
    let room : 2 * i < length c.loop-i.words = omega arith in
    let more : 2 * i + 1 < length (set c.loop-i.words (2 * i) (get_or made 0 0)) = omega (arith, length-set c.loop-i.words (2 * i) (get_or made 0 0)) in
    record {
      done = λ k b.
          let under : k < (2 * i + 1) + 1 = omega arith in
          filled word (set c.loop-i.words (2 * i) (get_or made 0 0)) (2 * i + 1) (get_or made 1 0) more high (filled word c.loop-i.words (2 * i) (get_or made 0 0) room low c.loop-i.invariant.done) k under;
      rest = λ k b.
          let over : (2 * i + 1) + 1 ≤ k = omega arith in
          still (set c.loop-i.words (2 * i) (get_or made 0 0)) (2 * i + 1) (get_or made 1 0) (still c.loop-i.words (2 * i) (get_or made 0 0) c.loop-i.invariant.rest) k over;
    }
