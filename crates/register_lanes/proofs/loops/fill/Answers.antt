use Rattle.std.proofs.Common.{◌≡◌, ◌∙◌, ◌<◌, ◌≤◌, ◌+◌, ◌*◌, ◌/◌, ℕ, List, length, map, get_or, set, ap, arith}
use Rattle.std.proofs.lemmas.List.{length-map, length-set}
use Rattle.emu_model.specs.Lists.{each}
use Rattle.vec_regs.specs.Packed.{packed}
use Rattle.vec_regs.proofs.PackedLanes.{filled, still}
use Rattle.register_lanes.proofs.PairLanes.{pair_of_lanes}
use Rattle.register_lanes.proofs.loops.fill.Goals as goal

pub loop-i-preserved : goal.loop-i-preserved
loop-i-preserved g c =
    let e = g.T.Lane.BITS in
    let i = c.loop-i.i in
    let f : ℕ → ℕ = g.L.Gives.value c.args.lanes.now e c.args.vec.now in
    let word : ℕ → ℕ = λ k. packed e (each (64 / e) (λ j. f (k * (64 / e) + j))) in
    let lanes : List ℕ = map g.T.Lane.number c.chunk.result in
    let made : List ℕ = c.packed-pair.result in
    let count : length lanes ≡ g.row.W = length-map c.chunk.result g.T.Lane.number ∙ omega arith in
    let zero : 2 * i + 0 ≡ 2 * i = omega arith in
    let low : get_or made 0 0 ≡ word (2 * i)
    = ap (λ (xs : List ℕ). get_or xs 0 0) c.packed-pair.ensures ∙ pair_of_lanes e g.row.W i 0 f lanes g.met.T.Lane.width g.met.T.Quad.whole count c.chunk.ensures (omega arith) ∙ ap word zero in
    let high : get_or made 1 0 ≡ word (2 * i + 1)
    = ap (λ (xs : List ℕ). get_or xs 1 0) c.packed-pair.ensures ∙ pair_of_lanes e g.row.W i 1 f lanes g.met.T.Lane.width g.met.T.Quad.whole count c.chunk.ensures (omega arith) in
    let room : 2 * i < length c.loop-i.words = omega arith in
    let more : 2 * i + 1 < length (set c.loop-i.words (2 * i) (get_or made 0 0)) = omega (arith, length-set c.loop-i.words (2 * i) (get_or made 0 0)) in
    record {
      done = λ k b.
          let under : k < (2 * i + 1) + 1 = omega arith in
          filled word (set c.loop-i.words (2 * i) (get_or made 0 0)) (2 * i + 1) (get_or made 1 0) more high (filled word c.loop-i.words (2 * i) (get_or made 0 0) room low c.loop-i.invariant.done) k under;
      rest = λ k b.
          let over : (2 * i + 1) + 1 ≤ k = omega arith in
          still (set c.loop-i.words (2 * i) (get_or made 0 0)) (2 * i + 1) (get_or made 1 0) (still c.loop-i.words (2 * i) (get_or made 0 0) c.loop-i.invariant.rest) k over;
    }
