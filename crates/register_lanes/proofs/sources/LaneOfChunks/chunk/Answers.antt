use Rattle.std.proofs.Common.{◌≡◌, ◌∙◌, ◌<◌, ◌+◌, ◌*◌, ◌%◌, ◌^◌, ℕ, List, [], ◌∷◌, length, get_or, sym, ap, ap₂, subst}
use Rattle.std.specs.Simd.Lanes.{digits_l, number_l}
use Rattle.emu_model.specs.Lanes.{lane}
use Rattle.register_lanes.proofs.PairLanes.{lanes_of_pair}
use Rattle.register_lanes.proofs.sources.LaneOfChunks.chunk.Goals as goal

pub returns : goal.returns
returns g c j b =
    let i : ℕ = c.args.i in
    let words : List ℕ = c.z_words-words.result.now in
    let pair : List ℕ = c.pair_of-pair.result in
    let low : get_or pair 0 0 ≡ get_or words (2 * i) 0 = c.pair_of-pair.ensures.low in
    let high : get_or pair 1 0 ≡ get_or words (2 * i + 1) 0 = c.pair_of-pair.ensures.high in
    let first : get_or words (2 * i) 0 < 2 ^ 64 = subst (λ x. x < 2 ^ 64) low c.lanes_of.ensures.first in
    let second : get_or words (2 * i + 1) 0 < 2 ^ 64 = subst (λ x. x < 2 ^ 64) high c.lanes_of.ensures.second in
    ap (λ (xs : List ℕ). get_or xs j 0) c.lanes_of.ensures.lanes
    ∙ ap₂ (λ (x y : ℕ). get_or (digits_l (2 ^ g.T.Lane.BITS) g.row.W (number_l (2 ^ 64) (x ∷ y ∷ []))) j 0) low high
    ∙ lanes_of_pair g.T.Lane.BITS g.row.W c.args.vec.now.bits i j words g.met.T.Lane.width g.met.T.Quad.whole c.length-length.ensures.length c.requires.within b first second
    ∙ ap (λ (bs : List ℕ). lane g.T.Lane.BITS bs (i * g.row.W + j) % 2 ^ g.T.Lane.BITS) (sym c.z_words-words.ensures.words)
