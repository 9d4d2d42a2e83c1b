use Rattle.std.proofs.Common.{◌≡◌, ◌∙◌, [], ◌∷◌, ℕ, false, List, length, map, get_or, ap, arith}
use Rattle.std.proofs.lemmas.List.{length-map}
use Rattle.lane_tests.proofs.ToldBits.{part_bits, both_words}
use Rattle.lane_tests.proofs.told.part_told.Goals as goal

pub returns : goal.returns
returns g c s b =
    let e = g.T.Lane.BITS in
    let pair : List ℕ = c.packed-pair.result in
    let lanes : List ℕ = map g.T.Lane.number c.ones_where.new.lanes in
    let count : length (map g.T.Lane.number c.ones_where.new.lanes) ≡ g.row.W = length-map c.ones_where.new.lanes g.T.Lane.number ∙ omega arith in
    c.bytes_set.ensures s b
    ∙ part_bits e g.row.W (λ j. get_or c.args.told j false) lanes (get_or pair 0 0 ∷ get_or pair 1 0 ∷ []) s g.met.T.Lane.width g.met.T.Quad.whole count (λ j h. c.ones_where.ensures.lanes j (omega arith))
    (λ h half. both_words pair h half ∙ ap (λ (xs : List ℕ). get_or xs h 0) c.packed-pair.ensures) b
