use Rattle.std.proofs.Common.{ℕ, ap, ◌∙◌}
use Rattle.lane_model.specs.Permute.{taken, indexed_place}
use Rattle.lane_permute.specs.Slices.{number_at}
use Rattle.lane_permute.proofs.by_number.tbl.Goals as goal

pub returns : goal.returns
returns g c k h =
    let f = g.T.Lane.number in
    let a : ℕ → ℕ = number_at f c.args.a.now in
    c.chosen.ensures k h ∙ ap (λ n. taken a a 0 0 (indexed_place (number_at f c.args.at.now k) n)) c.requires.first
