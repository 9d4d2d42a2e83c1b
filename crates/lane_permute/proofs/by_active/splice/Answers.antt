use Rattle.std.proofs.Common.{ℕ, ap, ◌∙◌}
use Rattle.lane_model.specs.Permute.{taken, splice_place}
use Rattle.lane_model.specs.Bits.{is_set}
use Rattle.lane_permute.specs.Slices.{number_at}
use Rattle.lane_permute.proofs.by_active.splice.Goals as goal

pub returns : goal.returns
returns g c k h =
    let f = g.T.Lane.number in
    let a : ℕ → ℕ = number_at f c.args.a.now in
    let b : ℕ → ℕ = number_at f c.args.b.now in
    c.spliced.ensures k h
    ∙ ap (taken a b 0 0) (c.run_of-from.ensures.places k)
    ∙ ap (λ n. taken a b 0 0 (splice_place (is_set c.args.mask.now) n k)) c.requires.mask
