use Rattle.std.proofs.Common.{◌≡◌, ◌<◌, ◌∙◌, ℕ, true, false, nat_lt, if◌then◌else◌, length, ap, arith}
use Rattle.std.proofs.lemmas.Bool.Decides.{nat_tests}
use Rattle.lane_model.specs.declared.places.LaneSource.TheVariants.{FirstLane, Zero}
use Rattle.lane_model.specs.Permute.{taken}
use Rattle.lane_permute.specs.Slices.{number_at}
use Rattle.lane_permute.proofs.Written.{read_at}
use Rattle.lane_permute.proofs.by_number.indexed.Goals as goal

pub returns-then-i-a : goal.returns-then-i-a
returns-then-i-a g c =
    let f = g.T.Lane.number in
    let i = c.args.i in
    let a : ℕ → ℕ = number_at f c.args.a.now in
    let within : c.args.i < length c.args.a.now = omega arith in
    let t : true ≡ nat_lt c.args.i (length c.args.a.now) = grind (arith, nat_tests) in
    read_at f c.args.a.now i c.index-a-i.result within c.index-a-i.is ∙ ap (λ t. taken a a 0 0 (if t then FirstLane i else Zero)) t

pub returns-else-i-a : goal.returns-else-i-a
returns-else-i-a g c =
    let i = c.args.i in
    let a : ℕ → ℕ = number_at g.T.Lane.number c.args.a.now in
    let t : false ≡ nat_lt c.args.i (length c.args.a.now) = grind (arith, nat_tests) in
    c.requires ∙ ap (λ t. taken a a 0 0 (if t then FirstLane i else Zero)) t
