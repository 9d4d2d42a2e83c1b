use Rattle.std.proofs.Common.{◌≡◌, ◌+◌, ◌-◌, ◌++◌, ◌∙◌, List, take, drop, length, ap, ap₂, arith}
use Rattle.lane_permute.proofs.Copied.{run_is}
use Rattle.lane_permute.proofs.runs.spliced.Goals as goal

pub returns : goal.returns
returns g c k h =
    let a = c.args.a.now in
    let from = c.args.from in
    let same : c.args.from + c.args.count - c.args.from ≡ c.args.count = omega arith in
    let front = c.copy_from_slice.ensures.after ∙ ap (λ m. take m (drop from a)) same in
    run_is g.T.Lane.number a c.args.b.now (c.copy_from_slice.new.self ++ c.copy_from_slice-2.new.self) from c.args.count (length c.args.out.now) c.requires.first c.requires.run
    (ap₂ (λ (x y : List g.row.T.Denot). x ++ y) front c.copy_from_slice-2.ensures.after) k (omega arith)
