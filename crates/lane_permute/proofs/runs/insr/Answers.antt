use Rattle.std.proofs.Common.{◌≡◌, ◌++◌, List, length, slice_set, ap₂, arith}
use Rattle.lane_permute.proofs.Copied.{moved_up, one_written}
use Rattle.lane_permute.proofs.runs.insr.Goals as goal

pub returns : goal.returns
returns g c k h =
    let front = c.split_at_mut-front.result.0.now in
    let low = c.args.low in
    let one : length c.split_at_mut-front.result.0.now ≡ 1 = omega arith in
    moved_up g.T.Lane.number c.args.a.now (slice_set front 0 low ++ c.copy_from_slice.new.self) low (length c.args.out.now)
    (ap₂ (λ (x y : List g.row.T.Denot). x ++ y) (one_written g.T.Lane.number front low one) c.copy_from_slice.ensures.after) k (omega arith)
