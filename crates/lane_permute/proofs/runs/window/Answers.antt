use Rattle.std.proofs.Common.{◌≡◌, ◌+◌, ◌-◌, ◌++◌, ◌∙◌, List, take, drop, ap₂, arith}
use Rattle.lane_permute.proofs.Copied.{window_is}
use Rattle.lane_permute.proofs.runs.window.Goals as goal

pub returns : goal.returns
returns g c k h =
    let a = c.args.a.now in
    let b = c.args.b.now in
    let from = c.args.from in
    let above = c.split_at_mut-second.result.1.now in
    let same : c.args.from + g.row.W - c.args.from ≡ g.row.W = omega arith in
    let both = ap₂ (λ (x y : List g.row.T.Denot). x ++ (y ++ above)) c.copy_from_slice.ensures.after c.copy_from_slice-2.ensures.after in
    window_is g.T.Lane.number a b above c.copy_from_slice-3.new.self from g.row.W (omega arith) (omega arith) c.requires.within
    (c.copy_from_slice-3.ensures.after ∙ ap₂ (λ m (x : List g.row.T.Denot). take m (drop from x)) same both) k h
