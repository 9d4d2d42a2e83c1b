use Rattle.std.proofs.Common.{arith}
use Rattle.std.proofs.lemmas.List.Edits.{map_over_more}
use Rattle.debug_points.specs.Points.{with_enabled}
use Rattle.debug_points.proofs.points.Points.set_enabled.Goals as goal

pub points-preserved : goal.points-preserved
points-preserved c =
    let items = c.args.self.now.items in
    let now = c.points.self-inside.items.items in
    let h = c.index.ensures in
    let k = c.index_mut.ensures in
    let t = c.points-test.true in
    record {
      items = rw c.with_enabled.ensures (map_over_more (with_enabled c.args.enabled c.args.number) items now c.points.k c.index.result.now (omega arith) c.points.invariant.items h);
      next = c.points.invariant.next;
      count = c.points.invariant.count;
    }
