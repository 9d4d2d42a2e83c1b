use Rattle.std.proofs.Common.{◌≡◌, ◌++◌, length, map, take, drop}
use Rattle.debug_points.specs.Points.{with_ignored}
use Rattle.debug_points.proofs.points.Points.ignore.Given as goal

-- the points so far are changed, and the rest as before
abbrev pub invariant-points : goal.invariant-points
invariant-points l =
    record {
      items : l.self-inside.items.items ≡ map (with_ignored l.number l.count) (take l.k l.fn.self.items) ++ drop l.k l.fn.self.items;
      next : l.self-inside.next ≡ l.fn.self.next;
      count : l.k-end ≡ length l.fn.self.items;
    }
