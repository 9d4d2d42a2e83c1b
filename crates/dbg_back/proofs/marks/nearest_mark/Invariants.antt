use Rattle.std.proofs.Common.{◌≡◌, ◌≤◌, ◌<◌, true, get_or, is_some, None}
use Rattle.dbg_back.proofs.marks.nearest_mark.Given as goal

-- the nearest of those before
abbrev pub invariant-marks : goal.invariant-marks
invariant-marks l = record {
  index : l.nearest < 16;
  set : is_some (get_or l.machine.marks l.nearest None) ≡ true;
  before : get_or l.trail.steps l.nearest 0 ≤ l.target;
}
