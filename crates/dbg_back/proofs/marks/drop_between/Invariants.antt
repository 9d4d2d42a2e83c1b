use Rattle.std.proofs.Common.{◌≡◌, ◌≤◌, ◌<◌, ◌⊎◌, ℕ, length, max, get_or, None}
use Rattle.dbg_back.proofs.marks.drop_between.Given as goal

abbrev pub invariant-marks : goal.invariant-marks
invariant-marks l = record {
  parts : l.machine.parts ≡ l.fn.machine.parts;
  count : length l.machine.marks ≡ 16;
  dropped : (j : ℕ) → l.first ≤ j → j < l.k → get_or l.machine.marks j None ≡ None;
  kept : (j : ℕ) → (j < l.first) ⊎ (l.k ≤ j) → get_or l.machine.marks j None ≡ get_or l.fn.machine.marks j None;
  most : l.k ≤ max l.first l.end;
  saved : l.machine.saved ≡ l.fn.machine.saved;
  failed : l.machine.failed ≡ l.fn.machine.failed;
}
