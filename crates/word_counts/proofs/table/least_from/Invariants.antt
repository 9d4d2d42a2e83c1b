use Rattle.std.proofs.Common.{ℕ, ◌<◌, ◌≤◌, get_or}
use Rattle.word_counts.proofs.table.least_from.Given as goal

abbrev pub invariant-pages : goal.invariant-pages
invariant-pages l = record {
  low : l.from ≤ l.least;
  high : l.least ≤ l.most;
  each : (j : ℕ) → j < l.k → l.from ≤ get_or l.pages j 0 → l.least ≤ get_or l.pages j 0;
}
