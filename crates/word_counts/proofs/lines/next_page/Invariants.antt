use Rattle.std.proofs.Common.{◌≡◌, ◌<◌, ◌≤◌, ◌/◌, ◌^◌, ℕ, true, take}
use Rattle.word_counts.specs.Counts.{count_at}
use Rattle.word_counts.specs.Lines.{is_unmet}
use Rattle.word_counts.proofs.lines.next_page.Given as goal

abbrev pub invariant-loop-table : goal.invariant-loop-table
invariant-loop-table l = record {
  low : l.from ≤ l.least;
  high : l.least ≤ 2 ^ 52;
  unmet : (word : ℕ) → l.from ≤ word / 1024 → word / 1024 < l.least → is_unmet count_at (take l.table-index l.tables) word ≡ true;
}
