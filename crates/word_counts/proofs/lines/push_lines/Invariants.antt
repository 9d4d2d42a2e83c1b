use Rattle.std.proofs.Common.{◌≡◌, ◌≤◌, ◌*◌, ◌-◌, ◌++◌, ◌^◌, string_bytes}
use Rattle.word_counts.specs.Counts.{count_at}
use Rattle.word_counts.specs.Lines.{lines_from}
use Rattle.word_counts.proofs.lines.push_lines.Given as goal

abbrev pub invariant-pages : goal.invariant-pages
invariant-pages l = record {
  within : l.next ≤ 2 ^ 52;
  told : string_bytes l.text ≡ string_bytes l.fn.text ++ lines_from count_at l.tables 0 (1024 * l.next);
}

abbrev pub decreases-pages : goal.decreases-pages
decreases-pages l = 2 ^ 52 - l.next
