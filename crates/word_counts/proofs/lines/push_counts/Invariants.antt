use Rattle.std.proofs.Common.{◌≡◌, ◌++◌, drop, string_bytes}
use Rattle.word_counts.specs.Counts.{count_at}
use Rattle.word_counts.specs.Lines.{counts_text}
use Rattle.word_counts.proofs.lines.push_counts.Given as goal

-- the counts so far and those of the tables that are left
abbrev pub invariant-loop-table : goal.invariant-loop-table
invariant-loop-table l = string_bytes l.text ++ counts_text count_at (drop l.table-index l.tables) l.word ≡ string_bytes l.fn.text ++ counts_text count_at l.tables l.word
