use Rattle.std.proofs.Common.{◌≡◌, ◌+◌, ◌*◌, ◌-◌, ◌++◌, string_bytes}
use Rattle.word_counts.specs.Counts.{count_at}
use Rattle.word_counts.specs.Lines.{lines_from}
use Rattle.word_counts.proofs.lines.push_page.Given as goal

-- the lines so far and those of the words that are left
abbrev pub invariant-loop-word : goal.invariant-loop-word
invariant-loop-word l =
    string_bytes l.text ++ lines_from count_at l.tables l.word (1024 * l.page + 1024 - l.word) ≡ string_bytes l.fn.text ++ lines_from count_at l.tables (1024 * l.page) 1024
