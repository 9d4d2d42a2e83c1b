use Rattle.std.proofs.Common.{◌≡◌, ◌++◌, drop, map, string_bytes}
use Rattle.trace_options.specs.RunWords.{run_words}
use Rattle.trace_options.proofs.Kept.{left_of}
use Rattle.trace_options.proofs.run_line.run_words.Given as goal

-- what was copied, and what is left
abbrev pub invariant-loop-place : goal.invariant-loop-place
invariant-loop-place l =
    map string_bytes l.list.items ++ left_of l.plain l.value (drop l.place (map string_bytes l.words)) ≡ run_words (map string_bytes l.words)
