use Rattle.std.proofs.Common.{◌≡◌, ◌++◌, drop, map, string_bytes}
use Rattle.tool_lines.specs.SameWords.{argument_words}
use Rattle.tool_lines.proofs.words.push_arguments.Given as goal

-- the words that are left are the other arguments
abbrev pub invariant-loop-place : goal.invariant-loop-place
invariant-loop-place l =
    map string_bytes l.list.items ++ drop l.place (map string_bytes l.words) ≡ map string_bytes l.fn.list.items ++ argument_words (drop l.from (map string_bytes l.words))
