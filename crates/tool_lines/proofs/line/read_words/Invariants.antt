use Rattle.std.proofs.Common.{◌≡◌, drop, map, string_bytes}
use Rattle.tool_lines.specs.ToolLine.{nothing_seen, read_words}
use Rattle.tool_lines.proofs.line.read_words.Given as goal

-- what the words that are left say is what they all say
abbrev pub invariant-loop-place : goal.invariant-loop-place
invariant-loop-place l =
    read_words l.seen l.place (drop l.place (map string_bytes l.words)) ≡ read_words nothing_seen 1 (drop 1 (map string_bytes l.words))
