use Rattle.std.proofs.Common.{◌≡◌, ◌++◌, drop, map, string_bytes, take}
use Rattle.tool_lines.proofs.counted.push_words.Given as goal

-- the words so far were copied
abbrev pub invariant-loop-place : goal.invariant-loop-place
invariant-loop-place l = map string_bytes l.list.items ≡ map string_bytes l.fn.list.items ++ drop l.from (take l.place (map string_bytes l.words))
