use Rattle.std.proofs.Common.{◌≡◌, drop, map, string_bytes}
use Rattle.tool_lines.specs.CountedWords.{all_from}
use Rattle.tool_lines.proofs.counted.all_place.Given as goal

-- the place is the same among the words that are left
abbrev pub invariant-places : goal.invariant-places
invariant-places l = all_from l.place (drop l.place (map string_bytes l.words)) ≡ all_from 1 (drop 1 (map string_bytes l.words))
