use Rattle.std.proofs.Common.{◌≡◌, ◌+◌, take, map, length, sum_by, string_bytes}
use Rattle.emu_system.specs.Arguments.{most_argument_bytes}
use Rattle.emu_system.proofs.arguments.first_too_long.Given as goal

-- what is left of the bytes, after those of the words so far
abbrev pub invariant-loop-place : goal.invariant-loop-place
invariant-loop-place l = l.left + sum_by length (take l.place (map string_bytes l.words)) ≡ most_argument_bytes
