use Rattle.std.proofs.Common.{◌≡◌, ◌-◌, ◌++◌, string_bytes}
use Rattle.debug_shows.specs.Memory.{behind_characters, characters, most_characters}
use Rattle.debug_shows.proofs.memory.push_characters.Given as goal

-- what was appended, and the characters that are left, are all
abbrev pub invariant-characters : goal.invariant-characters
invariant-characters l = record {
  left : string_bytes l.text ++ characters l.mem.memory l.at (most_characters - l.done) ≡ string_bytes l.fn.text ++ characters l.mem.memory l.fn.address most_characters;
  behind : behind_characters l.mem.memory l.at (most_characters - l.done) ≡ behind_characters l.mem.memory l.fn.address most_characters;
}
