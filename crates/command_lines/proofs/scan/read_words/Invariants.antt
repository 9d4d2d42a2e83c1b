use Rattle.std.proofs.Common.{◌≡◌, drop, map, string_bytes}
use Rattle.command_lines.specs.Scan.{nothing_seen, read_words}
use Rattle.command_lines.proofs.scan.read_words.Given as goal

-- what the words that are left say is what they all say
abbrev pub invariant-loop-place : goal.invariant-loop-place
invariant-loop-place l =
    read_words l.command l.seen l.place (drop l.place (map string_bytes l.words)) ≡ read_words l.command nothing_seen 1 (drop 1 (map string_bytes l.words))
