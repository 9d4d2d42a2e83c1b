use Rattle.std.proofs.Common.{◌≡◌, drop, map, string_bytes}
use Rattle.trace_options.specs.Options.{nothing_given, read_words}
use Rattle.trace_options.proofs.options.read_words.Given as goal

-- what the words that are left say is what they all say
abbrev pub invariant-loop-place : goal.invariant-loop-place
invariant-loop-place l =
    read_words l.given l.place (drop l.place (map string_bytes l.words)) ≡ read_words nothing_given 1 (drop 1 (map string_bytes l.words))
