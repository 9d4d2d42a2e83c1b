use Rattle.std.proofs.Common.{◌≡◌, map}
use Rattle.debug_words.specs.Commands.{first_unknown}
use Rattle.debug_words.proofs.readers.first_unknown.Given as goal

abbrev pub invariant-words : goal.invariant-words
invariant-words l = l.first ≡ first_unknown (map (λ word. word.now) l.words) l.k
