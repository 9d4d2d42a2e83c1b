use Rattle.std.proofs.Common.{◌≡◌, map}
use Rattle.debug_words.specs.Commands.{first_no_register}
use Rattle.debug_words.proofs.readers.first_no_register.Given as goal

abbrev pub invariant-words : goal.invariant-words
invariant-words l = l.first ≡ first_no_register (map (λ word. word.now) l.words) l.k
