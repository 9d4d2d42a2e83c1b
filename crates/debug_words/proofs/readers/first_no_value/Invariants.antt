use Rattle.std.proofs.Common.{◌≡◌, map}
use Rattle.debug_words.specs.Commands.{first_no_value}
use Rattle.debug_words.proofs.readers.first_no_value.Given as goal

abbrev pub invariant-values : goal.invariant-values
invariant-values l = l.first ≡ first_no_value l.symbols l.rows (map (λ word. word.now) l.words) l.k
