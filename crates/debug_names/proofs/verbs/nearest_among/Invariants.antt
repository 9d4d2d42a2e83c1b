use Rattle.std.proofs.Common.{◌≡◌, drop}
use Rattle.std.specs.Prelude.{fold}
use Rattle.debug_names.specs.Verbs.{nearer}
use Rattle.debug_names.proofs.verbs.nearest_among.Given as goal

abbrev pub invariant-verbs : goal.invariant-verbs
invariant-verbs l = fold (nearer l.word) l.found (drop l.verb-index l.verbs) ≡ fold (nearer l.word) l.fn.other l.verbs
