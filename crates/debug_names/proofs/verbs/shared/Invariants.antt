use Rattle.std.proofs.Common.{◌≡◌, ◌+◌, drop}
use Rattle.debug_names.specs.Verbs.{shared}
use Rattle.debug_names.proofs.verbs.shared.Given as goal

abbrev pub invariant-letters : goal.invariant-letters
invariant-letters l = l.k + shared (drop l.k l.word) (drop l.k l.name) ≡ shared l.word l.name
