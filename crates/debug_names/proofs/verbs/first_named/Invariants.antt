use Rattle.std.proofs.Common.{◌≡◌, drop}
use Rattle.std.specs.List.{find}
use Rattle.debug_names.specs.Verbs.{is_named}
use Rattle.debug_names.proofs.verbs.first_named.Given as goal

abbrev pub invariant-loop-verb : goal.invariant-loop-verb
invariant-loop-verb l = find (is_named l.word) (drop l.verb-index l.verbs) ≡ find (is_named l.word) l.verbs
