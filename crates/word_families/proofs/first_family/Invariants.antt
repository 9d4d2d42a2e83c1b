use Rattle.std.proofs.Common.{◌≡◌, drop}
use Rattle.word_families.specs.Families.{first_family}
use Rattle.word_families.proofs.first_family.Given as goal

abbrev pub invariant-loop-group : goal.invariant-loop-group
invariant-loop-group l = first_family l.word (drop l.group-index l.groups) ≡ first_family l.word l.groups
