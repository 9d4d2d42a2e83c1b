-- The family of a word, by groups of encodings.
use Rattle.std.specs.Prelude.{ℕ, Bool, List, [], ◌∷◌, bit_and, nat_eq, if◌then◌else◌}
use Rattle.word_families.specs.declared.Family.{Family}
use Rattle.word_families.specs.declared.Family.TheVariants.{Unallocated}
use Rattle.word_families.specs.declared.groups.Group.{Group}

-- a word is in a group: its bits under the mask are the value's
abbrev pub holds : ℕ → Group → Bool
holds word g = nat_eq (bit_and word g.mask) g.value

-- the family of the first group that a word is in; unallocated where it is in none
unfoldable pub first_family : ℕ → List Group → Family
first_family word [] = Unallocated
first_family word (g ∷ groups) = if holds word g then g.family else first_family word groups
