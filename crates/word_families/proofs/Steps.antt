-- The recursion of the definition, as a loop goes: a group that a word is in, one that it isn't in, and the end.
use Rattle.std.proofs.Common.{◌≡◌, ◌<◌, ◌≤◌, ℕ, ◌+◌, Bool, true, false, List, length, drop, get_or, sym, ap, ◌∙◌, if◌then◌else◌}
use Rattle.std.proofs.lemmas.List.{at_drop_more, at_drop_all}
use Rattle.word_families.specs.declared.Family.{Family}
use Rattle.word_families.specs.declared.Family.TheVariants.{FloatingPoint, Unallocated}
use Rattle.word_families.specs.declared.groups.Group.{Group}
use Rattle.word_families.specs.Families.{first_family, holds}

-- what a list has past its end
abbrev pub past : Group
past = record { mask = 0; value = 0; family = FloatingPoint }

first_family-drop : (word : ℕ) (groups : List Group) (i : ℕ) (d : Group) → i < length groups → first_family word (drop i groups)
    ≡ (if holds word (get_or groups i d) then (get_or groups i d).family else first_family word (drop (i + 1) groups))
unfolding first_family
first_family-drop word groups i d h = at_drop_more (first_family word) groups i d h

chosen : (t u : Bool) (x y : Family) → t ≡ u → (if t then x else y) ≡ (if u then x else y)
chosen t u x y e = ap (λ b. if b then x else y) e

pub first_family-in : (word : ℕ) (groups : List Group) (i : ℕ) (d : Group) → i < length groups → holds word (get_or groups i d) ≡ true
    → (get_or groups i d).family ≡ first_family word (drop i groups)
first_family-in word groups i d h e = sym (first_family-drop word groups i d h ∙ chosen _ true _ _ e)

pub first_family-past : (word : ℕ) (groups : List Group) (i : ℕ) (d : Group) → i < length groups → holds word (get_or groups i d) ≡ false
    → first_family word (drop (i + 1) groups) ≡ first_family word (drop i groups)
first_family-past word groups i d h e = sym (first_family-drop word groups i d h ∙ chosen _ false _ _ e)

pub first_family-all : (word : ℕ) (groups : List Group) (i : ℕ) → length groups ≤ i → first_family word (drop i groups) ≡ Unallocated
unfolding first_family
first_family-all word groups i h = at_drop_all (first_family word) groups i h

pub ruleset group_steps = (first_family-all)
