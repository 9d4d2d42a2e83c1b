-- An index of names over a table of patterns.
use Rattle.std.specs.Prelude.{◌≡◌, ℕ, ◌&&◌, Bool, true, false, if◌then◌else◌, List, [], ◌∷◌, length, nat_le}
use Rattle.std.specs.Cmp.Lexicographic.{slice_cmp}
use Rattle.std.specs.Ordering.{nat_cmp, is_lt}
use Rattle.std.specs.Str.{bytes_eq}
use Rattle.text_code.specs.declared.patterns.Spot.{Spot}
use Rattle.text_code.specs.declared.patterns.Name.{Name}
use Rattle.text_model.specs.Reading.{Pattern}
use Rattle.text_model.specs.Writing.{flat}
use Rattle.text_code.specs.Reads.{with_name, at_spots, are_spots}

-- a name, and where its patterns stand
pub record Named : Type 0 where
  pub name : List ℕ
  pub spots : List Spot

abbrev pub names_of : List Name → List Named
names_of [] = []
names_of (n ∷ ns) = record { name = n.name.now; spots = n.spots.now } ∷ names_of ns

-- where the patterns of a name stand
abbrev pub spots_named : List Named → List ℕ → List Spot
spots_named [] s = []
spots_named (n ∷ ns) s = if bytes_eq s n.name then n.spots else spots_named ns s

-- each name is before the next by its bytes, and no name is longer than 12 of them
abbrev pub are_ascending : List Named → Bool
are_ascending [] = true
are_ascending (n ∷ []) = true
are_ascending (n ∷ m ∷ ms) = is_lt (slice_cmp nat_cmp n.name m.name) && are_ascending (m ∷ ms)

abbrev pub are_short : List Named → Bool
are_short [] = true
are_short (n ∷ ns) = nat_le (length n.name) 12 && are_short ns

abbrev pub is_searchable : List Named → Bool
is_searchable ns = are_ascending ns && are_short ns

-- the patterns that each name's spots give, and those that it has
abbrev pub given_patterns : List (List Pattern) → List Named → List (List Pattern)
given_patterns pss [] = []
given_patterns pss (n ∷ ns) = at_spots pss n.spots ∷ given_patterns pss ns

abbrev pub own_patterns : List Pattern → List Named → List (List Pattern)
own_patterns ps [] = []
own_patterns ps (n ∷ ns) = with_name n.name ps ∷ own_patterns ps ns

abbrev pub is_known : List Named → List ℕ → Bool
is_known [] s = false
is_known (n ∷ ns) s = if bytes_eq s n.name then true else is_known ns s

abbrev pub all_known : List Named → List Pattern → Bool
all_known ns [] = true
all_known ns (p ∷ ps) = is_known ns p.name && all_known ns ps

abbrev pub all_spots : List (List Pattern) → List Named → Bool
all_spots pss [] = true
all_spots pss (n ∷ ns) = are_spots pss n.spots && all_spots pss ns

-- The names of some lines' patterns, each with the spots of its patterns.
pub record IsIndex (ns : List Named) (pss : List (List Pattern)) : Type 0 where
  pub searchable : is_searchable ns ≡ true
  pub patterns : given_patterns pss ns ≡ own_patterns (flat pss) ns
  pub known : all_known ns (flat pss) ≡ true
  pub within : all_spots pss ns ≡ true
