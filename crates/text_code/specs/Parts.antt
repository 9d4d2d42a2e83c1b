-- The index of names in three parts.
use Rattle.std.specs.Prelude.{◌&&◌, Bool, true, List, [], ◌∷◌, ◌++◌, length, nat_lt}
use Rattle.text_code.specs.declared.patterns.Spot.{Spot}
use Rattle.text_code.specs.Names.{Named, names_of}
use Rattle.text_code.specs.declared.patterns.Names.{Names}

abbrev pub all_named : Names → List Named
all_named ns = names_of ns.first.now ++ (names_of ns.second.now ++ names_of ns.third.now)

-- each name has a pattern
abbrev pub are_found : List Named → Bool
are_found [] = true
are_found (n ∷ ns) = nat_lt 0 (length n.spots) && are_found ns

-- some spots, or else others
abbrev pub or_spots : List Spot → List Spot → List Spot
or_spots [] ts = ts
or_spots (s ∷ ss) ts = s ∷ ss
