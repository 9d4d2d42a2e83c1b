use Rattle.std.proofs.Common.{◌≡◌, ◌∷◌, [], ◌++◌, take, string_bytes}
use Rattle.std.specs.Prelude.{flat_map}
use Rattle.debug_texts.specs.Numbers.{character}
use Rattle.debug_shows.proofs.places.push_symbol.Given as goal

abbrev pub invariant-bytes : goal.invariant-bytes
invariant-bytes l = string_bytes l.text ≡ string_bytes l.fn.text ++ flat_map (λ b. character b ∷ []) (take l.byte-index l.name)
