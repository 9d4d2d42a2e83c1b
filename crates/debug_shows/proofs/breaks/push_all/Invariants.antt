use Rattle.std.proofs.Common.{◌≡◌, ◌++◌, take, string_bytes}
use Rattle.std.specs.Prelude.{flat_map}
use Rattle.debug_shows.specs.Breaks.{listed_text}
use Rattle.debug_shows.proofs.breaks.push_all.Given as goal

abbrev pub invariant-points : goal.invariant-points
invariant-points l = string_bytes l.text ≡ string_bytes l.fn.text ++ flat_map (listed_text l.symbols) (take l.point-index l.points)
