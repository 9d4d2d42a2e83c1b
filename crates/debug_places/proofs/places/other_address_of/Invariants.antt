use Rattle.std.proofs.Common.{◌≡◌, drop}
use Rattle.std.specs.List.{find}
use Rattle.debug_places.specs.Places.{is_other}
use Rattle.debug_places.proofs.places.other_address_of.Given as goal

abbrev pub invariant-loop-symbol : goal.invariant-loop-symbol
invariant-loop-symbol l =
    find (is_other l.name l.first) (drop l.symbol-index l.symbols) ≡ find (is_other l.name l.first) l.symbols
