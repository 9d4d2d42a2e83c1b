use Rattle.std.proofs.Common.{◌≡◌, drop}
use Rattle.trace_options.specs.Places.{next_above}
use Rattle.trace_options.proofs.places.next_above.Given as goal

abbrev pub invariant-loop-symbol : goal.invariant-loop-symbol
invariant-loop-symbol l = next_above l.address (drop l.symbol-index l.symbols) ≡ next_above l.address l.symbols
