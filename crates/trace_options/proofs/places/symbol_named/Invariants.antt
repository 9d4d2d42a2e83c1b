use Rattle.std.proofs.Common.{◌≡◌, drop}
use Rattle.std.specs.List.{find}
use Rattle.elf_symbols.specs.Lookup.{has_name}
use Rattle.trace_options.proofs.places.symbol_named.Given as goal

abbrev pub invariant-loop-symbol : goal.invariant-loop-symbol
invariant-loop-symbol l = find (has_name l.name) (drop l.symbol-index l.symbols) ≡ find (has_name l.name) l.symbols
