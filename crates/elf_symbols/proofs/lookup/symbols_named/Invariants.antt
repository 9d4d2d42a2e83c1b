use Rattle.std.proofs.Common.{◌≡◌, filter, take}
use Rattle.elf_symbols.specs.Lookup.{has_name}
use Rattle.elf_symbols.proofs.lookup.symbols_named.Given as goal

abbrev pub invariant-loop-symbol : goal.invariant-loop-symbol
invariant-loop-symbol l = l.found.items ≡ filter (has_name l.name) (take l.symbol-index l.symbols)
