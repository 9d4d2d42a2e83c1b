use Rattle.std.proofs.Common.{◌≡◌, drop}
use Rattle.elf_symbols.specs.Lookup.{address_of}
use Rattle.elf_symbols.proofs.lookup.address_of.Given as goal

abbrev pub invariant-loop-symbol : goal.invariant-loop-symbol
invariant-loop-symbol l = address_of l.name (drop l.symbol-index l.symbols) ≡ address_of l.name l.symbols
