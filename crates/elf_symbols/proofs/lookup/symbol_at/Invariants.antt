use Rattle.std.proofs.Common.{◌≡◌, take}
use Rattle.elf_symbols.specs.Lookup.{last_reaching}
use Rattle.elf_symbols.proofs.lookup.symbol_at.Given as goal

abbrev pub invariant-loop-symbol : goal.invariant-loop-symbol
invariant-loop-symbol l = l.found ≡ last_reaching l.address (take l.symbol-index l.symbols)
