use Rattle.std.proofs.Common.{◌≡◌}
use Rattle.elf_symbols.specs.Symbols.{first_symbol_table}
use Rattle.elf_symbols.specs.Read.{seen_table}
use Rattle.elf_symbols.proofs.sections.symbol_table.Given as goal

abbrev pub invariant-loop-index : goal.invariant-loop-index
invariant-loop-index l = seen_table l.found ≡ first_symbol_table l.file l.index
