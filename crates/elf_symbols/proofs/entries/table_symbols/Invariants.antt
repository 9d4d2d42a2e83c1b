use Rattle.std.proofs.Common.{◌≡◌, map}
use Rattle.elf_symbols.specs.Symbols.{first_symbols, seen}
use Rattle.elf_symbols.specs.Read.{seen_section}
use Rattle.elf_symbols.proofs.entries.table_symbols.Given as goal

abbrev pub invariant-loop-index : goal.invariant-loop-index
invariant-loop-index l = map seen l.found.items ≡ first_symbols l.file (seen_section l.table) l.index
