use Rattle.elf_symbols.proofs.Steps.{first_symbols-push}
use Rattle.elf_symbols.proofs.entries.table_symbols.Goals as goal

pub loop-index-preserved : goal.loop-index-preserved
loop-index-preserved c = first_symbols-push c.args.file.now _ c.loop-index.index _ _ c.symbol.result _ _ c.loop-index.invariant c.names-strings.ensures c.at-entry.ensures c.symbol.ensures c.in_ok-push_some.ensures
