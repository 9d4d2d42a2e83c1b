use Rattle.elf_symbols.proofs.Steps.{permuted}
use Rattle.elf_symbols.proofs.Stable.{in_table_order}
use Rattle.elf_symbols.proofs.symbols.Goals as goal

pub returns-clause-same : goal.returns-clause-same
returns-clause-same c = permuted _ _ _ c.in_ok-found.ensures c.in_ok-sort.ensures.permutation

pub returns-clause-stable : goal.returns-clause-stable
returns-clause-stable c = in_table_order _ _ _ c.in_ok-found.ensures c.in_ok-sort.ensures.stable
