use Rattle.std.proofs.Common.{rules}
use Rattle.std.proofs.lemmas.List.Sorted.{answers_always}
use Rattle.elf_symbols.specs.Order.{size_key}
use Rattle.elf_symbols.proofs.order.sort_by_size.Goals as goal

pub returns-clause-sorted : goal.returns-clause-sorted
returns-clause-sorted c = c.in_ok-sort_by_key.ensures.sorted size_key (answers_always _ _ _ (λ f a r q k. search rules))

pub returns-clause-stable : goal.returns-clause-stable
returns-clause-stable c = c.in_ok-sort_by_key.ensures.stable size_key (answers_always _ _ _ (λ f a r q k. search rules))
