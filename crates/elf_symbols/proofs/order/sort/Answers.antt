use Rattle.std.proofs.lemmas.List.Sorted.{IsNonDecreasingBy-from_sort, IsPermutation-trans, ties_still_rise}
use Rattle.elf_symbols.specs.Order.{address_key, size_key}
use Rattle.elf_symbols.proofs.Stable.{stable_sorts}
use Rattle.elf_symbols.proofs.order.sort.Goals as goal

pub returns-clause-permutation : goal.returns-clause-permutation
returns-clause-permutation c = IsPermutation-trans _ _ _ c.in_ok-sort_by_size.ensures.permutation c.in_ok-sort_by_address.ensures.permutation

pub returns-clause-sorted : goal.returns-clause-sorted
returns-clause-sorted c = record {
  by_address = IsNonDecreasingBy-from_sort address_key _ c.in_ok-sort_by_address.ensures.sorted;
  by_size = ties_still_rise size_key address_key _ _ c.in_ok-sort_by_size.ensures.sorted c.in_ok-sort_by_address.ensures.stable;
}

pub returns-clause-stable : goal.returns-clause-stable
returns-clause-stable c = stable_sorts _ _ _ c.in_ok-sort_by_size.ensures.stable c.in_ok-sort_by_address.ensures.stable
