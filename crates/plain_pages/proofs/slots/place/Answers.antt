use Rattle.std.proofs.Common.{ltb, rules}
use Rattle.std.proofs.lemmas.List.Sorted.{IsPartitionPoint-from_clause, IsPartitionedBy-ltb}
use Rattle.plain_pages.specs.declared.slots.Slot.{Slot}
use Rattle.plain_pages.proofs.Ordered.{numbers_rise, ends_below, ends_from}
use Rattle.plain_pages.proofs.slots.place.Goals as goal

pub returns : goal.returns
returns c =
    let parted = IsPartitionedBy-ltb (λ (s : Slot). s.number) _ c.args.page (numbers_rise _ c.requires) in
    let point = IsPartitionPoint-from_clause (λ (s : Slot). ltb s.number c.args.page) _ _ c.partition_point.ensures.partitioned parted (λ a r q k. search rules) in
    record {
      bound = c.partition_point.ensures.bound;
      below = ends_below _ _ _ point;
      from = ends_from _ _ _ point;
    }
