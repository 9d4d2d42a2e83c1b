use Rattle.std.proofs.Common.{ℕ, List, map, string_bytes, subst, arith}
use Rattle.std.proofs.lemmas.List.{take_all}
use Rattle.elf_image.specs.Images.{seen_image}
use Rattle.tool_counts.specs.Counted.{sweep_of, AreCounted}
use Rattle.tool_counts.proofs.Runs.{next_counted}
use Rattle.tool_counts.proofs.counted.count_at_lengths.Goals as goal

pub lengths-preserved : goal.lengths-preserved
lengths-preserved c =
    let s = sweep_of c.args.bytes.now (seen_image c.args.image.now) (map string_bytes c.args.args.now) c.args.pages c.args.budget c.args.input.now in
    next_counted s c.args.lengths.now c.lengths.k c.index-lengths-k.result _ c.lengths.tables.items c.push.new.self.items c.lengths.stops.items c.push-in-lengths.new.self.items
    c.count_at_length.new.counts c.in_ok-stopped.stopped (omega arith) c.index-lengths-k.is c.in_ok-push.ensures.items c.in_ok-push-2.ensures.items c.lengths.invariant c.in_ok-stopped.ensures

pub returns : goal.returns
returns c =
    let s = sweep_of c.args.bytes.now (seen_image c.args.image.now) (map string_bytes c.args.args.now) c.args.pages c.args.budget c.args.input.now in
    subst (λ (xs : List ℕ). AreCounted s xs c.lengths.tables.items c.lengths.stops.items) (take_all c.lengths.k c.args.lengths.now (omega arith)) c.lengths.invariant
