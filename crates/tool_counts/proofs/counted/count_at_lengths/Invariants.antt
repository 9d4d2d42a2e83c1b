use Rattle.std.proofs.Common.{map, string_bytes, take}
use Rattle.elf_image.specs.Images.{seen_image}
use Rattle.tool_counts.specs.Counted.{sweep_of, AreCounted}
use Rattle.tool_counts.proofs.counted.count_at_lengths.Given as goal

abbrev pub invariant-lengths : goal.invariant-lengths
invariant-lengths l =
    AreCounted (sweep_of l.bytes (seen_image l.image) (map string_bytes l.args) l.pages l.budget l.input) (take l.k l.lengths) l.tables.items l.stops.items
