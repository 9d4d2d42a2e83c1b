use Rattle.tool_counts.proofs.Lines.{more_lengths}
use Rattle.tool_counts.proofs.command.all_lengths.Goals as goal

pub lengths-preserved : goal.lengths-preserved
lengths-preserved c = more_lengths c.lengths.k c.length_behind.result c.lengths.all.items _ c.length_behind.ensures c.in_ok-push.ensures.items c.lengths.invariant
