use Rattle.std.proofs.Common.{◌≡◌}
use Rattle.command_model.specs.Sweep.{first_lengths}
use Rattle.tool_counts.proofs.command.all_lengths.Given as goal

abbrev pub invariant-lengths : goal.invariant-lengths
invariant-lengths l = l.all.items ≡ first_lengths l.k
