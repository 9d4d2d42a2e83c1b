use Rattle.trace_lines.proofs.accesses.+push_value.Given as goal

abbrev pub decreases-push_value : goal.decreases-push_value
decreases-push_value l = l.count
