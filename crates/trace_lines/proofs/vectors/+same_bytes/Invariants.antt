use Rattle.trace_lines.proofs.vectors.+same_bytes.Given as goal

abbrev pub decreases-same_bytes : goal.decreases-same_bytes
decreases-same_bytes l = l.count
