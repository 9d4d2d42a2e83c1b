use Rattle.trace_lines.proofs.vectors.+same_bits.Given as goal

abbrev pub decreases-same_bits : goal.decreases-same_bits
decreases-same_bits l = l.count
