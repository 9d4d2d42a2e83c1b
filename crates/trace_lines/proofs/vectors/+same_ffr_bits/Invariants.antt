use Rattle.trace_lines.proofs.vectors.+same_ffr_bits.Given as goal

abbrev pub decreases-same_ffr_bits : goal.decreases-same_ffr_bits
decreases-same_ffr_bits l = l.count
