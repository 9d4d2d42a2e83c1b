use Rattle.std.proofs.Common.{length}
use Rattle.text_code.proofs.choosing.+told_bits.Given as goal

abbrev pub decreases-told_bits : goal.decreases-told_bits
decreases-told_bits l = length l.numbers.now
