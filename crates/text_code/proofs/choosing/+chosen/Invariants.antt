use Rattle.std.proofs.Common.{length}
use Rattle.text_code.proofs.choosing.+chosen.Given as goal

abbrev pub decreases-chosen : goal.decreases-chosen
decreases-chosen l = length l.patterns.now
