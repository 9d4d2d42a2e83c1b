use Rattle.std.proofs.Common.{length}
use Rattle.text_print.proofs.printing.+put_slots.Given as goal

abbrev pub decreases-put_slots : goal.decreases-put_slots
decreases-put_slots l = length l.slots.now
