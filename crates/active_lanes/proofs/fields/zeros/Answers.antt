use Rattle.std.proofs.lemmas.Nat.{trailing_le}
use Rattle.active_lanes.proofs.LaneBits.{zeros_are, zeros_end}
use Rattle.active_lanes.proofs.fields.zeros.Goals as goal

pub returns-clause-zeros : goal.returns-clause-zeros
returns-clause-zeros c = λ i h. zeros_are c.args.bits i c.ranges.bits.fits h

pub returns-clause-few : goal.returns-clause-few
returns-clause-few c = trailing_le 64 c.args.bits

pub returns-clause-next : goal.returns-clause-next
returns-clause-next c = λ h. zeros_end c.args.bits c.ranges.bits.fits h
