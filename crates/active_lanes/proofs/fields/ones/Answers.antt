use Rattle.std.proofs.Common.{◌≡◌, ◌<◌, ◌≤◌, ◌/◌, ◌%◌, ◌^◌, sym, subst}
use Rattle.std.specs.Int.{bit_not, w64}
use Rattle.std.proofs.lemmas.Nat.{trailing_le}
use Rattle.active_lanes.proofs.LaneBits.{ones_are, ones_end}
use Rattle.active_lanes.proofs.fields.ones.Goals as goal

pub returns-clause-ones : goal.returns-clause-ones
returns-clause-ones c = λ i h. ones_are c.args.bits i c.ranges.bits.fits (subst (λ n. i < n) c.trailing_ones.ensures h)

pub returns-clause-few : goal.returns-clause-few
returns-clause-few c = subst (λ n. n ≤ 64) (sym c.trailing_ones.ensures) (trailing_le 64 (bit_not w64 c.args.bits))

pub returns-clause-next : goal.returns-clause-next
returns-clause-next c = λ h. subst (λ n. n < 64 → c.args.bits / 2 ^ n % 2 ≡ 0) (sym c.trailing_ones.ensures) (ones_end c.args.bits c.ranges.bits.fits) h
