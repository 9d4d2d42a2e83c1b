-- A number of 32 bits fits any wider type.
use Rattle.std.proofs.Common.{arith, refl}
use Rattle.emu_bits.proofs.Places.{below_wide}
use Rattle.emu_bits.proofs.fields.U.new.Goals as goal

pub invariant_of-result : goal.invariant_of-result
invariant_of-result g c = below_wide c.args.v g.row.N (omega arith) (omega arith)

pub returns-then-this-ge32 : goal.returns-then-this-ge32
returns-then-this-ge32 g c = (below_wide c.args.v g.row.N (omega arith) (omega arith), refl)
