use Rattle.std.proofs.Common.{not, ap, sym, ◌∙◌}
use Rattle.emu_bits.specs.Numbers.{signed}
use Rattle.lane_tests.proofs.Orders.{most_is}
use Rattle.lane_tests.proofs.compares.GeLaneWiseTest2.one.Goals as goal

pub returns : goal.returns
returns g c = ap not c.signed_less.ensures ∙ sym (most_is (signed (g.T.Lane.number c.args.a) g.T.Lane.BITS) (signed (g.T.Lane.number c.args.b) g.T.Lane.BITS))
