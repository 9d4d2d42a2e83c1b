use Rattle.std.proofs.Common.{arith}
use Rattle.a64_effects.specs.LoadStore.{keeping}
use Rattle.a64_flow.proofs.exclusive.load_exclusive.Goals as goal

-- src/exclusive.rt:98:5
pub returns-in_err-single-clause-done : goal.returns-in_err-single-clause-done
returns-in_err-single-clause-done c =
    grind (arith, c.single.ensures.done (keeping c.x_sp-address.result c.bytes_of-n.result))

-- src/exclusive.rt:81:1
pub returns-clause-done : goal.returns-clause-done
returns-clause-done c =
    grind (arith, c.single.ensures.done (keeping c.x_sp-address.result c.bytes_of-n.result))
