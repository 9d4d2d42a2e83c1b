use Rattle.vec_regs.proofs.Low.{number_zero}
use Rattle.vec_regs.proofs.lower.register_of.Goals as goal

pub returns-clause-above : goal.returns-clause-above
returns-clause-above c = number_zero c.args.v
