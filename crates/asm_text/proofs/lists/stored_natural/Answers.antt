use Rattle.std.proofs.Common.{arith}
use Rattle.asm_text.proofs.Widths.{natural, shifted}
use Rattle.asm_text.proofs.lists.stored_natural.Goals as goal

pub returns-then-n-limit : goal.returns-then-n-limit
returns-then-n-limit c = natural c.args.bits c.args.n (omega (arith, c.if-n-limit.true, shifted c.args.bits c.requires))
