use Rattle.std.proofs.Common.{arith}
use Rattle.a64_operations.proofs.SignedWords.{summed}
use Rattle.a64_operations.proofs.data_forms.add_extended.Goals as goal

pub returns-in-6 : goal.returns-in-6
returns-in-6 c = λ ready core v m.
    summed c.args.ext c.of-d.result c.of-n.result c.of-m.result c.amount-amount.result c.args.rm c.args.a c.args.rn c.args.rd
    (omega arith) (omega arith) (omega arith) (omega arith) (omega arith) core v m
