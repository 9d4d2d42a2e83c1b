use Rattle.std.proofs.Common.{arith}
use Rattle.a64_operations.proofs.SignedWords.{accessed}
use Rattle.a64_operations.proofs.memory_forms.register.Goals as goal

pub returns-in-1-eq6-eq0 : goal.returns-in-1-eq6-eq0
returns-in-1-eq6-eq0 c = λ ready core v m.
    accessed c.args.size c.args.opc c.args.ext c.scale-amount.result 0 c.of-to.result c.of-n.result c.of-m.result c.args.rm c.args.rn c.args.rt c.args.s
    (omega arith) (omega arith) (omega arith) c.scale-amount.ensures (omega arith) (omega arith) (omega arith) core v m

pub returns-in-1-eq6-eq2 : goal.returns-in-1-eq6-eq2
returns-in-1-eq6-eq2 c = λ ready core v m.
    accessed c.args.size c.args.opc c.args.ext c.scale-amount.result 2 c.of-to.result c.of-n.result c.of-m.result c.args.rm c.args.rn c.args.rt c.args.s
    (omega arith) (omega arith) (omega arith) c.scale-amount.ensures (omega arith) (omega arith) (omega arith) core v m

pub returns-in-1-eq6-eq3 : goal.returns-in-1-eq6-eq3
returns-in-1-eq6-eq3 c = λ ready core v m.
    accessed c.args.size c.args.opc c.args.ext c.scale-amount.result 3 c.of-to.result c.of-n.result c.of-m.result c.args.rm c.args.rn c.args.rt c.args.s
    (omega arith) (omega arith) (omega arith) c.scale-amount.ensures (omega arith) (omega arith) (omega arith) core v m
