use Rattle.std.proofs.Common.{arith}
use Rattle.a64_flow.proofs.exec.Goals as goal

pub returns-in-Except-clause-done : goal.returns-in-Except-clause-done
returns-in-Except-clause-done c = grind (arith, c.except.ensures c.args.vec.now c.args.mem.now.memory)

pub returns-in-Branch-clause-done : goal.returns-in-Branch-clause-done
returns-in-Branch-clause-done c = grind (arith, c.by_operation.ensures c.args.vec.now c.args.mem.now.memory)

pub returns-in-BranchCond-clause-done : goal.returns-in-BranchCond-clause-done
returns-in-BranchCond-clause-done c = grind (arith, c.by_operation-in-BranchCond.ensures c.args.vec.now c.args.mem.now.memory)

pub returns-in-Compare-clause-done : goal.returns-in-Compare-clause-done
returns-in-Compare-clause-done c = grind (arith, c.by_operation-in-Compare.ensures c.args.vec.now c.args.mem.now.memory)

pub returns-in-Test-clause-done : goal.returns-in-Test-clause-done
returns-in-Test-clause-done c = grind (arith, c.by_operation-in-Test.ensures c.args.vec.now c.args.mem.now.memory)

pub returns-in-BranchReg-clause-done : goal.returns-in-BranchReg-clause-done
returns-in-BranchReg-clause-done c = grind (arith, c.by_operation-in-BranchReg.ensures c.args.vec.now c.args.mem.now.memory)

pub returns-in-Hint-clause-done : goal.returns-in-Hint-clause-done
returns-in-Hint-clause-done c = grind (arith, c.by_operation-in-Hint.ensures c.args.vec.now c.args.mem.now.memory)
