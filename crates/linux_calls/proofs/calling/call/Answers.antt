use Rattle.std.proofs.Common.{ap}
use Rattle.emu_system.specs.declared.system_call.CallName.{CallName}
use Rattle.emu_system.specs.SystemCall.{action_of}
use Rattle.linux_calls.proofs.Finished.{refused_done}
use Rattle.linux_calls.proofs.calling.call.Goals as goal

pub returns-clause-refused : goal.returns-clause-refused
returns-clause-refused g c error is =
    refused_done _ _ _ _ _ _ _ error c.make.result (ap (λ (n : CallName). action_of n c.args.core.now c.args.vec.now c.args.mem.now.memory c.args.brk.now) c.name_of_call-name.ensures.name) c.make.ensures.done is
