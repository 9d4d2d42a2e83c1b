use Rattle.std.proofs.Common.{ap, ◌∙◌}
use Rattle.emu_system.specs.declared.system_call.CallName.{CallName}
use Rattle.emu_system.specs.SystemCall.{action_of}
use Rattle.linux_calls.proofs.Actions.{done_nothing}
use Rattle.linux_calls.proofs.still.make_still.Goals as goal

pub returns-in-Ioctl-clause-done : goal.returns-in-Ioctl-clause-done
returns-in-Ioctl-clause-done c v =
    let m = c.args.mem.now.memory in let brk = c.args.brk.now in
    done_nothing c.ioctl.result _ m brk (ap (λ (n : CallName). action_of n c.args.core.now v m brk) c.in-Ioctl.is ∙ c.ioctl.ensures v m brk)
