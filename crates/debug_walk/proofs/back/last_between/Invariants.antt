use Rattle.std.proofs.Common.{◌+◌, ◌-◌, cond}
use Rattle.emu_model.specs.State.{State}
use Rattle.emu_machine.specs.Machines.{has_ended}
use Rattle.dbg_model.specs.Session.{Course}
use Rattle.dbg_back.specs.Walks.{IsWalk}
use Rattle.debug_walk.proofs.Backing.{Asked}
use Rattle.debug_walk.proofs.back.last_between.Given as goal

abbrev pub invariant-walk : goal.invariant-walk
invariant-walk g l =
    (start : State) (c : Course) → IsWalk start l.input c l.fn.machine l.fn.trail
    → Asked (g.T.Test.meets l.test) l.least l.fn.machine.parts.steps l.last start l.input c l.machine l.trail l.found

-- a machine that has ended takes no step
abbrev pub decreases-walk : goal.decreases-walk
decreases-walk g l = cond (has_ended l.machine) 0 (1 + (l.last - l.machine.parts.steps))
