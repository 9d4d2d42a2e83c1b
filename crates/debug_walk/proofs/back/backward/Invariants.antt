use Rattle.emu_model.specs.State.{State}
use Rattle.dbg_model.specs.Session.{Course}
use Rattle.dbg_back.specs.Walks.{IsWalk}
use Rattle.debug_walk.proofs.Backing.{Stands}
use Rattle.debug_walk.proofs.back.backward.Given as goal

abbrev pub invariant-marks : goal.invariant-marks
invariant-marks g l =
    (start : State) (c : Course) → IsWalk start l.input c l.fn.machine l.fn.trail
    → Stands (g.T.Test.meets l.test) l.least start l.input c l.machine l.trail l.end

abbrev pub decreases-marks : goal.decreases-marks
decreases-marks g l = l.end
