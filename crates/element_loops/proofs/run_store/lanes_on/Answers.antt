use Rattle.std.proofs.Common.{◌∙◌, arith}
use Rattle.active_lanes.proofs.Kept.{active_is_kept}
use Rattle.element_loops.proofs.run_store.lanes_on.Goals as goal

pub returns-then-k-run-clause-on : goal.returns-then-k-run-clause-on
returns-then-k-run-clause-on c = λ i lo hi. c.requires.front.on i (omega (arith, hi, c.min.ensures))

pub returns-clause-on : goal.returns-clause-on
returns-clause-on c = λ i lo hi.
    c.requires.run.line.on i (omega (arith, hi, c.requires.within, c.active_from.ensures.few))
    ∙ active_is_kept c.args.run.now.whole c.args.run.now.pg c.args.plan.now.bits c.args.vec.now i (c.active_from.ensures.on i lo hi)
