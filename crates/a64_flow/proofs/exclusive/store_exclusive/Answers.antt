use Rattle.std.proofs.Common.{arith, rules}
use Rattle.std.specs.Prelude.{true}
use Rattle.a64_effects.specs.LoadStore.{after_exclusive}
use Rattle.a64_flow.proofs.exclusive.store_exclusive.Goals as goal
use Rattle.a64_flow.proofs.exclusive.store_exclusive.Goals.{then-kept+in_ok-single, else-kept}

-- src/exclusive.rt:73:9
pub returns-in_err-single-clause-done : goal.returns-in_err-single-clause-done
returns-in_err-single-clause-done c =
    grind (arith, c.single.ensures.done (after_exclusive c.args.rs true))

-- src/exclusive.rt:53:1
pub returns-clause-done : goal.returns-clause-done
returns-clause-done c = elim c.if-kept.branch [
  | then-kept+in_ok-single w ↦ grind (arith, w.single.ensures.done (after_exclusive c.args.rs true))
  | else-kept w ↦ search rules
]
