use Rattle.std.proofs.Common.{◌≡◌, ◌*◌, ℕ, subst, arith}
use Rattle.emu_model.specs.Elements.{Element}
use Rattle.element_loops.specs.Layouts.{layout_of}
use Rattle.element_loops.specs.Planned.{stored_by}
use Rattle.element_loops.specs.Runs.{AreFilled, stored_in_turn}
use Rattle.element_loops.proofs.line_store.fill_each.Goals as goal

pub returns-clause-filled : goal.returns-clause-filled
returns-clause-filled c =
    let f : Element → ℕ = stored_by c.args.plan.now.target (layout_of c.args.plan.now c.args.vec.now) c.args.vec.now in
    let end : c.loop-k.k ≡ c.args.plan.now.lanes = omega (arith, c.loop-k-test.false, c.loop-k.auto.k-end) in
    subst (λ n. AreFilled c.args.plan.now.bytes (stored_in_turn f c.args.plan.now c.args.vec.now) (n * c.args.plan.now.registers) c.loop-k.bytes) end c.loop-k.invariant.filled
