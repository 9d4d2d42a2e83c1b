use Rattle.std.proofs.Common.{◌≡◌, ◌≤◌, ◌+◌, ◌*◌, ℕ, sym, ap, subst, ◌∙◌, arith}
use Rattle.emu_model.specs.Elements.{Element}
use Rattle.emu_model.specs.Lanes.{lane, read_z}
use Rattle.element_loops.specs.declared.plan.Target.{Target}
use Rattle.element_loops.specs.Layouts.{layout_of}
use Rattle.element_loops.specs.Planned.{stored_by}
use Rattle.element_loops.specs.Runs.{AreFilled, stored_in_turn}
use Rattle.element_loops.specs.SoFar.{element_of_lane}
use Rattle.element_loops.proofs.Lines.{element_fits, filled_more, in_turn_is}
use Rattle.element_loops.proofs.line_store.fill_lane.Goals as goal

pub loop-j-preserved : goal.loop-j-preserved
loop-j-preserved c =
    let f : Element → ℕ = stored_by c.args.plan.now.target (layout_of c.args.plan.now c.args.vec.now) c.args.vec.now in
    let g : ℕ → ℕ = stored_in_turn f c.args.plan.now c.args.vec.now in
    let i : ℕ = c.args.k * c.args.plan.now.registers + c.loop-j.j in
    let next : c.args.k * c.args.plan.now.registers + c.loop-j.j + 1 ≡ c.args.k * c.args.plan.now.registers + (c.loop-j.j + 1) = omega arith in
    let value : c.lane-v.result ≡ f (element_of_lane (layout_of c.args.plan.now c.args.vec.now) c.args.k c.loop-j.j)
    = c.lane-v.ensures.value
    ∙ ap (λ e. lane e (read_z c.args.vec.now c.register_at.result) c.args.k) c.requires.size
    ∙ ap (λ r. lane c.args.plan.now.bits (read_z c.args.vec.now r) c.args.k) c.register_at.ensures
    ∙ ap (λ (t : Target). stored_by t (layout_of c.args.plan.now c.args.vec.now) c.args.vec.now (element_of_lane (layout_of c.args.plan.now c.args.vec.now) c.args.k c.loop-j.j)) (sym c.requires.target) in
    record {
      count = c.put_number.ensures.long ∙ c.loop-j.invariant.count;
      filled = λ given. subst (λ n. AreFilled c.args.plan.now.bytes g n c.put_number.new.bytes) next
          (filled_more c.args.plan.now.bytes g i (c.position.result * c.args.plan.now.bytes) c.lane-v.result c.loop-j.bytes c.put_number.new.bytes (ap (λ x. x * c.args.plan.now.bytes) c.position.ensures.value)
          (value ∙ in_turn_is f c.args.plan.now c.args.vec.now c.args.k c.loop-j.j c.loop-j-test.true) c.put_number.ensures.here c.put_number.ensures.before (c.loop-j.invariant.filled given));
    }

pub put_number-requires-clause-room : goal.put_number-requires-clause-room
put_number-requires-clause-room c =
    let fits : (c.args.k * c.args.plan.now.registers + c.loop-j.j) * c.args.plan.now.bytes + c.args.plan.now.bytes ≤ c.args.plan.now.lanes * c.args.plan.now.registers * c.args.plan.now.bytes
    = element_fits c.args.k c.loop-j.j c.args.plan.now.registers c.args.plan.now.lanes c.args.plan.now.bytes c.requires.lane c.loop-j-test.true in
    let here : c.position.result * c.args.plan.now.bytes + c.args.plan.now.bytes ≤ c.args.plan.now.lanes * c.args.plan.now.registers * c.args.plan.now.bytes
    = subst (λ x. x * c.args.plan.now.bytes + c.args.plan.now.bytes ≤ c.args.plan.now.lanes * c.args.plan.now.registers * c.args.plan.now.bytes) (sym c.position.ensures.value) fits in
    omega (arith, here, c.requires.room, c.loop-j.invariant.count)
