use Rattle.std.proofs.Common.{◌≡◌, ◌≤◌, ◌++◌, ◌+◌, ◌*◌, ℕ, List, length, sym, ap, ◌∙◌, arith}
use Rattle.std.proofs.Math.Nat.{mul-le-mul_right}
use Rattle.emu_model.specs.Access.{address}
use Rattle.emu_model.specs.Lists.{each}
use Rattle.emu_model.specs.declared.access.Access.{Access}
use Rattle.element_loops.proofs.RunNotes.{noted_below}
use Rattle.element_loops.proofs.noting.note.Goals as goal

pub overflow_mul-count : goal.overflow_mul-count
overflow_mul-count c =
    let fewer : c.args.run.now.front * c.args.plan.now.registers ≤ c.args.plan.now.lanes * c.args.plan.now.registers = mul-le-mul_right c.args.plan.now.registers c.requires.front.few in
    record { fits = omega (arith, fewer, c.most_elements-most.ensures.value, c.most_elements-most.ensures.most) }

pub push_run-requires : goal.push_run-requires
push_run-requires c =
    let none : length c.args.log.now.items ≡ 0 = ap (λ (l : List Access). length l) c.requires.empty in
    let fewer : c.args.run.now.front * c.args.plan.now.registers ≤ c.args.plan.now.lanes * c.args.plan.now.registers = mul-le-mul_right c.args.plan.now.registers c.requires.front.few in
    omega (arith, none, fewer, c.most_elements-most.ensures.value, c.most_elements-most.ensures.most)

pub note_some-requires-clause-noted : goal.note_some-requires-clause-noted
note_some-requires-clause-noted c =
    let f : ℕ → Access = λ i. record { address = address (c.args.run.now.base + i * c.args.plan.now.bytes); bytes = c.args.plan.now.bytes; write = c.args.write } in
    c.push_run.ensures.items ∙ ap (λ (l : List Access). l ++ each (c.args.run.now.front * c.args.plan.now.registers) f) c.requires.empty
    ∙ sym (noted_below c.args.run.now.base c.args.run.now.pg c.args.run.now.whole c.args.plan.now c.args.vec.now c.requires.run c.args.write c.args.run.now.front c.requires.front.on)
