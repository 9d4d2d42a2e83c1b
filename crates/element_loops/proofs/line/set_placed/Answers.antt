use Rattle.std.proofs.Common.{◌≤◌, ◌+◌, ◌*◌, List, ℕ, length, ap, subst, ◌∙◌}
use Rattle.emu_model.specs.Lanes.{with_z}
use Rattle.element_loops.proofs.Lines.{copy_room, lanes_copied}
use Rattle.element_loops.proofs.line.set_placed.Goals as goal

pub set_copied-requires-clause-room : goal.set_copied-requires-clause-room
set_copied-requires-clause-room c =
    copy_room c.args.plan.now.bits c.args.plan.now.bytes c.args.vec.now.bits c.args.at (length c.args.bytes.now) c.requires.plan.size c.length-length.ensures.length (c.are_copied.ensures.same c.if-are_copied.true)
    (λ k b. subst (λ s. c.args.at + k * s + c.args.plan.now.bytes ≤ length c.args.bytes.now) (c.are_copied.ensures.next c.if-are_copied.true) (c.requires.room k b))

pub returns-then-are_copied : goal.returns-then-are_copied
returns-then-are_copied c = λ f given.
    c.set_copied.ensures
    ∙ ap (λ (bs : List ℕ). with_z c.args.vec.now c.args.zd bs)
    (lanes_copied c.args.pg c.args.whole c.args.plan.now c.args.vec.now c.requires.plan.size c.length-length.ensures.length c.args.bytes.now c.args.at c.args.step f (λ k. (c.type_inv.bytes k).fits)
    (c.are_copied.ensures.unsigned c.if-are_copied.true) (c.are_copied.ensures.same c.if-are_copied.true) (c.are_copied.ensures.next c.if-are_copied.true) given)
