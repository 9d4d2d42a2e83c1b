use Rattle.std.proofs.Common.{◌≡◌, ◌+◌, ◌*◌, refl, ap, ◌∙◌, arith}
use Rattle.emu_model.specs.Access.{address}
use Rattle.emu_model.specs.Elements.{accesses_of}
use Rattle.sve_effects.specs.VectorElements.{elements_below}
use Rattle.element_loops.specs.Layouts.{layout_of}
use Rattle.element_loops.proofs.RunNotes.{next_lanes}
use Rattle.element_loops.proofs.noting.note_some.Goals as goal

pub loop-k-init : goal.loop-k-init
loop-k-init c = record { few = c.requires.within; count = c.requires.count; noted = c.requires.noted; at = c.requires.at }

pub loop-k-preserved : goal.loop-k-preserved
loop-k-preserved c = record {
  few = c.note_next-d.ensures.few;
  count = c.note_next-d.ensures.count;
  noted = c.note_next-d.ensures.noted;
  at = next_lanes c.args.run.now.base c.args.plan.now.registers c.args.plan.now.bytes c.loop-k.k c.note_next-d.result c.loop-k.at _ (c.args.plan.now.registers * c.args.plan.now.bytes) c.loop-k.invariant.at refl (ap (λ n. address (c.loop-k.at + n)) c.from-at.ensures);
}

pub returns : goal.returns
returns c =
    let end : c.loop-k.k ≡ c.args.plan.now.lanes = omega (arith, c.loop-k-test.false, c.loop-k.invariant.few) in
    c.loop-k.invariant.noted ∙ ap (λ n. accesses_of c.args.write (elements_below (layout_of c.args.plan.now c.args.vec.now) n)) end
