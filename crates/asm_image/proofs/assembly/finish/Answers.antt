use Rattle.asm_image.proofs.Assembled.{parts_of_draft}
use Rattle.asm_image.proofs.assembly.finish.Goals as goal

pub returns : goal.returns
returns g c = λ l is.
    c.build.ensures l
    (parts_of_draft g.T.Instructions.statements g.T.Instructions.has_target c.args.draft l c.deref_mut.result.now c.deref_mut-2.result.now c.deref.result.now is
    c.deref_mut.ensures.value c.deref_mut-2.ensures.value c.deref.ensures.value)
