use Rattle.std.proofs.Common.{◌∙◌, refl, ap, Some}
use Rattle.asm_image.proofs.Pieces.{entry_put}
use Rattle.asm_image.proofs.placing.put_entry.Goals as goal

pub returns : goal.returns
returns g c = λ l is.
    let e = c.in_ok-of.ensures in let s = c.as_str.ensures.value in let v = c.name.view_is in
    entry_put g.T.Instructions.has_target g.T.Instructions.statements c.args.line c.args.name c.args.draft.now _
    c.put_hole.new.draft l c.put_hole.result is c.requires refl refl refl refl refl refl (ap Some (e ∙ s ∙ v)) c.put_hole.ensures.ok c.put_hole.ensures.full
