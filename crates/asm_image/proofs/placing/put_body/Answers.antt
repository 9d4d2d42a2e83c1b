use Rattle.std.proofs.Common.{◌≡◌, ◌∙◌, length, refl, sym, ap, subst}
use Rattle.std.specs.Int.{bytes_low_first}
use Rattle.asm_image.specs.Draft.{IsPut, with_body}
use Rattle.asm_image.proofs.Pieces.{aimed_put, bytes_body}
use Rattle.asm_text.specs.Aimable.{IsAimable}
use Rattle.listing_model.specs.declared.line.Body.{Body}
use Rattle.listing_model.specs.declared.line.Body.TheVariants as body
use Rattle.asm_image.proofs.placing.put_body.Goals as goal

pub returns-in-Plain : goal.returns-in-Plain
returns-in-Plain g c = λ l is.
    let all : c.to_le_bytes.result ≡ bytes_low_first 0 4 c.word.result = c.to_le_bytes.ensures in
    let same = all ∙ ap (bytes_low_first 0 4) c.word.ensures in
    subst (λ (b : Body g.row.T-Insn.Denot). IsPut g.T.Instructions.has_target c.put.result c.put.new.draft (with_body g.T.Instructions.statements c.args.line l b))
    (sym c.in-Plain.is)
    (bytes_body g.T.Instructions.has_target g.T.Instructions.statements c.args.line l (body.Plain c.in-Plain.insn) _ c.to_le_bytes.result
    (length c.to_le_bytes.result) c.args.draft.now c.put.new.draft c.put.result is refl refl refl refl same (ap length same) c.put.ensures.ok c.put.ensures.full)

pub returns-in-Aimed : goal.returns-in-Aimed
returns-in-Aimed g c = λ l is.
    subst (λ (b : Body g.row.T-Insn.Denot). IsPut g.T.Instructions.has_target c.put_hole.result c.put_hole.new.draft (with_body g.T.Instructions.statements c.args.line l b))
    (sym c.in-Aimed.is)
    (aimed_put g.T.Instructions.has_target g.T.Instructions.statements c.args.line c.in-Aimed.insn c.in-Aimed.target c.args.draft.now c.put_hole.new.draft l c.put_hole.result is
    (subst (IsAimable g.T.Instructions.has_target) c.in-Aimed.is c.requires.aimable) c.put_hole.ensures.ok c.put_hole.ensures.full)
