use Rattle.std.proofs.Common.{◌≡◌, ◌∙◌, ℕ, length, replicate, refl, sym, ap, subst}
use Rattle.std.proofs.lemmas.List.{length-replicate}
use Rattle.asm_image.specs.Draft.{IsPut, with_body}
use Rattle.asm_image.proofs.Layouts.{same_place}
use Rattle.asm_image.proofs.Pieces.{bytes_body}
use Rattle.listing_model.specs.declared.directive.Directive.{Directive}
use Rattle.listing_model.specs.declared.directive.Directive.TheVariants as directive
use Rattle.listing_model.specs.declared.line.Body.TheVariants as body
use Rattle.listing_model.specs.Layout.{padding, here}
use Rattle.asm_image.proofs.placing.put_directive.Goals as goal

pub returns-in-Ascii : goal.returns-in-Ascii
returns-in-Ascii g c = λ l is.
    let same = c.as_bytes.ensures.value ∙ c.text.view_is in
    subst (λ (d : Directive). IsPut g.T.Instructions.has_target c.put.result c.put.new.draft (with_body g.T.Instructions.statements c.args.line l (body.Directive d)))
    (sym c.in-Ascii.is)
    (bytes_body g.T.Instructions.has_target g.T.Instructions.statements c.args.line l (body.Directive (directive.Ascii c.in-Ascii.text)) c.in-Ascii.text c.as_bytes.result.now
    (length c.as_bytes.result.now) c.args.draft.now c.put.new.draft c.put.result is refl refl refl refl same (ap length same) c.put.ensures.ok c.put.ensures.full)

pub returns-in-Zero : goal.returns-in-Zero
returns-in-Zero g c = λ l is.
    subst (λ (d : Directive). IsPut g.T.Instructions.has_target c.put_zeros.result c.put_zeros.new.draft (with_body g.T.Instructions.statements c.args.line l (body.Directive d)))
    (sym c.in-Zero.is)
    (bytes_body g.T.Instructions.has_target g.T.Instructions.statements c.args.line l (body.Directive (directive.Zero c.in-Zero.count)) (replicate c.in-Zero.count 0)
    (replicate c.in-Zero.count 0) c.in-Zero.count c.args.draft.now c.put_zeros.new.draft c.put_zeros.result is refl refl refl refl refl
    (sym (length-replicate c.in-Zero.count 0)) c.put_zeros.ensures.ok c.put_zeros.ensures.full)

pub returns-in-Align : goal.returns-in-Align
returns-in-Align g c = λ l is.
    let put = c.put_zeros-in-Align in
    let count : c.from.result ≡ padding c.in-Align.to (here l) =
    c.from.ensures ∙ c.filling_at.ensures ∙ ap (padding c.in-Align.to) (c.here.ensures.at ∙ same_place g.T.Instructions.has_target c.args.draft.now l is) in
    subst (λ (d : Directive). IsPut g.T.Instructions.has_target put.result put.new.draft (with_body g.T.Instructions.statements c.args.line l (body.Directive d)))
    (sym c.in-Align.is)
    (bytes_body g.T.Instructions.has_target g.T.Instructions.statements c.args.line l (body.Directive (directive.Align c.in-Align.to))
    (replicate (padding c.in-Align.to (here l)) 0) (replicate c.from.result 0) c.from.result c.args.draft.now put.new.draft put.result is refl refl refl refl
    (ap (λ (n : ℕ). replicate n 0) count) (count ∙ sym (length-replicate (padding c.in-Align.to (here l)) 0)) put.ensures.ok put.ensures.full)
