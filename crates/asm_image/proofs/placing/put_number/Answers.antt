use Rattle.std.proofs.Common.{◌≡◌, ◌∙◌, ◌∷◌, [], ℕ, List, length, take, sym, ap, subst}
use Rattle.std.specs.Int.{bytes_low_first}
use Rattle.asm_image.specs.Draft.{IsPut, with_pieces}
use Rattle.asm_image.proofs.Pieces.{address_put, label_put, low_bytes}
use Rattle.asm_tokens.specs.declared.target.Target.{Target}
use Rattle.listing_model.specs.Layout.{number_piece}
use Rattle.asm_image.proofs.placing.put_number.Goals as goal

pub returns-in-Address : goal.returns-in-Address
returns-in-Address g c = λ l is.
    let all : c.to_le_bytes.result ≡ bytes_low_first 0 8 c.in-Address.x = c.to_le_bytes.ensures in
    let same : take c.args.size c.to_le_bytes.result ≡ bytes_low_first 0 c.args.size c.in-Address.x =
    ap (λ (bs : List ℕ). take c.args.size bs) all ∙ low_bytes c.args.size 8 0 c.in-Address.x c.requires in
    subst (λ (t : Target). IsPut g.T.Instructions.has_target c.put.result c.put.new.draft (with_pieces c.args.line (number_piece c.args.size t ∷ []) l))
    (sym c.in-Address.is)
    (address_put g.T.Instructions.has_target c.args.line c.args.size c.in-Address.x (take c.args.size c.to_le_bytes.result) (length (take c.args.size c.to_le_bytes.result))
    c.args.draft.now c.put.new.draft l c.put.result is same (ap length same) c.put.ensures.ok c.put.ensures.full)

pub returns-in-Label : goal.returns-in-Label
returns-in-Label g c = λ l is.
    subst (λ (t : Target). IsPut g.T.Instructions.has_target c.put_hole.result c.put_hole.new.draft (with_pieces c.args.line (number_piece c.args.size t ∷ []) l))
    (sym c.in-Label.is)
    (label_put g.T.Instructions.has_target c.args.line c.args.size c.in-Label.name c.args.draft.now c.put_hole.new.draft l c.put_hole.result is
    c.put_hole.ensures.ok c.put_hole.ensures.full)
