use Rattle.std.proofs.Common.{◌∙◌, ℕ, length, sym, ap}
use Rattle.std.proofs.lemmas.Bool.{cond-true, cond-false}
use Rattle.asm_image.specs.Filling.{patch_bytes, piece_of}
use Rattle.listing_model.specs.Image.{address_of, piece_bytes}
use Rattle.listing_model.specs.Layout.{is_data}
use Rattle.asm_image.proofs.filling.fill_hole.Goals as goal

pub returns-in-Code : goal.returns-in-Code
returns-in-Code g c =
    let size : ℕ = length c.args.code.now in
    let in_code = ap is_data c.in-Code.is in
    record {
      bs = patch_bytes c.in-Ok.patch;
      is = ap (λ (pc : ℕ). piece_bytes g.T.Instructions.statements (address_of size c.args.labels.now) pc (piece_of c.args.hole.now.gap)) (sym c.address_at-pc.ensures) ∙ c.in-Ok.ensures;
      code_is = c.put_patch.ensures ∙ sym (cond-false (is_data c.args.hole.now.place.section) _ _ in_code);
      values_is = sym (cond-false (is_data c.args.hole.now.place.section) _ _ in_code);
    }

pub returns-in-Data : goal.returns-in-Data
returns-in-Data g c =
    let size : ℕ = length c.args.code.now in
    let in_data = ap is_data c.in-Data.is in
    record {
      bs = patch_bytes c.in-Ok.patch;
      is = ap (λ (pc : ℕ). piece_bytes g.T.Instructions.statements (address_of size c.args.labels.now) pc (piece_of c.args.hole.now.gap)) (sym c.address_at-pc.ensures) ∙ c.in-Ok.ensures;
      code_is = sym (cond-true (is_data c.args.hole.now.place.section) _ _ in_data);
      values_is = c.put_patch-in-Data.ensures ∙ sym (cond-true (is_data c.args.hole.now.place.section) _ _ in_data);
    }
