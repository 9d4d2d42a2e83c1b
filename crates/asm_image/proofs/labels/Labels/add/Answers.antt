use Rattle.std.proofs.Common.{◌≡◌, ◌∙◌, ◌++◌, [], ◌∷◌, ℕ, List, Option, sym, ap, ap₂, subst, refl, string_bytes}
use Rattle.std.specs.Prelude.{IsSome}
use Rattle.std.specs.Map.{lookup}
use Rattle.std.specs.Str.{bytes_eq}
use Rattle.std.specs.String.{string_eq}
use Rattle.indexmap.proofs.CallerLemmas.{insert_entry-new}
use Rattle.asm_image.specs.Labels.{labeled_at, labels_of}
use Rattle.asm_image.proofs.Named.{found_none, found_some, one_label_more, is_new}
use Rattle.listing_model.specs.Layout.{Labeled, label_named}
use Rattle.asm_image.proofs.labels.Labels.add.Goals as goal

pub returns : goal.returns
returns c =
    let es = c.self.inside.places.entries in
    let k = c.name.inside.text in
    let v = c.self.view_is in
    let w = c.name.view_is in
    let old_is : c.in-Ok.old ≡ lookup (λ e. bytes_eq (string_bytes k) (string_bytes e)) es = c.in-Ok.ensures.old in
    let same : label_named (string_bytes k) (labels_of es) ≡ label_named c.args.name c.args.self.now =
    ap₂ (λ (n : List ℕ) (ls : List Labeled). label_named n ls) w v in
    is_new c.is_none.result c.in-Ok.old c.args.self.now (labels_of c.insert.new.self.entries) c.args.name c.args.place c.is_none.ensures
    (λ e. (
      sym same ∙ found_none (string_bytes k) es (sym old_is ∙ e),
      ap labels_of (c.in-Ok.ensures.entries ∙ insert_entry-new string_eq c.self.inside.places k c.args.place (sym old_is ∙ e))
          ∙ one_label_more es k c.args.place
          ∙ ap₂ (λ (xs : List Labeled) (n : List ℕ). xs ++ labeled_at n c.args.place ∷ []) v w,
    ))
    (λ q e. subst (λ (o : Option Labeled). IsSome o) (sym (sym same ∙ found_some (string_bytes k) es q (sym old_is ∙ e))) refl)
