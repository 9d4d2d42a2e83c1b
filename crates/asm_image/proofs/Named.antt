-- Labels found by their names.
use Rattle.std.proofs.Common.{◌≡◌, ℕ, ◌∙◌, Bool, true, false, not, List, [], ◌∷◌, ◌++◌, Option, Some, None, refl, sym, ap, inl, inr, String, string_bytes}
use Rattle.std.specs.Prelude.{option_map, IsSome, MatchBool, is_some}
use Rattle.std.specs.Global.{Global}
use Rattle.std.specs.Map.{lookup}
use Rattle.std.specs.Str.{bytes_eq}
use Rattle.std.proofs.lemmas.Bool.{cases_Bool, cond-true, cond-false}
use Rattle.std.proofs.lemmas.List.{map-append}
use Rattle.std.proofs.lemmas.Slice.Eq.{bytes_eq-Decides}
use Rattle.asm_image.specs.declared.labels.Place.{Place}
use Rattle.asm_image.specs.Labels.{labeled_at, labels_of}
use Rattle.listing_model.specs.Layout.{Labeled, label_named}

-- what a look-up finds is the first label of the name
pub found : (name : List ℕ) (es : List (String Global × Place))
    → option_map (labeled_at name) (lookup (λ k. bytes_eq name (string_bytes k)) es) ≡ label_named name (labels_of es)
found name [] = refl
found name (e ∷ es) =
    let test : Bool = bytes_eq name (string_bytes e.0) in
    elim (cases_Bool test) [
      | inl h ↦ ap (option_map (labeled_at name)) (cond-true test _ _ h)
          ∙ ap (λ (n : List ℕ). Some (labeled_at n e.1)) ((bytes_eq-Decides name (string_bytes e.0)).0 h) ∙ sym (cond-true test _ _ h)
      | inr h ↦ ap (option_map (labeled_at name)) (cond-false test _ _ h) ∙ found name es ∙ sym (cond-false test _ _ h)
    ]

-- none is found
pub found_none : (name : List ℕ) (es : List (String Global × Place)) → lookup (λ k. bytes_eq name (string_bytes k)) es ≡ None
    → label_named name (labels_of es) ≡ None
found_none name es h = sym (found name es) ∙ ap (option_map (labeled_at name)) h

pub found_some : (name : List ℕ) (es : List (String Global × Place)) (p : Place) → lookup (λ k. bytes_eq name (string_bytes k)) es ≡ Some p
    → label_named name (labels_of es) ≡ Some (labeled_at name p)
found_some name es p h = sym (found name es) ∙ ap (option_map (labeled_at name)) h

pub one_label_more : (es : List (String Global × Place)) (name : String Global) (p : Place)
    → labels_of (es ++ (name, p) ∷ []) ≡ labels_of es ++ labeled_at (string_bytes name) p ∷ []
one_label_more es name p = map-append (λ e. labeled_at (string_bytes e.0) e.1) es ((name, p) ∷ [])

-- a label is new where none was found before it
pub is_new : (b : Bool) (o : Option Place) (old new : List Labeled) (name : List ℕ) (p : Place) → is_some o ≡ not b
    → (o ≡ None → (label_named name old ≡ None) × (new ≡ old ++ labeled_at name p ∷ [])) → ((q : Place) → o ≡ Some q → IsSome (label_named name old))
    → MatchBool b ((label_named name old ≡ None) × (new ≡ old ++ labeled_at name p ∷ [])) (IsSome (label_named name old))
is_new true None old new name p e f g = f refl
is_new false None old new name p e f g = cc
is_new true (Some q) old new name p e f g = cc
is_new false (Some q) old new name p e f g = g q refl
