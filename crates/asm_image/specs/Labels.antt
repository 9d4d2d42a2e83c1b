-- The entries of a map of labels as a list of labels.
use Rattle.std.specs.Prelude.{String, ℕ, List, map, string_bytes}
use Rattle.std.specs.Global.{Global}
use Rattle.asm_image.specs.declared.labels.Place.{Place}
use Rattle.listing_model.specs.Layout.{Labeled}

abbrev pub labeled_at : List ℕ → Place → Labeled
labeled_at name p = record { name = name; section = p.section; place = p.at }

abbrev pub labels_of : List (String Global × Place) → List Labeled
labels_of es = map (λ e. labeled_at (string_bytes e.0) e.1) es
