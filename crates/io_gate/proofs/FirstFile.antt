-- The first file of a name, found from the front.
use Rattle.std.proofs.Common.{◌≡◌, Bool, true, false, ℕ, ◌+◌, ◌<◌, List, ◌∷◌, map, length, get_or, drop, cond, Option, Some, sym, ap, ◌∙◌, string_bytes}
use Rattle.std.specs.Prelude.{String, nat_eq}
use Rattle.std.specs.Global.{Vec, Global}
use Rattle.std.specs.Ordering.{nat_cmp}
use Rattle.std.specs.Cmp.Lexicographic.{slice_cmp, pointwise, texts_ties, nat_list_cmp_total}
use Rattle.std.specs.FinMap.{find, get, get-from_entries}
use Rattle.std.proofs.lemmas.List.{at_drop_more}
use Rattle.io_gate.specs.FileLists.{file_entry, named_files}

-- the first file of the name in a list
abbrev pub first_file : List ℕ → List (String Global × Vec ℕ) → Option (List ℕ)
first_file name files = find (slice_cmp nat_cmp) name (map file_entry files)

pub first_file_named : (name : List ℕ) (files : List (String Global × Vec ℕ)) → get (named_files files) name ≡ first_file name files
first_file_named name files = get-from_entries nat_list_cmp_total (map file_entry files) name

pub first_file_here : (name : List ℕ) (file : String Global × Vec ℕ) (files : List (String Global × Vec ℕ)) → first_file name (file ∷ files) ≡ cond (pointwise nat_eq name (string_bytes file.0)) (Some file.1.items) (first_file name files)
first_file_here name file files = ap (λ b. cond b (Some file.1.items) (first_file name files)) (sym (texts_ties name (string_bytes file.0)))

first_file_at : (name : List ℕ) (files : List (String Global × Vec ℕ)) (i : ℕ) (file : String Global × Vec ℕ) → i < length files → file ≡ get_or files i file → first_file name (drop i files) ≡ cond (pointwise nat_eq name (string_bytes file.0)) (Some file.1.items) (first_file name (drop (i + 1) files))
first_file_at name files i file h e =
    at_drop_more (first_file name) files i file h
    ∙ ap (λ (f : String Global × Vec ℕ). first_file name (f ∷ drop (i + 1) files)) (sym e)
    ∙ first_file_here name file (drop (i + 1) files)

pub first_file_found : (name : List ℕ) (files : List (String Global × Vec ℕ)) (i : ℕ) (file : String Global × Vec ℕ) → i < length files → file ≡ get_or files i file → pointwise nat_eq name (string_bytes file.0) ≡ true → first_file name (drop i files) ≡ Some file.1.items
first_file_found name files i file h e t =
    first_file_at name files i file h e
    ∙ ap (λ (b : Bool). cond b (Some file.1.items) (first_file name (drop (i + 1) files))) t

pub first_file_passed : (name : List ℕ) (files : List (String Global × Vec ℕ)) (i : ℕ) (file : String Global × Vec ℕ) → i < length files → file ≡ get_or files i file → pointwise nat_eq name (string_bytes file.0) ≡ false → first_file name (drop i files) ≡ first_file name (drop (i + 1) files)
first_file_passed name files i file h e t =
    first_file_at name files i file h e
    ∙ ap (λ (b : Bool). cond b (Some file.1.items) (first_file name (drop (i + 1) files))) t
