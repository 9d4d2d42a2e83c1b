-- Names looked up in parts of an index.
use Rattle.std.proofs.Common.{◌≡◌, ℕ, if◌then◌else◌, Bool, true, List, [], ◌∷◌, ◌++◌, length, nat_lt, refl, sym, ap, ◌∙◌, inl, inr}
use Rattle.std.proofs.lemmas.Bool.{cases_Bool, and_parts, and_from, false≢true}
use Rattle.std.specs.Str.{bytes_eq}
use Rattle.text_code.specs.declared.patterns.Spot.{Spot}
use Rattle.text_code.specs.Names.{Named, spots_named}
use Rattle.text_code.specs.Parts.{are_found, or_spots}

some_spots : (ss ts : List Spot) → nat_lt 0 (length ss) ≡ true → or_spots ss ts ≡ ss
some_spots [] ts h = absurd (false≢true h)
some_spots (s ∷ ss) ts h = refl

pub spots_of_both : (ns ms : List Named) (s : List ℕ) → are_found ns ≡ true → spots_named (ns ++ ms) s ≡ or_spots (spots_named ns s) (spots_named ms s)
spots_of_both [] ms s h = refl
spots_of_both (n ∷ ns) ms s h =
    let h2 = and_parts (nat_lt 0 (length n.spots)) (are_found ns) h in
    let f = λ (b : Bool). if b then n.spots else spots_named (ns ++ ms) s in
    let g = λ (b : Bool). or_spots (if b then n.spots else spots_named ns s) (spots_named ms s) in
    elim (cases_Bool (bytes_eq s n.name)) [
      | inl e ↦ ap f e ∙ sym (some_spots n.spots (spots_named ms s) h2.0) ∙ ap g (sym e)
      | inr e ↦ ap f e ∙ spots_of_both ns ms s h2.1 ∙ ap g (sym e)
    ]

found_first : (ns ms : List Named) → are_found (ns ++ ms) ≡ true → are_found ns ≡ true
found_first [] ms h = refl
found_first (n ∷ ns) ms h =
    let h2 = and_parts (nat_lt 0 (length n.spots)) (are_found (ns ++ ms)) h in
    and_from _ _ h2.0 (found_first ns ms h2.1)

found_later : (ns ms : List Named) → are_found (ns ++ ms) ≡ true → are_found ms ≡ true
found_later [] ms h = h
found_later (n ∷ ns) ms h = found_later ns ms (and_parts (nat_lt 0 (length n.spots)) (are_found (ns ++ ms)) h).1

pub spots_of_three : (ns ms os : List Named) (s : List ℕ) → are_found (ns ++ (ms ++ os)) ≡ true
    → spots_named (ns ++ (ms ++ os)) s ≡ or_spots (spots_named ns s) (or_spots (spots_named ms s) (spots_named os s))
spots_of_three ns ms os s h =
    spots_of_both ns (ms ++ os) s (found_first ns (ms ++ os) h)
    ∙ ap (or_spots (spots_named ns s)) (spots_of_both ms os s (found_first ms os (found_later ns (ms ++ os) h)))
