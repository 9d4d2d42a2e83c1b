-- Pieces that are put one after another: a sink gains them joined, or by a failure some of the first bytes of all.
use Rattle.std.proofs.Common.{◌≡◌, ℕ, ◌+◌, List, [], ◌++◌, length, take, Option, Some, None, Result, Ok, Err, IfSome, sym, ap, subst, ◌∙◌, append_assoc, append-nil, inl, inr, arith}
use Rattle.std.proofs.lemmas.List.{take_all, take-append-le}
use Rattle.std.proofs.lemmas.Bool.{cases_lt, false≢true}
use Rattle.std.proofs.Math.Seq.{take-append_seam, take-append-add}
use Rattle.std.specs.Result.{IsErr}
use Rattle.std.specs.Prelude.{MatchResult}

-- all of the piece is appended, or by a failure some of its first bytes
abbrev pub PutsAll : {T E : Type 0} → Option (List ℕ) → Option (List ℕ) → List ℕ → Result T E → Type 0
PutsAll old new piece result = IfSome old (λ held. MatchResult result (λ _. new ≡ Some (held ++ piece)) (λ _. (n : ℕ) × (new ≡ Some (held ++ take n piece))))

-- to put nothing is to leave the sink
pub puts_nothing : (T E : Type 0) (held : Option (List ℕ)) (x : T) → PutsAll {T = T} {E = E} held held [] (Ok x)
puts_nothing T E None x = tt
puts_nothing T E (Some held) x = ap (λ (h : List ℕ). Some h) (sym (append-nil held))

some_of_both : (xs ys : List ℕ) (n : ℕ) → (m : ℕ) × (take n xs ≡ take m (xs ++ ys))
some_of_both xs ys n =
    elim (cases_lt n (length xs)) [
      | inl h ↦ (n, sym (take-append-le n xs ys (omega arith)))
      | inr h ↦ (length xs, take_all n xs h ∙ sym (take-append_seam xs ys))
    ]

-- a failure in the first piece
pub puts_stopped : {U E : Type 0} (old new : Option (List ℕ)) (xs ys : List ℕ) (r : Result U E) → IsErr r → IfSome old (λ held. (n : ℕ) × (new ≡ Some (held ++ take n xs))) → PutsAll old new (xs ++ ys) r
puts_stopped None new xs ys r h p = tt
puts_stopped (Some held) new xs ys (Ok x) h p = absurd (false≢true h)
puts_stopped (Some held) new xs ys (Err e) h p =
    let m = some_of_both xs ys p.0 in
    (m.0, p.1 ∙ ap (λ (zs : List ℕ). Some (held ++ zs)) m.1)

joined : {T E : Type 0} (held : List ℕ) (new : Option (List ℕ)) (xs ys : List ℕ) (r : Result T E) → PutsAll (Some (held ++ xs)) new ys r → PutsAll (Some held) new (xs ++ ys) r
joined held new xs ys (Ok x) p = p ∙ ap (λ (zs : List ℕ). Some zs) (append_assoc held xs ys)
joined held new xs ys (Err e) p =
    (length xs + p.0, p.1 ∙ ap (λ (zs : List ℕ). Some zs) (append_assoc held xs (take p.0 ys) ∙ ap (λ (zs : List ℕ). held ++ zs) (sym (take-append-add xs ys p.0))))

-- all of the first piece, and then the second
pub puts_more : {U E : Type 0} (old mid new : Option (List ℕ)) (xs ys : List ℕ) (r : Result U E) → IfSome old (λ held. mid ≡ Some (held ++ xs)) → PutsAll mid new ys r → PutsAll old new (xs ++ ys) r
puts_more None mid new xs ys r p q = tt
puts_more (Some held) mid new xs ys r p q =
    joined held new xs ys r (subst (λ (m : Option (List ℕ)). PutsAll m new ys r) p q)
