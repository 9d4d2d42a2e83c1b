-- Texts that are put one after the other.
use Rattle.std.proofs.Common.{◌≡◌, ℕ, ◌+◌, min, List, ◌++◌, length, take, Option, Some, None, Result, Ok, Err, IfSome, sym, ap, subst, ◌∙◌, append_assoc, arith}
use Rattle.std.specs.Result.{IsErr}
use Rattle.std.proofs.lemmas.List.{take_min, take-append-le}
use Rattle.std.proofs.Math.Seq.{take-append-add}
use Rattle.io_gate.specs.Pieces.{PutsAll}

-- the whole text was put
abbrev pub IsPut : Option (List ℕ) → Option (List ℕ) → List ℕ → Type 0
IsPut old new xs = IfSome old (λ held. new ≡ Some (held ++ xs))

-- some of the text's first bytes were put
abbrev pub IsCut : Option (List ℕ) → Option (List ℕ) → List ℕ → Type 0
IsCut old new xs = IfSome old (λ held. (n : ℕ) × (new ≡ Some (held ++ take n xs)))

-- an equal text
pub put_equal : (old new : Option (List ℕ)) (xs ys : List ℕ) → xs ≡ ys → IsPut old new xs → IsPut old new ys
put_equal old new xs ys e h = subst (λ (zs : List ℕ). IsPut old new zs) e h

pub cut_equal : (old new : Option (List ℕ)) (xs ys : List ℕ) → xs ≡ ys → IsCut old new xs → IsCut old new ys
cut_equal old new xs ys e h = subst (λ (zs : List ℕ). IsCut old new zs) e h

pub puts_equal : {T E : Type 0} (old new : Option (List ℕ)) (xs ys : List ℕ) (r : Result T E) → xs ≡ ys → PutsAll old new xs r → PutsAll old new ys r
puts_equal old new xs ys r e h = subst (λ (zs : List ℕ). PutsAll old new zs r) e h

-- two texts, one after the other
pub put_both : (old mid new : Option (List ℕ)) (xs ys : List ℕ) → IsPut old mid xs → IsPut mid new ys → IsPut old new (xs ++ ys)
put_both None mid new xs ys p q = tt
put_both (Some held) mid new xs ys p q =
    let h : new ≡ Some ((held ++ xs) ++ ys) = subst (λ (m : Option (List ℕ)). IsPut m new ys) p q in
    h ∙ ap (λ (zs : List ℕ). Some zs) (append_assoc held xs ys)

-- a text, and another that is cut
pub cut_second : (old mid new : Option (List ℕ)) (xs ys : List ℕ) → IsPut old mid xs → IsCut mid new ys → IsCut old new (xs ++ ys)
cut_second None mid new xs ys p q = tt
cut_second (Some held) mid new xs ys p q =
    let h : IsCut (Some (held ++ xs)) new ys = subst (λ (m : Option (List ℕ)). IsCut m new ys) p q in
    (length xs + h.0, h.1 ∙ ap (λ (zs : List ℕ). Some zs) (append_assoc held xs (take h.0 ys) ∙ ap (λ (zs : List ℕ). held ++ zs) (sym (take-append-add xs ys h.0))))

-- a text that is cut, and none after it
pub cut_first : (old new : Option (List ℕ)) (xs ys : List ℕ) → IsCut old new xs → IsCut old new (xs ++ ys)
cut_first None new xs ys q = tt
cut_first (Some held) new xs ys q =
    let m : ℕ = min q.0 (length xs) in
    (m, q.1 ∙ ap (λ (zs : List ℕ). Some (held ++ zs)) (sym (take-append-le m xs ys (omega arith) ∙ take_min q.0 xs)))

-- a text, and another of which the answer tells
pub puts_second : {T E : Type 0} (old mid new : Option (List ℕ)) (xs ys : List ℕ) (r : Result T E) → IsPut old mid xs → PutsAll mid new ys r → PutsAll old new (xs ++ ys) r
puts_second None mid new xs ys r p q = tt
puts_second (Some held) None new xs ys r p q = cc
puts_second (Some held) (Some more) new xs ys (Ok v) p q = put_both (Some held) (Some more) new xs ys p q
puts_second (Some held) (Some more) new xs ys (Err e) p q = cut_second (Some held) (Some more) new xs ys p q

-- a text that is cut, where the answer is an error
pub puts_cut : {T E : Type 0} (old new : Option (List ℕ)) (xs : List ℕ) (r : Result T E) → IsErr r → IsCut old new xs → PutsAll old new xs r
puts_cut None new xs r e q = tt
puts_cut (Some held) new xs (Ok v) e q = cc
puts_cut (Some held) new xs (Err f) e q = q
