-- The texts of accesses, one more at a time.
use Rattle.std.proofs.Common.{◌≡◌, ℕ, zero, suc, ◌+◌, ◌<◌, List, [], ◌∷◌, ◌++◌, length, get_or, take, Option, sym, ap, ◌∙◌, append_assoc, append-nil, arith}
use Rattle.std.specs.Prelude.{flat_map}
use Rattle.emu_report.proofs.Puts.{put_both, put_equal}
use Rattle.emu_model.specs.declared.access.Access.{Access}
use Rattle.trace_lines.specs.Lines.{HasGained}

flat_taken : (f : Access → List ℕ) (xs : List Access) (i : ℕ) (d : Access) → i < length xs → flat_map f (take (suc i) xs) ≡ flat_map f (take i xs) ++ f (get_or xs i d)
flat_taken f [] i d h = absurd (omega (arith, h))
flat_taken f (x ∷ xs) zero d h = append-nil (f x)
flat_taken f (x ∷ xs) (suc i) d h =
    ap (λ (ys : List ℕ). f x ++ ys) (flat_taken f xs i d (omega (arith, h))) ∙ sym (append_assoc (f x) (flat_map f (take i xs)) (f (get_or xs i d)))

pub accesses_put : (old mid new : Option (List ℕ)) (f : Access → List ℕ) (xs : List Access) (i : ℕ) (d : Access) → i < length xs
    → HasGained old mid (flat_map f (take i xs)) → HasGained mid new (f (get_or xs i d)) → HasGained old new (flat_map f (take (i + 1) xs))
accesses_put old mid new f xs i d h p q =
    let e : suc i ≡ i + 1 = omega arith in
    put_equal _ _ _ _ (sym (flat_taken f xs i d h) ∙ ap (λ (n : ℕ). flat_map f (take n xs)) e) (put_both old mid new (flat_map f (take i xs)) (f (get_or xs i d)) p q)
