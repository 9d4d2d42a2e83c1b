-- What was put one after the other.
use Rattle.std.proofs.Common.{◌≡◌, ℕ, List, ◌++◌, Option, Some, None, IfSome, Ok, ap, subst, ◌∙◌, append_assoc}
use Rattle.io_gate.specs.declared.streams.Failed.{Failed}
use Rattle.io_gate.specs.Pieces.{PutsAll}

pub then_told : (old mid new : Option (List ℕ)) (bytes text more : List ℕ) → bytes ≡ text → PutsAll {T = Unit {0}} {E = Failed} old mid bytes (Ok tt) → IfSome mid (λ had. new ≡ Some (had ++ more))
    → IfSome old (λ had. new ≡ Some (had ++ (text ++ more)))
then_told None mid new bytes text more same first second = tt
then_told (Some had) mid new bytes text more same first second =
    let put : mid ≡ Some (had ++ text) = first ∙ ap (λ (xs : List ℕ). Some (had ++ xs)) same in
    let later : new ≡ Some ((had ++ text) ++ more) = subst (λ (m : Option (List ℕ)). IfSome m (λ h. new ≡ Some (h ++ more))) put second in
    later ∙ ap (λ (ys : List ℕ). Some ys) (append_assoc had text more)
