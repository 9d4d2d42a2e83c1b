-- Texts that are put where they are told, one after the other.
use Rattle.std.proofs.Common.{◌≡◌, ℕ, Bool, true, false, if◌then◌else◌, List, [], ◌++◌, Option, Some, None, sym, ap, subst, ◌∙◌, append-nil}
use Rattle.emu_run.specs.Registers.{lines_of}
use Rattle.trace_lines.specs.Lines.{HasGained}

-- what is told was put
pub put_if_told : (old new : Option (List ℕ)) (text : List ℕ) (told : Bool) → told ≡ true → HasGained old new text → HasGained old new (if told then text else [])
put_if_told old new text told is h = subst (λ (b : Bool). HasGained old new (if b then text else [])) (sym is) h

-- all of so many registers, by how many were put
pub put_all_told : (old new : Option (List ℕ)) (f : ℕ → List ℕ) (told : Bool) (k n : ℕ) → k ≡ n → told ≡ true → HasGained old new (lines_of k f) → HasGained old new (if told then lines_of n f else [])
put_all_told old new f told k n all is h = put_if_told old new (lines_of n f) told is (subst (λ (j : ℕ). HasGained old new (lines_of j f)) all h)

-- what isn't told was left out
pub left_out : (old : Option (List ℕ)) (text : List ℕ) (told : Bool) → told ≡ false → HasGained old old (if told then text else [])
left_out None text told is = tt
left_out (Some had) text told is = ap (λ (xs : List ℕ). Some xs) (sym (append-nil had)) ∙ ap (λ (b : Bool). Some (had ++ (if b then text else []))) (sym is)

pub put_none : (old : Option (List ℕ)) → HasGained old old []
put_none None = tt
put_none (Some had) = ap (λ (xs : List ℕ). Some xs) (sym (append-nil had))

pub told_text : (told : Bool) (text : List ℕ) → told ≡ true → text ≡ (if told then text else [])
told_text told text is = ap (λ (b : Bool). if b then text else []) (sym is)
