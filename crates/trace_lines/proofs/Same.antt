-- Registers that are compared byte by byte or bit by bit, the last first.
use Rattle.std.proofs.Common.{◌≡◌, ℕ, suc, Bool, true, false, ◌&&◌, List, get_or, nat_eq, sym, ap, ap₂, ◌∙◌}
use Rattle.emu_bits.specs.Fields.{bit}
use Rattle.trace_lines.specs.Lines.{same_bits, same_bytes}

pub bytes_none : (n : ℕ) (xs ys : List ℕ) → n ≡ 0 → true ≡ same_bytes n xs ys
unfolding same_bytes
bytes_none n xs ys is = ap (λ (k : ℕ). same_bytes k xs ys) (sym is)

pub bytes_same : (n m a b : ℕ) (xs ys : List ℕ) (r : Bool) → n ≡ suc m → a ≡ get_or xs m 0 → b ≡ get_or ys m 0 → nat_eq a b ≡ true → r ≡ same_bytes m xs ys → r ≡ same_bytes n xs ys
unfolding same_bytes
bytes_same n m a b xs ys r is p q h rest =
    let e : nat_eq (get_or xs m 0) (get_or ys m 0) ≡ true = ap₂ (λ (i j : ℕ). nat_eq i j) (sym p) (sym q) ∙ h in
    rest ∙ ap (λ (t : Bool). t && same_bytes m xs ys) (sym e) ∙ ap (λ (k : ℕ). same_bytes k xs ys) (sym is)

pub bytes_differ : (n m a b : ℕ) (xs ys : List ℕ) → n ≡ suc m → a ≡ get_or xs m 0 → b ≡ get_or ys m 0 → nat_eq a b ≡ false → nat_eq a b ≡ same_bytes n xs ys
unfolding same_bytes
bytes_differ n m a b xs ys is p q h =
    let e : nat_eq (get_or xs m 0) (get_or ys m 0) ≡ false = ap₂ (λ (i j : ℕ). nat_eq i j) (sym p) (sym q) ∙ h in
    h ∙ ap (λ (t : Bool). t && same_bytes m xs ys) (sym e) ∙ ap (λ (k : ℕ). same_bytes k xs ys) (sym is)

pub bits_none : (n : ℕ) (xs ys : List Bool) → n ≡ 0 → true ≡ same_bits n xs ys
unfolding same_bits
bits_none n xs ys is = ap (λ (k : ℕ). same_bits k xs ys) (sym is)

pub bits_same : (n m a b : ℕ) (xs ys : List Bool) (r : Bool) → n ≡ suc m → a ≡ bit (get_or xs m false) → b ≡ bit (get_or ys m false) → nat_eq a b ≡ true → r ≡ same_bits m xs ys → r ≡ same_bits n xs ys
unfolding same_bits
bits_same n m a b xs ys r is p q h rest =
    let e : nat_eq (bit (get_or xs m false)) (bit (get_or ys m false)) ≡ true = ap₂ (λ (i j : ℕ). nat_eq i j) (sym p) (sym q) ∙ h in
    rest ∙ ap (λ (t : Bool). t && same_bits m xs ys) (sym e) ∙ ap (λ (k : ℕ). same_bits k xs ys) (sym is)

pub bits_differ : (n m a b : ℕ) (xs ys : List Bool) → n ≡ suc m → a ≡ bit (get_or xs m false) → b ≡ bit (get_or ys m false) → nat_eq a b ≡ false → nat_eq a b ≡ same_bits n xs ys
unfolding same_bits
bits_differ n m a b xs ys is p q h =
    let e : nat_eq (bit (get_or xs m false)) (bit (get_or ys m false)) ≡ false = ap₂ (λ (i j : ℕ). nat_eq i j) (sym p) (sym q) ∙ h in
    h ∙ ap (λ (t : Bool). t && same_bits m xs ys) (sym e) ∙ ap (λ (k : ℕ). same_bits k xs ys) (sym is)
