-- Where the forms that lines make are numbered in the order of the lines, a word's form has the number of the line that
-- holds the word.
use Rattle.std.proofs.Common.{◌≡◌, ℕ, zero, suc, ◌+◌, Some, List, [], ◌∷◌, ap, sym, ◌∙◌, arith}
use Rattle.emu_bits.specs.Rows.{Line, Row, form_of, row_in, values}
use Rattle.emu_bits.specs.RowLaws.{line_at}
use Rattle.emu_bits.proofs.Encoding.{answer_of}

-- the numbers of the forms that lines make of a row's number and of values
abbrev pub numbers_of : {F : Type 0} → (F → ℕ) → List (Line F) → ℕ → List ℕ → List ℕ
numbers_of f [] n vs = []
numbers_of f (l ∷ ls) n vs = f (l.form n vs) ∷ numbers_of f ls n vs

-- so many numbers from one on
abbrev pub counted : ℕ → ℕ → List ℕ
counted k zero = []
counted k (suc c) = k ∷ counted (suc k) c

same_head : (x y : ℕ) (xs ys : List ℕ) → x ∷ xs ≡ y ∷ ys → x ≡ y
same_head x y xs ys h = cc

same_tail : (x y : ℕ) (xs ys : List ℕ) → x ∷ xs ≡ y ∷ ys → xs ≡ ys
same_tail x y xs ys h = cc

some_line : {F : Type 0} (l m : Line F) → Some l ≡ Some m → l ≡ m
some_line l m h = cc

number_at : {F : Type 0} (f : F → ℕ) (ls : List (Line F)) (k j c n : ℕ) (vs : List ℕ) (l : Line F) → numbers_of f ls n vs ≡ counted j c → line_at ls k ≡ Some l → f (l.form n vs) ≡ k + j
number_at f [] k j c n vs l h e = absurd (cc)
number_at f (m ∷ ms) k j zero n vs l h e = absurd (cc)
number_at {F} f (m ∷ ms) zero j (suc c) n vs l h e = ap (λ (x : Line F). f (x.form n vs)) (sym (some_line m l e)) ∙ same_head _ _ _ _ h ∙ omega arith
number_at f (m ∷ ms) (suc k) j (suc c) n vs l h e = let i : f (l.form n vs) ≡ k + suc j = number_at f ms k (suc j) c n vs l (same_tail _ _ _ _ h) e in omega (arith, i)

pub number_of_form : {F : Type 0} (f : F → ℕ) (ls : List (Line F)) (c : ℕ) → ((n : ℕ) (vs : List ℕ) → numbers_of f ls n vs ≡ counted 0 c)
    → (k : ℕ) (l : Line F) (w : ℕ) (r : Row F) → line_at ls k ≡ Some l → row_in l w ≡ Some r → f (form_of r) ≡ k
number_of_form f ls c ordered k l w r e h =
    let a = answer_of l w r h in
    let s : form_of r ≡ l.form r.number (values l.places w) = ap form_of a.is in
    let i : f (l.form r.number (values l.places w)) ≡ k + 0 = number_at f ls k 0 c r.number (values l.places w) l (ordered r.number (values l.places w)) e in
    ap f s ∙ i ∙ omega arith
