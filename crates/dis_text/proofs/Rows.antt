-- What a table decodes a word to is a row of it.
use Rattle.std.proofs.Common.{◌≡◌, ℕ, suc, ◌<◌, ◌==◌, cond, Bool, true, false, Option, Some, None, List, [], ◌∷◌, length, bit_and, refl, sym, subst, ◌⊎◌, arith, inl, inr}
use Rattle.emu_bits.specs.Rows.{Place, outside, values, Line, Row, next, number_of, row_in, or_else, decode}
use Rattle.emu_bits.specs.RowLaws.{Fit, IsRow}
use Rattle.emu_bits.proofs.Encoding.{answer_of}
use Rattle.text_model.proofs.Building.{small_at}

first_or_later : (b : Bool) (o : Option ℕ) (n k : ℕ) → cond b (Some 0) (next o) ≡ Some k → ((j : ℕ) → o ≡ Some j → j < n) → k < suc n
first_or_later true o n k h f = let e : 0 ≡ k = cc in omega (arith, e)
first_or_later false None n k h f = absurd (cc)
first_or_later false (Some j) n k h f =
    let e : suc j ≡ k = cc in
    let l : j < n = f j refl in
    omega (arith, e, l)

is_among_them : (x : ℕ) (xs : List ℕ) (k : ℕ) → number_of x xs ≡ Some k → k < length xs
is_among_them x [] k h = absurd (cc)
is_among_them x (y ∷ ys) k h = first_or_later (x == y) (number_of x ys) (length ys) k h (λ j e. is_among_them x ys j e)

values_fit : (ps : List Place) (w : ℕ) → Fit ps (values ps w)
values_fit [] w = tt
values_fit (p ∷ ps) w = (small_at p w, values_fit ps w)

row_held : {F : Type 0} (l : Line F) (w : ℕ) (r : Row F) → row_in l w ≡ Some r → IsRow r
row_held {F} l w r h =
    let a = answer_of l w r h in
    subst (λ (s : Row F). IsRow s) (sym a.is)
    (record { numbered = is_among_them (bit_and w (outside l.places)) l.words r.number a.found; fits = values_fit l.places w; met = a.held })

one_of : {F : Type 0} (x y : Option (Row F)) (r : Row F) → or_else x y ≡ Some r → (x ≡ Some r) ⊎ (y ≡ Some r)
one_of None y r e = inr e
one_of (Some q) y r e = inl e

pub decoded_row : {F : Type 0} (ls : List (Line F)) (w : ℕ) (r : Row F) → decode ls w ≡ Some r → IsRow r
decoded_row [] w r h = absurd (cc)
decoded_row (l ∷ ls) w r h = elim (one_of (row_in l w) (decode ls w) r h) [
  | inl e ↦ row_held l w r e
  | inr e ↦ decoded_row ls w r e
]
