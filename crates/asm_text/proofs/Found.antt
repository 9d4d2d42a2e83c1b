-- The line of a table where a word's instruction stands.
use Rattle.std.proofs.Common.{◌≡◌, ℕ, zero, suc, ◌+◌, Option, Some, None, List, [], ◌∷◌, ◌++◌, length, refl, ap, subst, ◌∙◌, ◌⊎◌, arith, inl, inr}
use Rattle.emu_bits.specs.Rows.{Line, Row, values, row_in, or_else, decode, form_of, formed, instruction}
use Rattle.emu_bits.specs.RowLaws.{line_at}
use Rattle.emu_bits.proofs.Encoding.{answer_of}

pub record IsFound {F : Type 0} (ls : List (Line F)) (w : ℕ) (f : F) : Type 0 where
  pub place : ℕ
  pub line : Line F
  pub row : Row F
  pub stands : line_at ls place ≡ Some line
  pub holds : row_in line w ≡ Some row
  pub form : f ≡ line.form row.number (values line.places w)

record IsDecoded {F : Type 0} (ls : List (Line F)) (w : ℕ) (r : Row F) : Type 0 where
  place : ℕ
  line : Line F
  stands : line_at ls place ≡ Some line
  holds : row_in line w ≡ Some r

one_of : {F : Type 0} (x y : Option (Row F)) (r : Row F) → or_else x y ≡ Some r → (x ≡ Some r) ⊎ (y ≡ Some r)
one_of None y r e = inr e
one_of (Some q) y r e = inl e

decoded : {F : Type 0} (ls : List (Line F)) (w : ℕ) (r : Row F) → decode ls w ≡ Some r → IsDecoded ls w r
decoded [] w r h = absurd (cc)
decoded (l ∷ ls) w r h = elim (one_of (row_in l w) (decode ls w) r h) [
  | inl e ↦ record { place = zero; line = l; stands = refl; holds = e }
  | inr e ↦ (let d = decoded ls w r e in record { place = suc d.place; line = d.line; stands = d.stands; holds = d.holds })
]

formed_as : {F : Type 0} (o : Option (Row F)) (f : F) → formed o ≡ Some f → (r : Row F) × (o ≡ Some r) × (f ≡ form_of r)
formed_as None f h = absurd (cc)
formed_as (Some r) f h = (r, refl, cc)

pub found : {F : Type 0} (ls : List (Line F)) (w : ℕ) (f : F) → instruction ls w ≡ Some f → IsFound ls w f
found {F} ls w f h =
    let o = formed_as (decode ls w) f h in
    let d = decoded ls w o.0 o.1 in
    let a = answer_of d.line w o.0 d.holds in
    record { place = d.place; line = d.line; row = o.0; stands = d.stands; holds = d.holds; form = o.2 ∙ ap (λ (r : Row F). form_of r) a.is }

-- ---- forms by the places of their lines

-- a line makes only forms of this number
abbrev pub Makes : {F : Type 0} → (F → ℕ) → ℕ → Line F → Type 0
Makes number k l = (n : ℕ) (vs : List ℕ) → number (l.form n vs) ≡ k

-- the same of each line and its place, from a place on
abbrev pub AreNumbered : {F : Type 0} → (F → ℕ) → ℕ → List (Line F) → Type 0
AreNumbered number k [] = Unit {0}
AreNumbered number k (l ∷ ls) = Makes number k l × AreNumbered number (suc k) ls

some_line : {F : Type 0} (l m : Line F) → Some l ≡ Some m → l ≡ m
some_line l m h = cc

numbered_at : {F : Type 0} (number : F → ℕ) (k : ℕ) (ls : List (Line F)) (j : ℕ) (l : Line F) → AreNumbered number k ls → line_at ls j ≡ Some l → Makes number (k + j) l
numbered_at number k [] j l h e = absurd (cc)
numbered_at {F} number k (m ∷ ms) zero l h e =
    let z : k ≡ k + 0 = omega arith in
    subst (λ (x : Line F). Makes number (k + 0) x) (some_line m l e) (λ n vs. h.0 n vs ∙ z)
numbered_at number k (m ∷ ms) (suc j) l h e =
    let s : suc k + j ≡ k + suc j = omega arith in
    λ n vs. numbered_at number (suc k) ms j l h.1 e n vs ∙ s

-- so the instruction's line stands at the number of its form
pub number_found : {F : Type 0} (number : F → ℕ) (ls : List (Line F)) (w : ℕ) (f : F) (d : IsFound ls w f) → AreNumbered number 0 ls → number f ≡ d.place
number_found number ls w f d h =
    let z : 0 + d.place ≡ d.place = omega arith in
    ap number d.form ∙ numbered_at number 0 ls d.place d.line h d.stands d.row.number (values d.line.places w) ∙ z

pub both_numbered : {F : Type 0} (number : F → ℕ) (k : ℕ) (ls ms : List (Line F)) → AreNumbered number k ls → AreNumbered number (k + length ls) ms → AreNumbered number k (ls ++ ms)
both_numbered number k [] ms h g = let z : k + 0 ≡ k = omega arith in subst (λ (j : ℕ). AreNumbered number j ms) z g
both_numbered number k (l ∷ ls) ms h g =
    let s : k + length (l ∷ ls) ≡ suc k + length ls = omega arith in
    (h.0, both_numbered number (suc k) ls ms h.1 (subst (λ (j : ℕ). AreNumbered number j ms) s g))
