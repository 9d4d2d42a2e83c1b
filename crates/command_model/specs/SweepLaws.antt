-- Laws of a sweep: which lines stand before the first length at which a stream is too long.
use Rattle.std.proofs.Common.{◌≡◌, ◌<◌, ◌≤◌, ◌+◌, ◌*◌, ℕ, Bool, true, false, ◌&&◌, cond, List, [], ◌∷◌, ◌++◌, flat_map, drop, refl, sym, ap, ap₂, ◌∙◌, append-nil, append_assoc, take-append-drop, arith}
use Rattle.std.specs.List.{list_all, take_while}
use Rattle.std.proofs.lemmas.List.FromFn.{map-range_with_len_more, take-map-range_with_len}
use Rattle.std.proofs.lemmas.List.Folds.{list_all-append}
use Rattle.std.proofs.lemmas.List.Sums.{take_while-cons}
use Rattle.std.proofs.lemmas.Grind.{flat_map-append}
use Rattle.emu_model.specs.State.{IsPrefix}
use Rattle.command_model.specs.Sweep.{Sweep, first_lengths, fits, fits_at, lengths, line_at, sweep_text, text_before}

-- ---- the elements from the front on that pass

both : (a b : Bool) → (a && b) ≡ true → (a ≡ true) × (b ≡ true)
both true b e = (refl, e)
both false b e = cc

never_both : (a : Bool) → (a && false) ≡ false
never_both true = refl
never_both false = refl

module _ (p : ℕ → Bool) where
  -- all of the first ones pass, so they stand in front
  passing_first : (xs ys : List ℕ) → list_all p xs ≡ true → take_while p (xs ++ ys) ≡ xs ++ take_while p ys
  passing_first [] ys all = refl
  passing_first (x ∷ xs) ys all =
      let here = both (p x) (list_all p xs) all in
      take_while-cons p x (xs ++ ys) ∙ ap (λ b. cond b (x ∷ take_while p (xs ++ ys)) []) here.0 ∙ ap (λ zs. x ∷ zs) (passing_first xs ys here.1)

  -- and where the next doesn't, they are all
  passing_until : (xs : List ℕ) (y : ℕ) (ys : List ℕ) → list_all p xs ≡ true → p y ≡ false → take_while p (xs ++ y ∷ ys) ≡ xs
  passing_until xs y ys all fails =
      passing_first xs (y ∷ ys) all ∙ ap (λ zs. xs ++ zs) (take_while-cons p y ys ∙ ap (λ b. cond b (y ∷ take_while p ys) []) fails) ∙ append-nil xs

-- ---- the first lengths

pub lengths_more : (n : ℕ) → first_lengths (n + 1) ≡ first_lengths n ++ 128 * (n + 1) ∷ []
lengths_more n = map-range_with_len_more (λ k. 128 * k) 1 n (n + 1) (omega arith)

lengths_split : (n : ℕ) → n ≤ 16 → lengths ≡ first_lengths n ++ drop n lengths
lengths_split n le = sym (take-append-drop n lengths) ∙ ap (λ xs. xs ++ drop n lengths) (take-map-range_with_len (λ k. 128 * k) 1 16 n le)

-- a length, and those behind it
lengths_at : (n : ℕ) → n < 16 → lengths ≡ first_lengths n ++ 128 * (n + 1) ∷ drop (n + 1) lengths
lengths_at n lt = lengths_split (n + 1) (omega arith) ∙ ap (λ xs. xs ++ drop (n + 1) lengths) (lengths_more n) ∙ append_assoc (first_lengths n) (128 * (n + 1) ∷ []) (drop (n + 1) lengths)

-- ---- the lines of the first lengths, so many of them

abbrev pub first_lines : Sweep → ℕ → List ℕ
first_lines s n = flat_map (line_at s) (first_lengths n)

-- the output and the errors fit at each of them
abbrev pub first_fit : Sweep → ℕ → Bool
first_fit s n = list_all (fits_at s) (first_lengths n)

pub lines_more : (s : Sweep) (n : ℕ) → first_lines s (n + 1) ≡ first_lines s n ++ line_at s (128 * (n + 1))
lines_more s n = ap (λ xs. flat_map (line_at s) xs) (lengths_more n) ∙ flat_map-append (line_at s) (first_lengths n) (128 * (n + 1) ∷ []) ∙ ap (λ xs. first_lines s n ++ xs) (append-nil (line_at s (128 * (n + 1))))

pub fit_more : (s : Sweep) (n : ℕ) → first_fit s n ≡ true → fits_at s (128 * (n + 1)) ≡ true → first_fit s (n + 1) ≡ true
fit_more s n all fits = ap (λ xs. list_all (fits_at s) xs) (lengths_more n) ∙ list_all-append (fits_at s) (first_lengths n) (128 * (n + 1) ∷ []) ∙ ap₂ (λ a b. a && (b && true)) all fits

-- they are the first of the text
pub lines_first : (s : Sweep) (n : ℕ) → n ≤ 16 → first_fit s n ≡ true → IsPrefix (first_lines s n) (text_before s)
lines_first s n le all = (
  flat_map (line_at s) (take_while (fits_at s) (drop n lengths)),
  ap (λ xs. flat_map (line_at s) (take_while (fits_at s) xs)) (lengths_split n le)
      ∙ ap (λ xs. flat_map (line_at s) xs) (passing_first (fits_at s) (first_lengths n) (drop n lengths) all)
      ∙ flat_map-append (line_at s) (first_lengths n) (take_while (fits_at s) (drop n lengths)),
)

-- they are all of it where a stream is too long at the next length
pub lines_until : (s : Sweep) (n : ℕ) → n < 16 → first_fit s n ≡ true → fits_at s (128 * (n + 1)) ≡ false → text_before s ≡ first_lines s n
lines_until s n lt all fails =
    ap (λ xs. flat_map (line_at s) (take_while (fits_at s) xs)) (lengths_at n lt)
    ∙ ap (λ xs. flat_map (line_at s) xs) (passing_until (fits_at s) (first_lengths n) (128 * (n + 1)) (drop (n + 1) lengths) all fails)

pub unfit_at : (s : Sweep) (n : ℕ) → n < 16 → fits_at s (128 * (n + 1)) ≡ false → fits s ≡ false
unfit_at s n lt fails =
    ap (λ xs. list_all (fits_at s) xs) (lengths_at n lt)
    ∙ list_all-append (fits_at s) (first_lengths n) (128 * (n + 1) ∷ drop (n + 1) lengths)
    ∙ ap (λ b. first_fit s n && (b && list_all (fits_at s) (drop (n + 1) lengths))) fails
    ∙ never_both (first_fit s n)

-- where the streams fit at each length, the text is whole
pub lines_whole : (s : Sweep) → fits s ≡ true → text_before s ≡ sweep_text s
lines_whole s all =
    ap (λ xs. flat_map (line_at s) (take_while (fits_at s) xs)) (sym (append-nil lengths))
    ∙ ap (λ xs. flat_map (line_at s) xs) (passing_first (fits_at s) lengths [] all ∙ append-nil lengths)
