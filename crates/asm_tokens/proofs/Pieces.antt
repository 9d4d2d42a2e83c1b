-- The first token of a text, found by its length.
use Rattle.std.proofs.Common.{◌≡◌, ℕ, zero, suc, ◌+◌, ◌-◌, ◌<◌, ◌≤◌, ◌==◌, ◌∙◌, Bool, true, false, List, [], ◌∷◌, drop, take, drop-cons, get_or, length, length-drop, slice_range, refl, sym, ap, arith, add-one, inl, inr}
use Rattle.std.proofs.lemmas.Bool.{cases_Bool, cond-true, cond-false, cond_both, and_from, and_left}
use Rattle.std.proofs.lemmas.Bool.Decides.{nat_tests}
use Rattle.std.proofs.lemmas.List.{drop-drop, get_or-drop}
use Rattle.std.proofs.lemmas.List.Sums.{prefix_len_stops}
use Rattle.std.specs.List.{list_all, prefix_len}
use Rattle.asm_tokens.specs.Tokens.{is_word_byte, is_blank, begins_comment, begins_with, piece_length, tokens, quote, slash}
use Rattle.asm_tokens.specs.Places.{IsToken}
use Rattle.asm_tokens.proofs.Split.{head_token}

at_byte : (xs : List ℕ) (i : ℕ) → i < length xs → drop i xs ≡ get_or xs i 0 ∷ drop (i + 1) xs
at_byte xs i h = rw (add-one, drop-cons xs i 0)

first_byte : (xs : List ℕ) (i : ℕ) → get_or (drop i xs) 0 0 ≡ get_or xs i 0
first_byte xs i = get_or-drop i xs 0 0 ∙ ap (λ (n : ℕ). get_or xs n 0) (omega arith)

-- ---- the tokens of what is left

blank_is_no_slash : (c : ℕ) → is_blank c ≡ true → (c == slash) ≡ false
blank_is_no_slash c h = grind (arith, nat_tests)

over_blank : (c : ℕ) (cs : List ℕ) → is_blank c ≡ true → tokens (c ∷ cs) ≡ tokens cs
over_blank c cs h =
    cond-false (begins_comment (c ∷ cs)) _ _ (and_left (c == slash) (begins_with slash cs) (blank_is_no_slash c h))
    ∙ cond-true (is_blank c) _ _ h

pub past_blanks : (cs : List ℕ) → tokens cs ≡ tokens (drop (prefix_len is_blank cs) cs)
past_blanks [] = refl
past_blanks (c ∷ cs) =
    let n : ℕ = prefix_len is_blank cs in
    let e : 1 + n ≡ suc n = omega arith in
    elim (cases_Bool (is_blank c)) [
      | inl h ↦ over_blank c cs h ∙ past_blanks cs ∙ ap (λ (m : ℕ). tokens (drop m (c ∷ cs))) (sym (cond-true (is_blank c) (1 + n) 0 h ∙ e))
      | inr h ↦ ap (λ (m : ℕ). tokens (drop m (c ∷ cs))) (sym (cond-false (is_blank c) (1 + n) 0 h))
    ]

pub past_blanks_at : (xs : List ℕ) (i j : ℕ) → j ≡ i + prefix_len is_blank (drop i xs) → tokens (drop i xs) ≡ tokens (drop j xs)
past_blanks_at xs i j e = past_blanks (drop i xs) ∙ ap tokens (drop-drop (prefix_len is_blank (drop i xs)) i xs ∙ ap (λ (m : ℕ). drop m xs) (sym e))

no_bytes : (xs : List ℕ) (i : ℕ) → length xs ≤ i → tokens (drop i xs) ≡ []
no_bytes [] zero h = refl
no_bytes [] (suc i) h = refl
no_bytes (x ∷ xs) zero h = absurd (omega arith)
no_bytes (x ∷ xs) (suc i) h = no_bytes xs i (omega arith)

a_comment : (cs : List ℕ) → begins_comment cs ≡ true → tokens cs ≡ []
a_comment [] h = refl
a_comment (c ∷ cs) h = cond-true (begins_comment (c ∷ cs)) _ _ h

pub none_left : (xs : List ℕ) (i j : ℕ) → j ≡ i + prefix_len is_blank (drop i xs) → j ≡ length xs → tokens (drop i xs) ≡ []
none_left xs i j e h = past_blanks_at xs i j e ∙ no_bytes xs j (omega arith)

pub comment_left : (xs : List ℕ) (i j : ℕ) → j ≡ i + prefix_len is_blank (drop i xs) → begins_comment (drop j xs) ≡ true → tokens (drop i xs) ≡ []
comment_left xs i j e h = past_blanks_at xs i j e ∙ a_comment (drop j xs) h

-- ---- the first token

some_piece : (c : ℕ) (cs : List ℕ) → 0 < piece_length (c ∷ cs)
some_piece c cs =
    cond_both (is_word_byte c) _ _ (λ n. 0 < n) (λ e. omega arith)
    (λ e. cond_both (c == quote) _ _ (λ n. 0 < n) (λ e. omega arith) (λ e. cond_both (is_blank c) _ _ (λ n. 0 < n) (λ e. omega arith) (λ e. omega arith)))

first_piece : (cs : List ℕ) → 0 < length cs → begins_comment cs ≡ false → is_blank (get_or cs 0 0) ≡ false
    → (tokens cs ≡ take (piece_length cs) cs ∷ tokens (drop (piece_length cs) cs)) × (0 < piece_length cs)
first_piece [] h k l = absurd (omega arith)
first_piece (c ∷ cs) h k l =
    let some : 0 < piece_length (c ∷ cs) = some_piece c cs in
    let n : ℕ = piece_length (c ∷ cs) - 1 in
    let e : piece_length (c ∷ cs) ≡ suc n = omega arith in
    (head_token c cs n k l e ∙ ap (λ (m : ℕ). take m (c ∷ cs) ∷ tokens (drop m (c ∷ cs))) (sym e), some)

all_passed : (p : ℕ → Bool) (cs : List ℕ) → list_all p (take (prefix_len p cs) cs) ≡ true
all_passed p [] = refl
all_passed p (c ∷ cs) =
    let n : ℕ = prefix_len p cs in
    let e : 1 + n ≡ suc n = omega arith in
    elim (cases_Bool (p c)) [
      | inl h ↦ ap (λ (m : ℕ). list_all p (take m (c ∷ cs))) (cond-true (p c) (1 + n) 0 h ∙ e) ∙ and_from (p c) _ h (all_passed p cs)
      | inr h ↦ ap (λ (m : ℕ). list_all p (take m (c ∷ cs))) (cond-false (p c) (1 + n) 0 h)
    ]

pub token_at : (xs : List ℕ) (start first past : ℕ) → start ≤ length xs → first ≡ start + prefix_len is_blank (drop start xs) → first < length xs
    → begins_comment (drop first xs) ≡ false → past ≡ first + piece_length (drop first xs) → past ≤ length xs → IsToken xs start first past
token_at xs start first past h e k l p q =
    let n : ℕ = prefix_len is_blank (drop start xs) in
    let m : ℕ = piece_length (drop first xs) in
    let long : length (drop start xs) ≡ length xs - start = length-drop start xs in
    let stops : is_blank (get_or (drop start xs) n 0) ≡ false = prefix_len_stops is_blank (drop start xs) 0 (omega arith) in
    let plain : is_blank (get_or (drop first xs) 0 0) ≡ false =
    ap is_blank (first_byte xs first ∙ ap (λ (i : ℕ). get_or xs i 0) e ∙ sym (get_or-drop start xs n 0)) ∙ stops in
    let rest : length (drop first xs) ≡ length xs - first = length-drop first xs in
    let piece = first_piece (drop first xs) (omega arith) l plain in
    let some : 0 < m = piece.1 in
    let gap : first - start ≡ n = omega arith in
    let size : past - first ≡ m = omega arith in
    record {
      after = omega arith;
      blanks = ap (λ (i : ℕ). list_all is_blank (take i (drop start xs))) gap ∙ all_passed is_blank (drop start xs);
      some = omega arith;
      within = q;
      is = past_blanks_at xs start first e ∙ piece.0
          ∙ ap (λ (i : ℕ). take i (drop first xs) ∷ tokens (drop m (drop first xs))) (sym size)
          ∙ ap (λ (cs : List ℕ). slice_range xs first past ∷ tokens cs) (drop-drop m first xs ∙ ap (λ (i : ℕ). drop i xs) (sym p));
    }
