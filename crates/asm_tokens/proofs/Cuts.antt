-- A text may be cut before and behind each token.
use Rattle.std.proofs.Common.{◌≡◌, ℕ, zero, suc, ◌+◌, ◌-◌, ◌<◌, ◌≤◌, ◌==◌, ◌∙◌, Bool, true, false, List, [], ◌∷◌, drop, drop-cons, get_or, length, length-drop, refl, sym, ap, subst, arith, add-one, inl, inr, ◌⊎◌}
use Rattle.std.proofs.lemmas.Bool.{cond_both, eqb-true}
use Rattle.std.proofs.lemmas.Bool.Decides.{nat_tests}
use Rattle.std.proofs.lemmas.List.{get_or-drop}
use Rattle.std.proofs.lemmas.List.Sums.{prefix_len-le-length, prefix_len_passes, prefix_len_stops}
use Rattle.std.proofs.lemmas.Str.{IsCharBoundary-after_ascii, IsCharBoundary-end}
use Rattle.std.specs.List.{prefix_len}
use Rattle.std.specs.Str.{IsCharBoundary, IsUtf8}
use Rattle.asm_tokens.specs.Tokens.{is_word_byte, is_blank, is_continuation, piece_length, string_length, quote, backslash}

-- a text may be cut behind bytes below 128
run_cut : (p : ℕ → Bool) → ((c : ℕ) → p c ≡ true → c < 128) → (xs : List ℕ) (i : ℕ) → IsUtf8 xs → IsCharBoundary xs i
    → IsCharBoundary xs (i + prefix_len p (drop i xs))
run_cut p low xs i u h = go (prefix_len p (drop i xs)) refl
  where
    go : (n : ℕ) → prefix_len p (drop i xs) ≡ n → IsCharBoundary xs (i + n)
    go zero e = let same : i ≡ i + 0 = omega arith in subst (IsCharBoundary xs) same h
    go (suc n) e =
        let all : prefix_len p (drop i xs) ≤ length (drop i xs) = prefix_len-le-length p (drop i xs) in
        let size : length (drop i xs) ≡ length xs - i = length-drop i xs in
        let below : n < prefix_len p (drop i xs) = omega arith in
        let c : get_or xs (i + n) 0 < 128 = low _ (ap p (sym (get_or-drop i xs n 0)) ∙ prefix_len_passes p (drop i xs) n 0 below) in
        let next : (i + n) + 1 ≡ i + suc n = omega arith in
        subst (IsCharBoundary xs) next (IsCharBoundary-after_ascii xs (i + n) u (omega arith) c)

word_low : (c : ℕ) → is_word_byte c ≡ true → c < 128
word_low c h = grind (arith, nat_tests)

blank_low : (c : ℕ) → is_blank c ≡ true → c < 128
blank_low c h = grind (arith, nat_tests)

pub first_cut : (xs : List ℕ) (i j : ℕ) → IsUtf8 xs → IsCharBoundary xs i → j ≡ i + prefix_len is_blank (drop i xs) → IsCharBoundary xs j
first_cut xs i j u h e = subst (IsCharBoundary xs) (sym e) (run_cut is_blank blank_low xs i u h)

-- a string ends with the text, or behind a quote
abbrev Ends : ℕ → List ℕ → Type 0
Ends n cs = (n ≡ length cs) ⊎ ((0 < n) × (get_or cs (n - 1) 0 ≡ quote))

one_before : (c : ℕ) (cs : List ℕ) (n : ℕ) → 0 < n → get_or (c ∷ cs) (1 + n - 1) 0 ≡ get_or cs (n - 1) 0
one_before c cs n h = let e : 1 + n - 1 ≡ suc (n - 1) = omega arith in ap (λ (k : ℕ). get_or (c ∷ cs) k 0) e

more_ends : (c : ℕ) (cs : List ℕ) (n : ℕ) → Ends n cs → Ends (1 + n) (c ∷ cs)
more_ends c cs n (inl e) = inl (omega arith)
more_ends c cs n (inr h) = inr (omega arith, one_before c cs n h.0 ∙ h.1)

string_ends : (e : Bool) (cs : List ℕ) → Ends (string_length e cs) cs
string_ends e [] = inl refl
string_ends true (c ∷ cs) = more_ends c cs _ (string_ends false cs)
string_ends false (c ∷ cs) =
    cond_both (c == quote) 1 (1 + string_length (c == backslash) cs) (λ n. Ends n (c ∷ cs)) (λ e. inr (omega arith, eqb-true c quote e))
    (λ e. more_ends c cs _ (string_ends (c == backslash) cs))

string_fits : (e : Bool) (cs : List ℕ) → string_length e cs ≤ length cs
string_fits e [] = omega arith
string_fits true (c ∷ cs) = omega (arith, string_fits false cs)
string_fits false (c ∷ cs) =
    cond_both (c == quote) 1 (1 + string_length (c == backslash) cs) (λ n. n ≤ suc (length cs)) (λ e. omega arith) (λ e. omega (arith, string_fits (c == backslash) cs))

string_cut : (xs : List ℕ) (i : ℕ) → IsUtf8 xs → i ≤ length xs → IsCharBoundary xs (i + string_length false (drop i xs))
string_cut xs i u h =
    let n : ℕ = string_length false (drop i xs) in
    let size : length (drop i xs) ≡ length xs - i = length-drop i xs in
    let fits : n ≤ length (drop i xs) = string_fits false (drop i xs) in
    elim (string_ends false (drop i xs)) [
      | inl e ↦ (let end : length xs ≡ i + n = omega arith in subst (IsCharBoundary xs) end (IsCharBoundary-end xs))
      | inr e ↦ (let c : get_or xs (i + (n - 1)) 0 ≡ quote = sym (get_or-drop i xs (n - 1) 0) ∙ e.1 in
          let next : (i + (n - 1)) + 1 ≡ i + n = omega arith in
          subst (IsCharBoundary xs) next (IsCharBoundary-after_ascii xs (i + (n - 1)) u (omega arith) (omega arith)))
    ]

goes_no_further : (c : ℕ) → is_continuation c ≡ false → 128 ≤ c → 192 ≤ c
goes_no_further c h k = grind (arith, nat_tests)

character_cut : (xs : List ℕ) (i : ℕ) → i ≤ length xs → IsCharBoundary xs (i + prefix_len is_continuation (drop i xs))
character_cut xs i h =
    let n : ℕ = prefix_len is_continuation (drop i xs) in
    let size : length (drop i xs) ≡ length xs - i = length-drop i xs in
    let fits : n ≤ length (drop i xs) = prefix_len-le-length is_continuation (drop i xs) in (
      omega arith,
      λ below high. goes_no_further (get_or xs (i + n) 0)
          (ap is_continuation (sym (get_or-drop i xs n 0)) ∙ prefix_len_stops is_continuation (drop i xs) 0 (omega arith)) high,
    )

at_byte : (xs : List ℕ) (i : ℕ) → i < length xs → drop i xs ≡ get_or xs i 0 ∷ drop (i + 1) xs
at_byte xs i h = rw (add-one, drop-cons xs i 0)

pub last_cut : (xs : List ℕ) (i j : ℕ) → IsUtf8 xs → i < length xs → j ≡ i + piece_length (drop i xs) → IsCharBoundary xs j
last_cut xs i j u h e =
    let c : ℕ = get_or xs i 0 in
    let cs : List ℕ = drop (i + 1) xs in
    let same : i + piece_length (c ∷ cs) ≡ j = sym (e ∙ ap (λ (ys : List ℕ). i + piece_length ys) (at_byte xs i h)) in
    let at = λ (n : ℕ). (let shift : (i + 1) + n ≡ i + (1 + n) = omega arith in λ (k : IsCharBoundary xs ((i + 1) + n)). subst (IsCharBoundary xs) shift k) in
    let P : ℕ → Type 0 = λ n. IsCharBoundary xs (i + n) in
    subst (IsCharBoundary xs) same
    (cond_both (is_word_byte c) _ _ P (λ w. at _ (run_cut is_word_byte word_low xs (i + 1) u (IsCharBoundary-after_ascii xs i u h (word_low c w))))
    (λ w. cond_both (c == quote) _ _ P (λ q. at _ (string_cut xs (i + 1) u (omega arith)))
    (λ q. cond_both (is_blank c) _ _ P (λ b. IsCharBoundary-after_ascii xs i u h (blank_low c b)) (λ b. at _ (character_cut xs (i + 1) (omega arith))))))
