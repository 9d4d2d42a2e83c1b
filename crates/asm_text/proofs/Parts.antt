-- Strings read part by part.
use Rattle.std.proofs.Common.{◌≡◌, ℕ, zero, suc, ◌+◌, ◌-◌, ◌<◌, ◌≤◌, ◌==◌, ◌∙◌, true, false, List, [], ◌∷◌, ◌++◌, append_assoc, append-nil, Option, Some, None, drop, take, drop-cons, get_or, length, length-drop, slice_range, add-one, refl, sym, ap, subst, arith, inl, inr}
use Rattle.std.proofs.lemmas.Bool.{cases_Bool, cases_lt, cond-true, cond-false, cond_both, or_parts, or_cases, not-true, not-false, eqb-true, ne_eqb}
use Rattle.std.proofs.lemmas.List.{drop-drop, get_or-drop}
use Rattle.std.proofs.lemmas.List.Sums.{prefix_len_stops}
use Rattle.std.proofs.lemmas.Str.{IsCharBoundary-after_ascii, IsCharBoundary-before_ascii, IsCharBoundary-end}
use Rattle.std.specs.List.{prefix_len}
use Rattle.std.specs.Str.{IsCharBoundary, IsUtf8}
use Rattle.asm_text.specs.Plain.{is_plain, prepended, AddsPart}
use Rattle.listing_model.specs.Directives.{contents, escape, with_first}
use Rattle.asm_tokens.specs.Tokens.{quote, backslash}

pub nothing_prepended : (o : Option (List ℕ)) → prepended [] o ≡ o
nothing_prepended None = refl
nothing_prepended (Some ys) = refl

pub twice_prepended : (xs ys : List ℕ) (o : Option (List ℕ)) → prepended xs (prepended ys o) ≡ prepended (xs ++ ys) o
twice_prepended xs ys None = refl
twice_prepended xs ys (Some zs) = ap Some (sym (append_assoc xs ys zs))

one_prepended : (c : ℕ) (o : Option (List ℕ)) → with_first (Some c) o ≡ prepended (c ∷ []) o
one_prepended c None = refl
one_prepended c (Some ys) = refl

more_prepended : (c : ℕ) (xs : List ℕ) (o : Option (List ℕ)) → with_first (Some c) (prepended xs o) ≡ prepended (c ∷ xs) o
more_prepended c xs None = refl
more_prepended c xs (Some ys) = refl

-- bytes that stand for themselves
pub plain_run : (cs : List ℕ) → contents false cs ≡ prepended (take (prefix_len is_plain cs) cs) (contents false (drop (prefix_len is_plain cs) cs))
plain_run [] = refl
plain_run (c ∷ cs) =
    let n : ℕ = prefix_len is_plain cs in
    let e : 1 + n ≡ suc n = omega arith in
    let P = λ (m : ℕ). prepended (take m (c ∷ cs)) (contents false (drop m (c ∷ cs))) in
    elim (cases_Bool (is_plain c)) [
      | inl h ↦ (let parts = or_parts (c == quote) (c == backslash) (not-true _ h) in
          cond-false (c == quote) _ _ parts.0 ∙ cond-false (c == backslash) _ _ parts.1
          ∙ ap (with_first (Some c)) (plain_run cs) ∙ more_prepended c (take n cs) (contents false (drop n cs))
          ∙ ap P (sym (cond-true (is_plain c) (1 + n) 0 h ∙ e)))
      | inr h ↦ sym (nothing_prepended (contents false (c ∷ cs))) ∙ ap P (sym (cond-false (is_plain c) (1 + n) 0 h))
    ]

-- the same at a place
pub run_at : (token : List ℕ) (start end : ℕ) → end ≡ start + prefix_len is_plain (drop start token)
    → contents false (drop start token) ≡ prepended (take (end - start) (drop start token)) (contents false (drop end token))
run_at token start end e =
    let n : ℕ = prefix_len is_plain (drop start token) in
    let size : n ≡ end - start = omega arith in
    plain_run (drop start token)
    ∙ ap (λ (xs : List ℕ). prepended (take n (drop start token)) (contents false xs)) (drop-drop n start token ∙ ap (λ (i : ℕ). drop i token) (sym e))
    ∙ ap (λ (i : ℕ). prepended (take i (drop start token)) (contents false (drop end token))) size

at_byte : (xs : List ℕ) (i : ℕ) → i < length xs → drop i xs ≡ get_or xs i 0 ∷ drop (i + 1) xs
at_byte xs i h = rw (add-one, drop-cons xs i 0)

-- a byte that doesn't stand for itself, and is no quote, is a backslash
ends_run : (token : List ℕ) (start end : ℕ) → start ≤ length token → end ≡ start + prefix_len is_plain (drop start token) → end < length token
    → is_plain (get_or token end 0) ≡ false
ends_run token start end h e l =
    let n : ℕ = prefix_len is_plain (drop start token) in
    let size : length (drop start token) ≡ length token - start = length-drop start token in
    ap is_plain (ap (λ (i : ℕ). get_or token i 0) e ∙ sym (get_or-drop start token n 0)) ∙ prefix_len_stops is_plain (drop start token) 0 (omega arith)

is_backslash : (c : ℕ) → is_plain c ≡ false → (c ≡ quote → ⊥) → c ≡ backslash
is_backslash c h k = elim (or_cases (c == quote) (c == backslash) (not-false _ h)) [
  | inl e ↦ absurd (k (eqb-true c quote e))
  | inr e ↦ eqb-true c backslash e
]

is_low : (c : ℕ) → is_plain c ≡ false → c < 128
is_low c h = elim (or_cases (c == quote) (c == backslash) (not-false _ h)) [
  | inl e ↦ (let q : c ≡ quote = eqb-true c quote e in omega arith)
  | inr e ↦ (let q : c ≡ backslash = eqb-true c backslash e in omega arith)
]

-- a string may be cut behind bytes that stand for themselves
pub run_cut : (token : List ℕ) (start end : ℕ) → start ≤ length token → end ≡ start + prefix_len is_plain (drop start token) → end ≤ length token
    → IsCharBoundary token end
run_cut token start end h e l = elim (cases_lt end (length token)) [
  | inl k ↦ IsCharBoundary-before_ascii token end k (is_low _ (ends_run token start end h e k))
  | inr k ↦ (let same : length token ≡ end = omega arith in subst (IsCharBoundary token) same (IsCharBoundary-end token))
]

-- a string that ends behind these bytes
pub closed_part : (token : List ℕ) (start end : ℕ) (old new : List ℕ) → end ≡ start + prefix_len is_plain (drop start token) → end < length token
    → get_or token end 0 ≡ quote → new ≡ old ++ slice_range token start end → AddsPart token start old new None
closed_part token start end old new e l h k = record {
  part = slice_range token start end;
  added = k;
  rest = run_at token start end e
      ∙ ap (λ (xs : List ℕ). prepended (slice_range token start end) (contents false xs)) (at_byte token end l ∙ ap (λ (c : ℕ). c ∷ drop (end + 1) token) h)
      ∙ ap Some (append-nil (slice_range token start end));
}

-- the backslash and the character behind it
behind_run : (token : List ℕ) (start end : ℕ) → start ≤ length token → end ≡ start + prefix_len is_plain (drop start token) → end + 1 < length token
    → (get_or token end 0 ≡ quote → ⊥) → contents false (drop end token) ≡ with_first (escape (get_or token (end + 1) 0)) (contents false (drop (end + 2) token))
behind_run token start end h e l k =
    let slash : get_or token end 0 ≡ backslash = is_backslash _ (ends_run token start end h e (omega arith)) k in
    let next : end + 1 + 1 ≡ end + 2 = omega arith in
    ap (contents false) (at_byte token end (omega arith) ∙ ap (λ (c : ℕ). c ∷ drop (end + 1) token) slash)
    ∙ ap (contents true) (at_byte token (end + 1) l ∙ ap (λ (i : ℕ). get_or token (end + 1) 0 ∷ drop i token) next)

escape_low : (c e : ℕ) → escape c ≡ Some e → c < 128
escape_low c e h = elim (cases_lt c 128) [
  | inl l ↦ l
  | inr l ↦ (let none : escape c ≡ None = no_escape c l in cc)
]
  where
    no_escape : (d : ℕ) → 128 ≤ d → escape d ≡ None
    no_escape d l =
        cond-false (d == 110) _ _ (ne_eqb d 110 (λ q. omega arith)) ∙ cond-false (d == 48) _ _ (ne_eqb d 48 (λ q. omega arith))
        ∙ cond-false (d == backslash) _ _ (ne_eqb d backslash (λ q. omega arith)) ∙ cond-false (d == quote) _ _ (ne_eqb d quote (λ q. omega arith))

abbrev Low : Option ℕ → Type 0
Low o = (d : ℕ) → o ≡ Some d → d < 128

low_some : (x : ℕ) → x < 128 → Low (Some x)
low_some x h d q = let e : x ≡ d = cc in omega arith

low_none : Low None
low_none d q = cc

-- what an escape stands for is ASCII
pub escaped_low : (c e : ℕ) → escape c ≡ Some e → e < 128
escaped_low c e h =
    cond_both (c == 110) _ _ Low (λ k. low_some 10 (omega arith))
    (λ k. cond_both (c == 48) _ _ Low (λ l. low_some 0 (omega arith))
    (λ l. cond_both (c == backslash) _ _ Low (λ m. low_some backslash (omega arith))
    (λ m. cond_both (c == quote) _ _ Low (λ n. low_some quote (omega arith)) (λ n. low_none)))) e h

pub escaped_part : (token : List ℕ) (start end e : ℕ) (old new : List ℕ) → IsUtf8 token → start ≤ length token
    → end ≡ start + prefix_len is_plain (drop start token) → end + 1 < length token → (get_or token end 0 ≡ quote → ⊥)
    → escape (get_or token (end + 1) 0) ≡ Some e → new ≡ (old ++ slice_range token start end) ++ (e ∷ [])
    → AddsPart token start old new (Some (end + 2))
escaped_part token start end e old new u h q l n k a =
    let run : List ℕ = slice_range token start end in
    let next : end + 1 + 1 ≡ end + 2 = omega arith in
    record {
      part = run ++ (e ∷ []);
      added = a ∙ append_assoc old run (e ∷ []);
      rest = (
        omega arith,
        subst (IsCharBoundary token) next (IsCharBoundary-after_ascii token (end + 1) u l (escape_low _ e k)),
        run_at token start end q ∙ ap (prepended run) (behind_run token start end h q l n ∙ ap (λ (o : Option ℕ). with_first o (contents false (drop (end + 2) token))) k
            ∙ one_prepended e (contents false (drop (end + 2) token)))
            ∙ twice_prepended run (e ∷ []) (contents false (drop (end + 2) token)),
      );
    }

-- a string that isn't closed, or has another escape
no_part : (token : List ℕ) (start end : ℕ) → end ≡ start + prefix_len is_plain (drop start token) → contents false (drop end token) ≡ None
    → contents false (drop start token) ≡ None
no_part token start end e h = run_at token start end e ∙ ap (prepended (slice_range token start end)) h

no_bytes : (xs : List ℕ) (i : ℕ) → length xs ≤ i → drop i xs ≡ []
no_bytes [] zero h = refl
no_bytes [] (suc i) h = refl
no_bytes (x ∷ xs) zero h = absurd (omega arith)
no_bytes (x ∷ xs) (suc i) h = no_bytes xs i (omega arith)

pub never_closed : (token : List ℕ) (start end : ℕ) → end ≡ start + prefix_len is_plain (drop start token) → end ≡ length token
    → contents false (drop start token) ≡ None
never_closed token start end e h = no_part token start end e (ap (contents false) (no_bytes token end (omega arith)))

pub ends_escaped : (token : List ℕ) (start end : ℕ) → start ≤ length token → end ≡ start + prefix_len is_plain (drop start token) → end + 1 ≡ length token
    → (get_or token end 0 ≡ quote → ⊥) → contents false (drop start token) ≡ None
ends_escaped token start end h e l k =
    let slash : get_or token end 0 ≡ backslash = is_backslash _ (ends_run token start end h e (omega arith)) k in
    no_part token start end e
    (ap (contents false) (at_byte token end (omega arith) ∙ ap (λ (c : ℕ). c ∷ drop (end + 1) token) slash)
    ∙ ap (contents true) (no_bytes token (end + 1) (omega arith)))

pub wrong_escape : (token : List ℕ) (start end : ℕ) → start ≤ length token → end ≡ start + prefix_len is_plain (drop start token) → end + 1 < length token
    → (get_or token end 0 ≡ quote → ⊥) → escape (get_or token (end + 1) 0) ≡ None → contents false (drop start token) ≡ None
wrong_escape token start end h e l k n =
    no_part token start end e (behind_run token start end h e l k ∙ ap (λ (o : Option ℕ). with_first o (contents false (drop (end + 2) token))) n)

-- ---- a whole string

pub goes_on : (token : List ℕ) (text old new : List ℕ) (start next : ℕ) → AddsPart token start old new (Some next)
    → prepended old (contents false (drop start token)) ≡ prepended new (contents false (drop next token))
goes_on token text old new start next h =
    ap (prepended old) h.rest.2 ∙ twice_prepended old h.part (contents false (drop next token))
    ∙ ap (λ (xs : List ℕ). prepended xs (contents false (drop next token))) (sym h.added)

pub has_ended : (token : List ℕ) (old new : List ℕ) (start : ℕ) → AddsPart token start old new None
    → prepended old (contents false (drop start token)) ≡ Some new
has_ended token old new start h = ap (prepended old) h.rest ∙ ap Some (sym h.added)
