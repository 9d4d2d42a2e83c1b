-- Lines of a text, one at a time.
use Rattle.std.proofs.Common.{◌≡◌, ℕ, suc, ◌+◌, ◌-◌, ◌<◌, ◌≤◌, ◌==◌, ◌∙◌, Bool, true, false, not, cond, List, [], ◌∷◌, drop, take, drop-cons, get_or, length, length-drop, slice_range, refl, sym, ap, subst, arith, add-one, inl, inr}
use Rattle.std.proofs.lemmas.Bool.{cases_Bool, cases_lt, cond-true, cond-false, eqb-true, not-false}
use Rattle.std.proofs.lemmas.List.{drop-drop, get_or-drop}
use Rattle.std.proofs.lemmas.List.Sums.{prefix_len_stops}
use Rattle.std.proofs.lemmas.Str.{IsCharBoundary-before_ascii, IsCharBoundary-after_ascii, IsCharBoundary-end}
use Rattle.std.specs.List.{onto_first, prefix_len}
use Rattle.std.specs.Str.{IsCharBoundary, IsUtf8}
use Rattle.asm_image.specs.TextLines.{IsLine, in_line}
use Rattle.listing_model.specs.Lines.{lines_of, newline}

longer : (d : ℕ) (ds : List ℕ) → (0 < length ds → lines_of ds ≡ take (prefix_len in_line ds) ds ∷ lines_of (drop (prefix_len in_line ds + 1) ds))
    → onto_first d (lines_of ds) ≡ (d ∷ take (prefix_len in_line ds) ds) ∷ lines_of (drop (prefix_len in_line ds + 1) ds)
longer d [] h = refl
longer d (e ∷ es) h = ap (onto_first d) (h (omega arith))

-- the first line, and those behind its newline
first_line : (cs : List ℕ) → 0 < length cs → lines_of cs ≡ take (prefix_len in_line cs) cs ∷ lines_of (drop (prefix_len in_line cs + 1) cs)
first_line [] h = absurd (omega arith)
first_line (c ∷ cs) h =
    let n : ℕ = prefix_len in_line cs in
    let P = λ (m : ℕ). take m (c ∷ cs) ∷ lines_of (drop (m + 1) (c ∷ cs)) in
    elim (cases_Bool (c == newline)) [
      | inl e ↦ cond-true (c == newline) _ _ e ∙ ap P (sym (ap (λ (b : Bool). cond (not b) (1 + n) 0) e))
      | inr e ↦ (let m : 1 + n ≡ suc n = omega arith in
          let next : suc n + 1 ≡ suc (n + 1) = omega arith in
          cond-false (c == newline) _ _ e ∙ longer c cs (λ l. first_line cs l)
          ∙ ap (λ (k : ℕ). (c ∷ take n cs) ∷ lines_of (drop k (c ∷ cs))) (sym next)
          ∙ ap P (sym (ap (λ (b : Bool). cond (not b) (1 + n) 0) e ∙ m)))
    ]

not_in_line : (c : ℕ) → in_line c ≡ false → c ≡ newline
not_in_line c h = eqb-true c newline (not-false _ h)

stops : (text : List ℕ) (start past : ℕ) → start ≤ length text → past ≡ start + prefix_len in_line (drop start text) → past < length text
    → get_or text past 0 ≡ newline
stops text start past h e l =
    let n : ℕ = prefix_len in_line (drop start text) in
    let size : length (drop start text) ≡ length text - start = length-drop start text in
    not_in_line (get_or text past 0)
    (ap in_line (ap (λ (i : ℕ). get_or text i 0) e ∙ sym (get_or-drop start text n 0)) ∙ prefix_len_stops in_line (drop start text) 0 (omega arith))

pub line_at : (text : List ℕ) (start past : ℕ) → IsUtf8 text → start < length text → past ≡ start + prefix_len in_line (drop start text) → past ≤ length text
    → IsLine text start past
line_at text start past u h e k =
    let n : ℕ = prefix_len in_line (drop start text) in
    let size : length (drop start text) ≡ length text - start = length-drop start text in
    let width : n ≡ past - start = omega arith in
    let next : start + (n + 1) ≡ past + 1 = omega arith in
    record {
      after = omega arith;
      within = k;
      is = first_line (drop start text) (omega arith)
          ∙ ap (λ (m : ℕ). take m (drop start text) ∷ lines_of (drop (n + 1) (drop start text))) width
          ∙ ap (λ (xs : List ℕ). slice_range text start past ∷ lines_of xs) (drop-drop (n + 1) start text)
          ∙ ap (λ (m : ℕ). slice_range text start past ∷ lines_of (drop m text)) next;
      cut = elim (cases_lt past (length text)) [
        | inl l ↦ (let c : get_or text past 0 ≡ newline = stops text start past (omega arith) e l in IsCharBoundary-before_ascii text past l (omega arith))
        | inr l ↦ (let same : length text ≡ past = omega arith in subst (IsCharBoundary text) same (IsCharBoundary-end text))
      ];
      next_cut = λ l. (let c : get_or text past 0 ≡ newline = stops text start past (omega arith) e l in IsCharBoundary-after_ascii text past u l (omega arith));
    }

-- ---- how many lines

-- lines that begin in the bytes that are left, where the last line is open or not
abbrev pub lines_left : Bool → List ℕ → ℕ
lines_left true cs = length (lines_of cs) - 1
lines_left false cs = length (lines_of cs)

onto_length : (c : ℕ) (ls : List (List ℕ)) → length (onto_first c ls) ≡ 1 + (length ls - 1)
onto_length c [] = refl
onto_length c (l ∷ ls) = omega arith

pub one_byte : (is_open : Bool) (c : ℕ) (cs : List ℕ) → lines_left is_open (c ∷ cs) ≡ (cond is_open 0 1) + lines_left (in_line c) cs
one_byte is_open c cs = elim (cases_Bool (c == newline)) [
  | inl e ↦ at_newline is_open (cond-true (c == newline) _ _ e) (ap not e)
  | inr e ↦ in_a_line is_open (cond-false (c == newline) _ _ e) (ap not e)
]
  where
    at_newline : (b : Bool) → lines_of (c ∷ cs) ≡ [] ∷ lines_of cs → in_line c ≡ false → lines_left b (c ∷ cs) ≡ (cond b 0 1) + lines_left (in_line c) cs
    at_newline true h k =
        let n : length (lines_of (c ∷ cs)) ≡ suc (length (lines_of cs)) = ap length h in
        let m : lines_left (in_line c) cs ≡ length (lines_of cs) = ap (λ (o : Bool). lines_left o cs) k in
        omega arith
    at_newline false h k =
        let n : length (lines_of (c ∷ cs)) ≡ suc (length (lines_of cs)) = ap length h in
        let m : lines_left (in_line c) cs ≡ length (lines_of cs) = ap (λ (o : Bool). lines_left o cs) k in
        omega arith

    in_a_line : (b : Bool) → lines_of (c ∷ cs) ≡ onto_first c (lines_of cs) → in_line c ≡ true → lines_left b (c ∷ cs) ≡ (cond b 0 1) + lines_left (in_line c) cs
    in_a_line true h k =
        let n : length (lines_of (c ∷ cs)) ≡ 1 + (length (lines_of cs) - 1) = ap length h ∙ onto_length c (lines_of cs) in
        let m : lines_left (in_line c) cs ≡ length (lines_of cs) - 1 = ap (λ (o : Bool). lines_left o cs) k in
        omega arith
    in_a_line false h k =
        let n : length (lines_of (c ∷ cs)) ≡ 1 + (length (lines_of cs) - 1) = ap length h ∙ onto_length c (lines_of cs) in
        let m : lines_left (in_line c) cs ≡ length (lines_of cs) - 1 = ap (λ (o : Bool). lines_left o cs) k in
        omega arith

pub byte_at : (xs : List ℕ) (i : ℕ) → i < length xs → drop i xs ≡ get_or xs i 0 ∷ drop (i + 1) xs
byte_at xs i h = rw (add-one, drop-cons xs i 0)
