-- The lines of registers, one more at a time.
use Rattle.std.proofs.Common.{◌≡◌, ℕ, zero, suc, ◌+◌, ◌<◌, ◌≤◌, List, [], ◌∷◌, ◌++◌, take, drop, refl, sym, ap, ◌∙◌, append_assoc, append-nil, map-id, Option, arith}
use Rattle.std.specs.List.{flat_map, range_with_len}
use Rattle.std.proofs.lemmas.List.{take-append-drop}
use Rattle.std.proofs.lemmas.List.Concat.{flat_map-append}
use Rattle.std.proofs.lemmas.List.FromFn.{map-range_with_len_more, take-map-range_with_len}
use Rattle.emu_run.specs.Registers.{lines_of, register_line}
use Rattle.emu_run.specs.Text.{space, newline}
use Rattle.emu_report.proofs.Puts.{IsPut, IsCut, put_equal, cut_equal, put_both, cut_second, cut_first}

range_more : (n : ℕ) → range_with_len 0 (n + 1) ≡ range_with_len 0 n ++ n ∷ []
range_more n =
    sym (map-id (range_with_len 0 (n + 1))) ∙ map-range_with_len_more (λ (k : ℕ). k) 0 n n (omega arith) ∙ ap (λ (ks : List ℕ). ks ++ n ∷ []) (map-id (range_with_len 0 n))

range_front : (n k : ℕ) → k ≤ n → take k (range_with_len 0 n) ≡ range_with_len 0 k
range_front n k h =
    ap (take k) (sym (map-id (range_with_len 0 n))) ∙ take-map-range_with_len (λ (k : ℕ). k) 0 n k h ∙ map-id (range_with_len 0 k)

-- the line of register n behind those before it
pub lines_more : (line : ℕ → List ℕ) (n : ℕ) → lines_of (n + 1) line ≡ lines_of n line ++ line n
lines_more line n =
    ap (flat_map line) (range_more n) ∙ flat_map-append line (range_with_len 0 n) (n ∷ []) ∙ ap (λ (xs : List ℕ). lines_of n line ++ xs) (append-nil (line n))

-- the lines of registers k to n - 1
abbrev pub lines_behind : ℕ → ℕ → (ℕ → List ℕ) → List ℕ
lines_behind n k line = flat_map line (drop k (range_with_len 0 n))

-- the lines of the first k registers stand in front
pub lines_front : (line : ℕ → List ℕ) (n k : ℕ) → k ≤ n → lines_of n line ≡ lines_of k line ++ lines_behind n k line
lines_front line n k h =
    ap (flat_map line) (sym (take-append-drop k (range_with_len 0 n)))
    ∙ flat_map-append line (take k (range_with_len 0 n)) (drop k (range_with_len 0 n))
    ∙ ap (λ (ks : List ℕ). flat_map line ks ++ lines_behind n k line) (range_front n k h)

same_lines : (f g : ℕ → List ℕ) (a n : ℕ) → ((k : ℕ) → k < a + n → f k ≡ g k) → flat_map f (range_with_len a n) ≡ flat_map g (range_with_len a n)
same_lines f g a zero h = refl
same_lines f g a (suc n) h =
    ap (λ (xs : List ℕ). xs ++ flat_map f (range_with_len (a + 1) n)) (h a (omega arith))
    ∙ ap (λ (xs : List ℕ). g a ++ xs) (same_lines f g (a + 1) n (λ k lt. h k (omega arith)))

-- equal lines
pub lines_equal : (f g : ℕ → List ℕ) (n : ℕ) → ((k : ℕ) → k < n → f k ≡ g k) → lines_of n f ≡ lines_of n g
lines_equal f g n h = same_lines f g 0 n (λ k lt. h k (omega arith))

-- a name, and then a space, a value and a newline
pub line_appended : (old mid new name value : List ℕ) → mid ≡ old ++ name → new ≡ mid ++ (space ++ value ++ newline) → new ≡ old ++ register_line name value
line_appended old mid new name value p q =
    q ∙ ap (λ (xs : List ℕ). xs ++ (space ++ value ++ newline)) p ∙ append_assoc old name (space ++ value ++ newline)
    ∙ ap (λ (xs : List ℕ). old ++ xs) (sym (append_assoc (name ++ space) value newline ∙ append_assoc name space (value ++ newline)))

-- a space, a value and a newline
pub value_appended : (old first second new value : List ℕ) → first ≡ old ++ space → second ≡ first ++ value → new ≡ second ++ newline → new ≡ old ++ (space ++ value ++ newline)
value_appended old first second new value p q r =
    r ∙ ap (λ (xs : List ℕ). xs ++ newline) (q ∙ ap (λ (xs : List ℕ). xs ++ value) p)
    ∙ ap (λ (xs : List ℕ). xs ++ newline) (append_assoc old space value) ∙ append_assoc old (space ++ value) newline

-- the line of register n behind the text of those before it
pub lines_appended : (old text new : List ℕ) (line : ℕ → List ℕ) (n : ℕ) → text ≡ old ++ lines_of n line → new ≡ text ++ line n → new ≡ old ++ lines_of (n + 1) line
lines_appended old text new line n p q =
    q ∙ ap (λ (xs : List ℕ). xs ++ line n) p ∙ append_assoc old (lines_of n line) (line n) ∙ ap (λ (xs : List ℕ). old ++ xs) (sym (lines_more line n))

-- the lines before that of register k were put, and then that one
pub lines_put : (old mid new : Option (List ℕ)) (line : ℕ → List ℕ) (k : ℕ) → IsPut old mid (lines_of k line) → IsPut mid new (line k) → IsPut old new (lines_of (k + 1) line)
lines_put old mid new line k p q = put_equal _ _ _ _ (sym (lines_more line k)) (put_both old mid new (lines_of k line) (line k) p q)

-- the lines before that of register k were put, and that one is cut
pub lines_cut : (old mid new : Option (List ℕ)) (line : ℕ → List ℕ) (n k : ℕ) → k < n → IsPut old mid (lines_of k line) → IsCut mid new (line k) → IsCut old new (lines_of n line)
lines_cut old mid new line n k h p q =
    let cut : IsCut old new (lines_of (k + 1) line) = cut_equal _ _ _ _ (sym (lines_more line k)) (cut_second old mid new (lines_of k line) (line k) p q) in
    cut_equal _ _ _ _ (sym (lines_front line n (k + 1) (omega arith))) (cut_first old new (lines_of (k + 1) line) (lines_behind n (k + 1) line) cut)

-- the pieces of a text that was empty
pub pieces_appended : (first t1 t2 t3 t4 t5 t6 a b c d e f : List ℕ) → first ≡ [] → t1 ≡ first ++ a → t2 ≡ t1 ++ b → t3 ≡ t2 ++ c → t4 ≡ t3 ++ d → t5 ≡ t4 ++ e → t6 ≡ t5 ++ f → t6 ≡ a ++ b ++ c ++ d ++ e ++ f
pieces_appended first t1 t2 t3 t4 t5 t6 a b c d e f p0 p1 p2 p3 p4 p5 p6 =
    let p : t1 ≡ a = p1 ∙ ap (λ (xs : List ℕ). xs ++ a) p0 in cc
