-- Lines of words, one after the other.
use Rattle.std.proofs.Common.{◌≡◌, ◌<◌, ◌≤◌, ℕ, zero, suc, ◌+◌, ◌*◌, ◌-◌, ◌/◌, Bool, true, List, [], ◌∷◌, ◌++◌, codes, length, get_or, take, drop, drop-cons, nat_eq, refl, sym, ap, ◌∙◌, ◌&&◌, arith, append_assoc, append-nil, add-one}
use Rattle.std.specs.Fmt.{decimal}
use Rattle.std.proofs.lemmas.List.Folds.{list_all_more}
use Rattle.std.proofs.lemmas.Bool.{eq-eqb}
use Rattle.word_counts.specs.Counts.{Counts, count_at}
use Rattle.word_counts.specs.Lines.{counts_text, is_unmet, lines_from, word_line}

-- one count more
pub counts_next : (s : List ℕ) (tables : List Counts) (i w : ℕ) (x : Counts) → i < length tables → x ≡ get_or tables i x
    → ((s ++ codes " ") ++ decimal (count_at x w)) ++ counts_text count_at (drop (i + 1) tables) w ≡ s ++ counts_text count_at (drop i tables) w
counts_next s tables i w x h is =
    let cut : drop i tables ≡ x ∷ drop (i + 1) tables = drop-cons tables i x h ∙ ap (λ (y : Counts). y ∷ drop (suc i) tables) (sym is) ∙ ap (λ (k : ℕ). x ∷ drop k tables) (sym (add-one i)) in
    append_assoc (s ++ codes " ") (decimal (count_at x w)) (counts_text count_at (drop (i + 1) tables) w)
    ∙ append_assoc s (codes " ") (decimal (count_at x w) ++ counts_text count_at (drop (i + 1) tables) w)
    ∙ ap (λ (ys : List ℕ). s ++ ys) (sym (append_assoc (codes " ") (decimal (count_at x w)) (counts_text count_at (drop (i + 1) tables) w)))
    ∙ ap (λ (xs : List Counts). s ++ counts_text count_at xs w) (sym cut)

-- ---- lines

pub lines_none_left : (tables : List Counts) (w : ℕ) → lines_from count_at tables w 0 ≡ []
unfolding lines_from
lines_none_left tables w = refl

pub lines_one : (tables : List Counts) (w n m : ℕ) → n ≡ suc m → lines_from count_at tables w n ≡ word_line count_at tables w ++ lines_from count_at tables (w + 1) m
unfolding lines_from
lines_one tables w n m is = ap (λ (k : ℕ). lines_from count_at tables w k) is

-- a word of a page that was told
pub line_told : (s : List ℕ) (tables : List Counts) (w n m : ℕ) → n ≡ suc m → (s ++ word_line count_at tables w) ++ lines_from count_at tables (w + 1) m ≡ s ++ lines_from count_at tables w n
line_told s tables w n m is = append_assoc s (word_line count_at tables w) (lines_from count_at tables (w + 1) m) ∙ ap (λ (ys : List ℕ). s ++ ys) (sym (lines_one tables w n m is))

-- none is left
pub all_lines : (s : List ℕ) (tables : List Counts) (w n : ℕ) → n ≡ 0 → s ++ lines_from count_at tables w n ≡ s
all_lines s tables w n is = ap (λ (k : ℕ). s ++ lines_from count_at tables w k) is ∙ ap (λ (ys : List ℕ). s ++ ys) (lines_none_left tables w) ∙ append-nil s

pub lines_more : (tables : List Counts) (w m n : ℕ) → lines_from count_at tables w (m + n) ≡ lines_from count_at tables w m ++ lines_from count_at tables (w + m) n
lines_more tables w zero n =
    ap (λ (k : ℕ). lines_from count_at tables w k) (omega arith) ∙ ap (λ (k : ℕ). lines_from count_at tables k n) (omega arith)
    ∙ ap (λ (ys : List ℕ). ys ++ lines_from count_at tables (w + 0) n) (sym (lines_none_left tables w))
lines_more tables w (suc m) n =
    lines_one tables w (suc m + n) (m + n) (omega arith)
    ∙ ap (λ (ys : List ℕ). word_line count_at tables w ++ ys) (lines_more tables (w + 1) m n)
    ∙ sym (append_assoc (word_line count_at tables w) (lines_from count_at tables (w + 1) m) (lines_from count_at tables (w + 1 + m) n))
    ∙ ap (λ (k : ℕ). (word_line count_at tables w ++ lines_from count_at tables (w + 1) m) ++ lines_from count_at tables k n) (omega arith)
    ∙ ap (λ (ys : List ℕ). ys ++ lines_from count_at tables (w + suc m) n) (sym (lines_one tables w (suc m) m refl))

unmet_line : (tables : List Counts) (w : ℕ) → is_unmet count_at tables w ≡ true → word_line count_at tables w ≡ []
unmet_line tables w h = rw h refl

-- no word was executed, so there is no line
pub lines_unmet : (tables : List Counts) (w n : ℕ) → ((v : ℕ) → w ≤ v → v < w + n → is_unmet count_at tables v ≡ true) → lines_from count_at tables w n ≡ []
lines_unmet tables w zero h = lines_none_left tables w
lines_unmet tables w (suc n) h =
    lines_one tables w (suc n) n refl
    ∙ ap (λ (ys : List ℕ). ys ++ lines_from count_at tables (w + 1) n) (unmet_line tables w (h w (omega arith) (omega arith)))
    ∙ lines_unmet tables (w + 1) n (λ v low high. h v (omega (arith, low)) (omega (arith, high)))

-- ---- pages

-- pages that no run executed, and then one that was told
pub page_told : (s t : List ℕ) (tables : List Counts) (next page : ℕ) → next ≤ page → s ≡ t ++ lines_from count_at tables 0 (1024 * next)
    → ((word : ℕ) → next ≤ word / 1024 → word / 1024 < page → is_unmet count_at tables word ≡ true)
    → s ++ lines_from count_at tables (1024 * page) 1024 ≡ t ++ lines_from count_at tables 0 (1024 * (page + 1))
page_told s t tables next page h is unmet =
    let m = 1024 * page - 1024 * next in
    let none : lines_from count_at tables (0 + 1024 * next) m ≡ [] = lines_unmet tables (0 + 1024 * next) m (λ v low high. unmet v (omega (arith, low)) (omega (arith, low, high, h))) in
    let first : lines_from count_at tables 0 (1024 * page) ≡ lines_from count_at tables 0 (1024 * next) =
    ap (λ (k : ℕ). lines_from count_at tables 0 k) (let e : 1024 * page ≡ 1024 * next + m = omega (arith, h) in e)
    ∙ lines_more tables 0 (1024 * next) m ∙ ap (λ (ys : List ℕ). lines_from count_at tables 0 (1024 * next) ++ ys) none ∙ append-nil (lines_from count_at tables 0 (1024 * next)) in
    ap (λ (ys : List ℕ). ys ++ lines_from count_at tables (1024 * page) 1024) (is ∙ ap (λ (ys : List ℕ). t ++ ys) (sym first))
    ∙ append_assoc t (lines_from count_at tables 0 (1024 * page)) (lines_from count_at tables (1024 * page) 1024)
    ∙ ap (λ (k : ℕ). t ++ (lines_from count_at tables 0 (1024 * page) ++ lines_from count_at tables k 1024)) (let e : 1024 * page ≡ 0 + 1024 * page = omega arith in e)
    ∙ ap (λ (ys : List ℕ). t ++ ys) (sym (lines_more tables 0 (1024 * page) 1024))
    ∙ ap (λ (k : ℕ). t ++ lines_from count_at tables 0 k) (let e : 1024 * page + 1024 ≡ 1024 * (page + 1) = omega arith in e)

-- no page behind those that were told has a line
pub all_told : (s t : List ℕ) (tables : List Counts) (next all : ℕ) → next ≤ all → s ≡ t ++ lines_from count_at tables 0 (1024 * next)
    → ((word : ℕ) → next ≤ word / 1024 → word / 1024 < all → is_unmet count_at tables word ≡ true) → s ≡ t ++ lines_from count_at tables 0 (1024 * all)
all_told s t tables next all h is unmet =
    let m = 1024 * all - 1024 * next in
    let none : lines_from count_at tables (0 + 1024 * next) m ≡ [] = lines_unmet tables (0 + 1024 * next) m (λ v low high. unmet v (omega (arith, low)) (omega (arith, low, high, h))) in
    is ∙ ap (λ (ys : List ℕ). t ++ ys)
    (sym (ap (λ (k : ℕ). lines_from count_at tables 0 k) (let e : 1024 * all ≡ 1024 * next + m = omega (arith, h) in e)
    ∙ lines_more tables 0 (1024 * next) m ∙ ap (λ (ys : List ℕ). lines_from count_at tables 0 (1024 * next) ++ ys) none ∙ append-nil (lines_from count_at tables 0 (1024 * next))))

-- ---- one table more of which no word was executed

pub unmet_more : (tables : List Counts) (i w : ℕ) (x : Counts) → i < length tables → x ≡ get_or tables i x → is_unmet count_at (take i tables) w ≡ true → count_at x w ≡ 0 → is_unmet count_at (take (i + 1) tables) w ≡ true
unmet_more tables i w x h is before here =
    list_all_more (λ run. nat_eq (count_at run w) 0) tables i x h
    ∙ ap (λ (b : Bool). b && nat_eq (count_at (get_or tables i x) w) 0) before
    ∙ ap (λ (y : Counts). nat_eq (count_at y w) 0) (sym is) ∙ eq-eqb _ _ here
