-- Lines that are put some at a time, and the lines of segments.
use Rattle.std.proofs.Common.{◌≡◌, ℕ, zero, suc, ◌+◌, ◌<◌, ◌≤◌, if◌then◌else◌, Bool, List, [], ◌∷◌, ◌++◌, length, get_or, take, drop, Option, refl, sym, ap, ap₂, ◌∙◌, append_assoc, append-nil, arith, inl, inr}
use Rattle.std.proofs.Math.Seq.{take-nil, drop-nil}
use Rattle.std.proofs.lemmas.Bool.{cases_Bool}
use Rattle.std.specs.Prelude.{flat_map, filter}
use Rattle.emu_run.specs.Registers.{lines_of}
use Rattle.emu_report.proofs.Lines.{lines_more, lines_behind, lines_front}
use Rattle.emu_report.proofs.Puts.{IsPut, IsCut, put_equal, cut_equal, put_both, cut_second, cut_first}
use Rattle.emu_report.proofs.Pieces.{appended_both}
use Rattle.emu_system.specs.declared.image.Segment.{Segment}
use Rattle.asm_text.specs.Disassembly.{segment_lines}
use Rattle.dis_text.specs.Segments.{executable_lines}

-- a lines, and n more
lines_both : (f : ℕ → List ℕ) (a n : ℕ) → lines_of (a + n) f ≡ lines_of a f ++ lines_of n (λ k. f (a + k))
lines_both f a zero = let e : a + zero ≡ a = omega arith in ap (λ (m : ℕ). lines_of m f) e ∙ sym (append-nil (lines_of a f))
lines_both f a (suc n) =
    let g = λ (k : ℕ). f (a + k) in
    let e : a + suc n ≡ a + n + 1 = omega arith in
    let h : n + 1 ≡ suc n = omega arith in
    ap (λ (m : ℕ). lines_of m f) e ∙ lines_more f (a + n) ∙ ap (λ (xs : List ℕ). xs ++ f (a + n)) (lines_both f a n) ∙ append_assoc (lines_of a f) (lines_of n g) (f (a + n))
    ∙ ap (λ (xs : List ℕ). lines_of a f ++ xs) (sym (lines_more g n) ∙ ap (λ (m : ℕ). lines_of m g) h)

pub batch_put : (old mid new : Option (List ℕ)) (f : ℕ → List ℕ) (a n : ℕ) → IsPut old mid (lines_of a f) → IsPut mid new (lines_of n (λ k. f (a + k))) → IsPut old new (lines_of (a + n) f)
batch_put old mid new f a n p q = put_equal _ _ _ _ (sym (lines_both f a n)) (put_both old mid new (lines_of a f) (lines_of n (λ k. f (a + k))) p q)

pub batch_cut : (old mid new : Option (List ℕ)) (f : ℕ → List ℕ) (count a n : ℕ) → a + n ≤ count → IsPut old mid (lines_of a f) → IsCut mid new (lines_of n (λ k. f (a + k))) → IsCut old new (lines_of count f)
batch_cut old mid new f count a n h p q =
    let cut : IsCut old new (lines_of (a + n) f) = cut_equal _ _ _ _ (sym (lines_both f a n)) (cut_second old mid new (lines_of a f) (lines_of n (λ k. f (a + k))) p q) in
    cut_equal _ _ _ _ (sym (lines_front f count (a + n) h)) (cut_first old new (lines_of (a + n) f) (lines_behind count (a + n) f) cut)

-- a segment that isn't executable has no lines
pub lines_of_executable : (file : List ℕ) (ss : List Segment) → flat_map (executable_lines file) ss ≡ flat_map (segment_lines file) (filter (λ s. s.rights.x) ss)
lines_of_executable file [] = refl
lines_of_executable file (s ∷ ss) =
    let f = λ (b : Bool). (if b then segment_lines file s else []) ++ flat_map (executable_lines file) ss in
    let g = λ (b : Bool). flat_map (segment_lines file) (if b then s ∷ filter (λ t. t.rights.x) ss else filter (λ t. t.rights.x) ss) in
    elim (cases_Bool s.rights.x) [
      | inl e ↦ ap f e ∙ ap (λ (xs : List ℕ). segment_lines file s ++ xs) (lines_of_executable file ss) ∙ sym (ap g e)
      | inr e ↦ ap f e ∙ lines_of_executable file ss ∙ sym (ap g e)
    ]

-- ---- pieces of a line

pub six_appended : (old t1 t2 t3 t4 t5 t6 a b c d e f : List ℕ) → t1 ≡ old ++ a → t2 ≡ t1 ++ b → t3 ≡ t2 ++ c → t4 ≡ t3 ++ d → t5 ≡ t4 ++ e → t6 ≡ t5 ++ f
    → t6 ≡ old ++ (a ++ b ++ c ++ d ++ e ++ f)
six_appended old t1 t2 t3 t4 t5 t6 a b c d e f p1 p2 p3 p4 p5 p6 =
    let q2 = appended_both old t1 t2 a b p1 p2 in
    let q3 = appended_both old t2 t3 (a ++ b) c q2 p3 in
    let q4 = appended_both old t3 t4 (a ++ b ++ c) d q3 p4 in
    let q5 = appended_both old t4 t5 (a ++ b ++ c ++ d) e q4 p5 in
    appended_both old t5 t6 (a ++ b ++ c ++ d ++ e) f q5 p6

-- ---- segment by segment

flat_taken : (f : Segment → List ℕ) (ss : List Segment) (i : ℕ) (d : Segment) → i < length ss → flat_map f (take (suc i) ss) ≡ flat_map f (take i ss) ++ f (get_or ss i d)
flat_taken f [] i d h = absurd (omega (arith, h))
flat_taken f (s ∷ ss) zero d h = append-nil (f s)
flat_taken f (s ∷ ss) (suc i) d h =
    ap (λ (xs : List ℕ). f s ++ xs) (flat_taken f ss i d (omega (arith, h))) ∙ sym (append_assoc (f s) (flat_map f (take i ss)) (f (get_or ss i d)))

flat_all : (f : Segment → List ℕ) (ss : List Segment) (i : ℕ) → flat_map f ss ≡ flat_map f (take i ss) ++ flat_map f (drop i ss)
flat_all f [] i = sym (ap₂ (λ (xs ys : List Segment). flat_map f xs ++ flat_map f ys) (take-nil i) (drop-nil i))
flat_all f (s ∷ ss) zero = refl
flat_all f (s ∷ ss) (suc i) = ap (λ (xs : List ℕ). f s ++ xs) (flat_all f ss i) ∙ sym (append_assoc (f s) (flat_map f (take i ss)) (flat_map f (drop i ss)))

pub segments_put : (old mid new : Option (List ℕ)) (f : Segment → List ℕ) (ss : List Segment) (i : ℕ) (d : Segment) → i < length ss
    → IsPut old mid (flat_map f (take i ss)) → IsPut mid new (f (get_or ss i d)) → IsPut old new (flat_map f (take (i + 1) ss))
segments_put old mid new f ss i d h p q =
    let e : suc i ≡ i + 1 = omega arith in
    put_equal _ _ _ _ (sym (flat_taken f ss i d h) ∙ ap (λ (n : ℕ). flat_map f (take n ss)) e) (put_both old mid new (flat_map f (take i ss)) (f (get_or ss i d)) p q)

pub segments_cut : (old mid new : Option (List ℕ)) (f : Segment → List ℕ) (ss : List Segment) (i : ℕ) (d : Segment) → i < length ss
    → IsPut old mid (flat_map f (take i ss)) → IsCut mid new (f (get_or ss i d)) → IsCut old new (flat_map f ss)
segments_cut old mid new f ss i d h p q =
    let rest : List ℕ = flat_map f (drop (suc i) ss) in
    let cut : IsCut old new (flat_map f (take (suc i) ss)) = cut_equal _ _ _ _ (sym (flat_taken f ss i d h)) (cut_second old mid new (flat_map f (take i ss)) (f (get_or ss i d)) p q) in
    cut_equal _ _ _ _ (sym (flat_all f ss (suc i))) (cut_first old new (flat_map f (take (suc i) ss)) rest cut)
