-- Pieces that are appended to a text one after the other.
use Rattle.std.proofs.Common.{◌≡◌, ℕ, List, ◌++◌, ap, ◌∙◌, append_assoc}

-- a, and then b
pub appended_both : (old mid new a b : List ℕ) → mid ≡ old ++ a → new ≡ mid ++ b → new ≡ old ++ (a ++ b)
appended_both old mid new a b p q = q ∙ ap (λ (xs : List ℕ). xs ++ b) p ∙ append_assoc old a b

-- six, one after the other
pub appended_six : (old t1 t2 t3 t4 t5 new a b c d e f : List ℕ) → t1 ≡ old ++ a → t2 ≡ t1 ++ b → t3 ≡ t2 ++ c → t4 ≡ t3 ++ d → t5 ≡ t4 ++ e → new ≡ t5 ++ f
    → new ≡ old ++ (((((a ++ b) ++ c) ++ d) ++ e) ++ f)
appended_six old t1 t2 t3 t4 t5 new a b c d e f p1 p2 p3 p4 p5 p6 =
    appended_both old t5 new ((((a ++ b) ++ c) ++ d) ++ e) f
    (appended_both old t4 t5 (((a ++ b) ++ c) ++ d) e (appended_both old t3 t4 ((a ++ b) ++ c) d (appended_both old t2 t3 (a ++ b) c (appended_both old t1 t2 a b p1 p2) p3) p4) p5) p6
