-- Pieces that are appended to a text that was empty.
use Rattle.std.proofs.Common.{◌≡◌, ℕ, List, [], ◌++◌, ap, ◌∙◌}

pub four_pieces : (first t1 t2 t3 t4 a b c d : List ℕ) → first ≡ [] → t1 ≡ first ++ a → t2 ≡ t1 ++ b → t3 ≡ t2 ++ c → t4 ≡ t3 ++ d → t4 ≡ ((a ++ b) ++ c) ++ d
four_pieces first t1 t2 t3 t4 a b c d p0 p1 p2 p3 p4 =
    let p : t1 ≡ a = p1 ∙ ap (λ (xs : List ℕ). xs ++ a) p0 in cc

pub six_pieces : (first t1 t2 t3 t4 t5 t6 a b c d e f : List ℕ) → first ≡ [] → t1 ≡ first ++ a → t2 ≡ t1 ++ b → t3 ≡ t2 ++ c → t4 ≡ t3 ++ d → t5 ≡ t4 ++ e → t6 ≡ t5 ++ f
    → t6 ≡ ((((a ++ b) ++ c) ++ d) ++ e) ++ f
six_pieces first t1 t2 t3 t4 t5 t6 a b c d e f p0 p1 p2 p3 p4 p5 p6 =
    let p : t1 ≡ a = p1 ∙ ap (λ (xs : List ℕ). xs ++ a) p0 in cc

pub seven_pieces : (first t1 t2 t3 t4 t5 t6 t7 a b c d e f g : List ℕ) → first ≡ [] → t1 ≡ first ++ a → t2 ≡ t1 ++ b → t3 ≡ t2 ++ c → t4 ≡ t3 ++ d → t5 ≡ t4 ++ e → t6 ≡ t5 ++ f
    → t7 ≡ t6 ++ g → t7 ≡ (((((a ++ b) ++ c) ++ d) ++ e) ++ f) ++ g
seven_pieces first t1 t2 t3 t4 t5 t6 t7 a b c d e f g p0 p1 p2 p3 p4 p5 p6 p7 =
    let p : t1 ≡ a = p1 ∙ ap (λ (xs : List ℕ). xs ++ a) p0 in cc

pub two_pieces : (first t1 t2 a b : List ℕ) → first ≡ [] → t1 ≡ first ++ a → t2 ≡ t1 ++ b → t2 ≡ a ++ b
two_pieces first t1 t2 a b p0 p1 p2 =
    let p : t1 ≡ a = p1 ∙ ap (λ (xs : List ℕ). xs ++ a) p0 in cc
