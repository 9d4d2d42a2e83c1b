-- Bytes that a source lost, by one call after the other.
use Rattle.std.proofs.Common.{◌≡◌, ◌≤◌, ℕ, List, [], ◌++◌, length, take, drop, Option, Some, None, IfSome, sym, ap, subst, ◌∙◌, append_assoc, append-nil}
use Rattle.std.proofs.lemmas.List.{take-append-drop}
use Rattle.std.specs.Io.KnownBytes.{Consumes}

told : (left xs bytes : List ℕ) (now : Option (List ℕ)) → now ≡ Some xs → left ≡ bytes ++ xs → Consumes (Some left) now bytes
told left xs bytes now is e = subst (λ (o : Option (List ℕ)). Consumes (Some left) o bytes) (sym is) e

-- a call that gave n bytes
given : (old new : Option (List ℕ)) (into : List ℕ) (n : ℕ) → IfSome old (λ left. (n ≤ length left) × (new ≡ Some (drop n left)) × (take n into ≡ take n left)) → Consumes old new (take n into)
given None new into n h = tt
given (Some left) new into n h = told left (drop n left) (take n into) new h.1 (sym (take-append-drop n left) ∙ ap (λ (bs : List ℕ). bs ++ drop n left) (sym h.2))

joined : (a b c xs ys : List ℕ) → a ≡ xs ++ b → b ≡ ys ++ c → a ≡ (xs ++ ys) ++ c
joined a b c xs ys e f = e ∙ ap (λ (bs : List ℕ). xs ++ bs) f ∙ sym (append_assoc xs ys c)

more : (a b c : Option (List ℕ)) (xs ys : List ℕ) → Consumes a b xs → Consumes b c ys → Consumes a c (xs ++ ys)
more None b c xs ys h k = tt
more (Some a) None c xs ys h k = absurd h
more (Some a) (Some b) None xs ys h k = absurd k
more (Some a) (Some b) (Some c) xs ys h k = joined a b c xs ys h k

lost : (P : ℕ → Type 0) (old new : Option (List ℕ)) (bytes : List ℕ) → Consumes old new bytes → P (length bytes) → IfSome old (λ left. (bytes : List ℕ) × (Consumes (Some left) new bytes) × P (length bytes))
lost P None new bytes h p = tt
lost P (Some left) new bytes h p = (bytes, h, p)

-- the bytes so far, and those of one more call
pub lost_more : (P : ℕ → Type 0) (old mid new : Option (List ℕ)) (bytes into : List ℕ) (n : ℕ) → Consumes old mid bytes → IfSome mid (λ left. (n ≤ length left) × (new ≡ Some (drop n left)) × (take n into ≡ take n left)) → P (length (bytes ++ take n into))
    → IfSome old (λ left. (bytes : List ℕ) × (Consumes (Some left) new bytes) × P (length bytes))
lost_more P old mid new bytes into n h k p = lost P old new (bytes ++ take n into) (more old mid new bytes (take n into) h (given mid new into n k)) p

-- a call that gave none ends them
pub all_taken : (old mid new : Option (List ℕ)) (bytes into : List ℕ) (n : ℕ) → n ≡ 0 → Consumes old mid bytes → IfSome mid (λ left. (n ≤ length left) × (new ≡ Some (drop n left)) × (take n into ≡ take n left)) → IfSome mid (λ left. n ≡ 0 → left ≡ []) → IfSome old (λ left. (bytes ≡ left) × (new ≡ Some []))
all_taken None mid new bytes into n z h k e = tt
all_taken (Some left) None new bytes into n z h k e = absurd h
all_taken (Some left) (Some xs) new bytes into n z h k e =
    let none : xs ≡ [] = e z in
    let rest : drop n xs ≡ [] = ap (λ i. drop i xs) z ∙ none in
    (sym (h ∙ ap (λ (bs : List ℕ). bytes ++ bs) none ∙ append-nil bytes), k.1 ∙ ap (λ (bs : List ℕ). Some bs) rest)
