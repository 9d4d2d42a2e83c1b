use Rattle.std.proofs.Common.{◌≡◌, ◌<◌, ℕ, Bool, true, [], ◌∷◌, if◌then◌else◌, nat_eq, nat_lt, get_or, refl, sym, ap, arith}
use Rattle.std.proofs.lemmas.Bool.{lt-ltb}
use Rattle.pred_bits.proofs.WordMasks.{each_of_four}
use Rattle.pred_bits.proofs.pred_words.run_of_words.Goals as goal

pub returns-in-0-clause-words : goal.returns-in-0-clause-words
returns-in-0-clause-words c = rw c.in-0.is
    (each_of_four (λ i. get_or (c.args.part ∷ 0 ∷ 0 ∷ 0 ∷ []) i 0 ≡ (if nat_lt i 0 then c.args.whole else if nat_eq i 0 then c.args.part else 0)) refl refl refl refl)

pub returns-in-1-clause-words : goal.returns-in-1-clause-words
returns-in-1-clause-words c = rw c.in-1.is
    (each_of_four (λ i. get_or (c.args.whole ∷ c.args.part ∷ 0 ∷ 0 ∷ []) i 0 ≡ (if nat_lt i 1 then c.args.whole else if nat_eq i 1 then c.args.part else 0)) refl refl refl refl)

pub returns-in-2-clause-words : goal.returns-in-2-clause-words
returns-in-2-clause-words c = rw c.in-2.is
    (each_of_four (λ i. get_or (c.args.whole ∷ c.args.whole ∷ c.args.part ∷ 0 ∷ []) i 0 ≡ (if nat_lt i 2 then c.args.whole else if nat_eq i 2 then c.args.part else 0)) refl refl refl refl)

pub returns-in-3-clause-words : goal.returns-in-3-clause-words
returns-in-3-clause-words c = rw c.in-3.is
    (each_of_four (λ i. get_or (c.args.whole ∷ c.args.whole ∷ c.args.whole ∷ c.args.part ∷ []) i 0 ≡ (if nat_lt i 3 then c.args.whole else if nat_eq i 3 then c.args.part else 0)) refl refl refl refl)

pub returns-in_default-clause-words : goal.returns-in_default-clause-words
returns-in_default-clause-words c =
    let most : 3 < c.args.count = omega arith in
    let least : (i : ℕ) → i < 4 → nat_lt i c.args.count ≡ true = λ i h. lt-ltb i c.args.count (omega arith) in
    let pick : ℕ → Bool → ℕ = λ i t. if t then c.args.whole else if nat_eq i c.args.count then c.args.part else 0 in
    each_of_four (λ i. get_or (c.args.whole ∷ c.args.whole ∷ c.args.whole ∷ c.args.whole ∷ []) i 0 ≡ (if nat_lt i c.args.count then c.args.whole else if nat_eq i c.args.count then c.args.part else 0))
    (sym (ap (pick 0) (least 0 (omega arith)))) (sym (ap (pick 1) (least 1 (omega arith)))) (sym (ap (pick 2) (least 2 (omega arith)))) (sym (ap (pick 3) (least 3 (omega arith))))
