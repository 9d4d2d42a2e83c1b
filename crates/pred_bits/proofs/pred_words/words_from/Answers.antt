use Rattle.std.proofs.Common.{◌≡◌, ◌<◌, ℕ, Bool, true, [], ◌∷◌, if◌then◌else◌, nat_eq, nat_lt, get_or, bit_and, refl, sym, ap, arith}
use Rattle.std.proofs.lemmas.Bool.{lt-ltb}
use Rattle.pred_bits.proofs.WordMasks.{each_of_four}
use Rattle.pred_bits.proofs.pred_words.words_from.Goals as goal

pub returns-in-0-clause-words : goal.returns-in-0-clause-words
returns-in-0-clause-words c = rw c.in-0.is
    (each_of_four (λ i. get_or (bit_and (get_or c.args.words.now 0 0) c.args.mask ∷ get_or c.args.words.now 1 0 ∷ get_or c.args.words.now 2 0 ∷ get_or c.args.words.now 3 0 ∷ []) i 0
    ≡ (if nat_lt i 0 then 0 else if nat_eq i 0 then bit_and (get_or c.args.words.now i 0) c.args.mask else get_or c.args.words.now i 0)) refl refl refl refl)

pub returns-in-1-clause-words : goal.returns-in-1-clause-words
returns-in-1-clause-words c = rw c.in-1.is
    (each_of_four (λ i. get_or (0 ∷ bit_and (get_or c.args.words.now 1 0) c.args.mask ∷ get_or c.args.words.now 2 0 ∷ get_or c.args.words.now 3 0 ∷ []) i 0
    ≡ (if nat_lt i 1 then 0 else if nat_eq i 1 then bit_and (get_or c.args.words.now i 0) c.args.mask else get_or c.args.words.now i 0)) refl refl refl refl)

pub returns-in-2-clause-words : goal.returns-in-2-clause-words
returns-in-2-clause-words c = rw c.in-2.is
    (each_of_four (λ i. get_or (0 ∷ 0 ∷ bit_and (get_or c.args.words.now 2 0) c.args.mask ∷ get_or c.args.words.now 3 0 ∷ []) i 0
    ≡ (if nat_lt i 2 then 0 else if nat_eq i 2 then bit_and (get_or c.args.words.now i 0) c.args.mask else get_or c.args.words.now i 0)) refl refl refl refl)

pub returns-in-3-clause-words : goal.returns-in-3-clause-words
returns-in-3-clause-words c = rw c.in-3.is
    (each_of_four (λ i. get_or (0 ∷ 0 ∷ 0 ∷ bit_and (get_or c.args.words.now 3 0) c.args.mask ∷ []) i 0
    ≡ (if nat_lt i 3 then 0 else if nat_eq i 3 then bit_and (get_or c.args.words.now i 0) c.args.mask else get_or c.args.words.now i 0)) refl refl refl refl)

pub returns-in_default-clause-words : goal.returns-in_default-clause-words
returns-in_default-clause-words c =
    let least : (i : ℕ) → i < 4 → nat_lt i c.args.k ≡ true = λ i h. lt-ltb i c.args.k (omega arith) in
    let pick : ℕ → Bool → ℕ = λ i t. if t then 0 else if nat_eq i c.args.k then bit_and (get_or c.args.words.now i 0) c.args.mask else get_or c.args.words.now i 0 in
    each_of_four (λ i. get_or (0 ∷ 0 ∷ 0 ∷ 0 ∷ []) i 0
    ≡ (if nat_lt i c.args.k then 0 else if nat_eq i c.args.k then bit_and (get_or c.args.words.now i 0) c.args.mask else get_or c.args.words.now i 0))
    (sym (ap (pick 0) (least 0 (omega arith)))) (sym (ap (pick 1) (least 1 (omega arith)))) (sym (ap (pick 2) (least 2 (omega arith)))) (sym (ap (pick 3) (least 3 (omega arith))))
