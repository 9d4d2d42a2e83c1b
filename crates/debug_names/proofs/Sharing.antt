-- How many first letters two words share, as a loop goes.
use Rattle.std.proofs.Common.{◌≡◌, ◌≢◌, ℕ, ◌+◌, ◌<◌, ◌≤◌, List, [], ◌∷◌, length, drop, drop-cons, get_or, nat_eq, if◌then◌else◌, add-one, refl, arith}
use Rattle.std.proofs.lemmas.Grind.{common_steps}
use Rattle.debug_names.specs.Verbs.{shared}

letter_at : (xs : List ℕ) (i : ℕ) → i < length xs → drop i xs ≡ get_or xs i 0 ∷ drop (i + 1) xs
letter_at xs i h = rw (add-one, drop-cons xs i 0)

shared-none : (word : List ℕ) → shared word [] ≡ 0
shared-none [] = refl
shared-none (a ∷ word) = refl

shared-same : (a b : ℕ) (word name : List ℕ) → a ≡ b → shared (a ∷ word) (b ∷ name) ≡ 1 + shared word name
shared-same a b word name same = grind (arith, common_steps)

shared-unlike : (a b : ℕ) (word name : List ℕ) → a ≢ b → shared (a ∷ word) (b ∷ name) ≡ 0
shared-unlike a b word name other = grind (arith, common_steps)

pub shared-more : (word name : List ℕ) (k : ℕ) → k < length word → k < length name
    → get_or word k 0 ≡ get_or name k 0 → shared (drop k word) (drop k name) ≡ 1 + shared (drop (k + 1) word) (drop (k + 1) name)
shared-more word name k in_word in_name same =
    rw (letter_at word k in_word, letter_at name k in_name) (shared-same _ _ (drop (k + 1) word) (drop (k + 1) name) same)

pub shared-other : (word name : List ℕ) (k : ℕ) → k < length word → k < length name
    → get_or word k 0 ≢ get_or name k 0 → shared (drop k word) (drop k name) ≡ 0
shared-other word name k in_word in_name other =
    rw (letter_at word k in_word, letter_at name k in_name) (shared-unlike _ _ (drop (k + 1) word) (drop (k + 1) name) other)

pub shared-short : (word name : List ℕ) (k : ℕ) → length name ≤ k → shared (drop k word) (drop k name) ≡ 0
shared-short word name k short = grind (arith, common_steps, shared-none)

pub shared-end : (word name : List ℕ) (k : ℕ) → length word ≤ k → shared (drop k word) (drop k name) ≡ 0
shared-end word name k short = grind (arith, common_steps)
