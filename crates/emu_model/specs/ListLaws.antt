-- Laws of lists that are given one by one.
use Rattle.std.specs.Prelude.{◌≡◌, ◌<◌, ℕ, ◌+◌, [], ◌∷◌, ◌++◌, length, get_or}
use Rattle.std.proofs.Common.{◌∙◌, arith}
use Rattle.std.proofs.lemmas.List.FromFn.{fill_by_all, get_or-map-range_with_len, length-map-range_with_len, map-range_with_len_more}
use Rattle.emu_model.specs.Lists.{each}

pub length-each : {A : Type 0} (n : ℕ) (f : ℕ → A) → length (each n f) ≡ n
length-each n f = length-map-range_with_len f 0 n

pub each-more : {A : Type 0} (n : ℕ) (f : ℕ → A) → each (n + 1) f ≡ each n f ++ (f n ∷ [])
each-more n f = map-range_with_len_more f 0 n n (omega arith)

pub get_or-each : {A : Type 0} (n : ℕ) (f : ℕ → A) (i : ℕ) (d : A) → i < n → get_or (each n f) i d ≡ f i
get_or-each n f i d h = get_or-map-range_with_len f 0 n i i d h (omega arith)

pub each_same : {A : Type 0} (n : ℕ) (f g : ℕ → A) (d : A) → ((j : ℕ) → j < n → f j ≡ g j) → each n f ≡ each n g
each_same n f g d h = fill_by_all g (each n f) n d (length-each n f) (λ k b. get_or-each n f k d b ∙ h k b)

pub ruleset each_rules = (length-each, each-more)
