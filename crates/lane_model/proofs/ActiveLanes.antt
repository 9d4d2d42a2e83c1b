-- Active lanes, taken one after the other.
use Rattle.std.proofs.Common.{◌≡◌, ◌≤◌, ◌+◌, ℕ, zero, suc, Bool, true, false, if◌then◌else◌, List, [], ◌∷◌, ◌++◌, length, refl, arith, add-one, length-append}
use Rattle.lane_model.specs.FirstLast.{if_meets, first_where, last_where}
use Rattle.std.specs.Option.{option_or}
use Rattle.lane_model.specs.Permute.{active_lanes}

-- one lane more
pub active_lanes-more : (active : ℕ → Bool) (n : ℕ) → active_lanes active (n + 1) ≡ active_lanes active n ++ (if active n then n ∷ [] else [])
active_lanes-more active n = rw add-one refl

pub first_where-more : (n : ℕ) (test : ℕ → Bool) → first_where (n + 1) test ≡ option_or (first_where n test) (if_meets test n)
first_where-more n test = rw add-one refl

pub last_where-more : (n : ℕ) (test : ℕ → Bool) → last_where (n + 1) test ≡ option_or (if_meets test n) (last_where n test)
last_where-more n test = rw add-one refl

-- the active lanes are at most n, and each is below n
count_here : (b : Bool) (n : ℕ) (xs : List ℕ) → length xs ≤ n → length (xs ++ (if b then n ∷ [] else [])) ≤ n + 1
count_here true n xs h = omega (arith, length-append xs (n ∷ []))
count_here false n xs h = let none : List ℕ = [] in omega (arith, length-append xs none)

pub active_count : (active : ℕ → Bool) (n : ℕ) → length (active_lanes active n) ≤ n
active_count active zero = omega arith
active_count active (suc n) = let h : length (active_lanes active n ++ (if active n then n ∷ [] else [])) ≤ n + 1 = count_here (active n) n (active_lanes active n) (active_count active n) in omega arith

pub ruleset active_rules = (active_lanes-more, first_where-more, last_where-more)
