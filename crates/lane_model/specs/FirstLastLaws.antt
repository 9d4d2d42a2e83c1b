-- What the first and the last place that meets a test are, for laws. It is this project's own.
use Rattle.std.specs.Prelude.{◌≡◌, ℕ, ◌<◌, Bool, true, false, Option, MatchOption}
use Rattle.std.specs.Option.{option_map_or}

-- it is below n and meets the test, and nothing before it does
pub record IsFirst (n : ℕ) (test : ℕ → Bool) (k : ℕ) : Type 0 where
  pub within : k < n
  pub meets : test k ≡ true
  pub before : (j : ℕ) → j < k → test j ≡ false

-- it is below n and meets the test, and nothing behind it does
pub record IsLast (n : ℕ) (test : ℕ → Bool) (k : ℕ) : Type 0 where
  pub within : k < n
  pub meets : test k ≡ true
  pub behind : (j : ℕ) → k < j → j < n → test j ≡ false

-- nothing below n meets the test
abbrev pub MeetsNowhere : ℕ → (ℕ → Bool) → Type 0
MeetsNowhere n test = (j : ℕ) → j < n → test j ≡ false

abbrev pub IsFirstWhere : ℕ → (ℕ → Bool) → Option ℕ → Type 0
IsFirstWhere n test found = MatchOption found (MeetsNowhere n test) (IsFirst n test)

abbrev pub IsLastWhere : ℕ → (ℕ → Bool) → Option ℕ → Type 0
IsLastWhere n test found = MatchOption found (MeetsNowhere n test) (IsLast n test)

-- the answer of a test at a place, and false where there is none
abbrev pub answer_at : Option ℕ → (ℕ → Bool) → Bool
answer_at place test = option_map_or test place false
