-- The first and the last of the places below n that meet a test. They are this project's own words for what the loops
-- of the Arm manual's pseudocode find, as LastActiveElement of J1 does.
use Rattle.std.specs.Prelude.{ℕ, zero, suc, ◌+◌, Bool, true, ◌&&◌, Option, Some, None, if◌then◌else◌}
use Rattle.std.specs.Option.{option_or}
use Rattle.emu_bits.specs.Fields.{bit}

-- ---- places

-- k, if it meets the test
abbrev pub if_meets : (ℕ → Bool) → ℕ → Option ℕ
if_meets test k = if test k then Some k else None

-- the least k below n that meets the test, or none
abbrev pub first_where : ℕ → (ℕ → Bool) → Option ℕ
first_where zero test = None
first_where (suc n) test = option_or (first_where n test) (if_meets test n)

-- the greatest number below n that meets a test
abbrev pub last_where : ℕ → (ℕ → Bool) → Option ℕ
last_where zero test = None
last_where (suc n) test = option_or (if_meets test n) (last_where n test)

-- each k below n meets the test
abbrev pub all_below : ℕ → (ℕ → Bool) → Bool
all_below zero test = true
all_below (suc n) test = all_below n test && test n

-- how many k below n do
abbrev pub count_where : ℕ → (ℕ → Bool) → ℕ
count_where zero test = 0
count_where (suc n) test = count_where n test + bit (test n)
