-- Lanes by the lowest bits of their fields, flags, and the numbers of a loop: private functions alone cite this.
use Rattle.std.specs.Prelude.{ℕ, ◌+◌, ◌-◌, ◌/◌, ◌^◌, Bool, true, false, not, ◌&&◌, nat_lt, Option, Some, None, is_none}
use Rattle.emu_bits.specs.Numbers.{unsigned}
use Rattle.emu_bits.specs.declared.flags.Flags.{Flags}
use Rattle.lane_model.specs.FirstLast.{first_where, last_where}
use Rattle.lane_model.specs.FirstLastLaws.{answer_at}
use Rattle.lane_model.specs.declared.predicates.WhileTest.{WhileTest}
use Rattle.lane_model.specs.declared.predicates.WhileTest.TheVariants.{Lt, Le, Lo, Ls}

-- a lane is one of n, and meets the test
abbrev pub among : ℕ → (ℕ → Bool) → ℕ → Bool
among n test k = nat_lt k n && test k

-- the lane of w bits in whose field a place is
abbrev pub lane_at : ℕ → Option ℕ → Option ℕ
lane_at w None = None
lane_at w (Some p) = Some (p / w)

-- the flags of a test of places below 256: of those that are on, and of those of them that are set
abbrev pub places_tested : (ℕ → Bool) → (ℕ → Bool) → Flags
places_tested on set = record { n = answer_at (first_where 256 on) set; z = is_none (first_where 256 set); c = not (answer_at (last_where 256 on) set); v = false }

-- ---- loops

-- the condition holds of equal numbers too
abbrev pub is_inclusive : WhileTest → Bool
is_inclusive Lt = false
is_inclusive Le = true
is_inclusive Lo = false
is_inclusive Ls = true

-- what is added to numbers of w bits, for their order as unsigned ones to be the order that the condition tests
abbrev pub offset : WhileTest → ℕ → ℕ
offset Lt w = 2 ^ (w - 1)
offset Le w = 2 ^ (w - 1)
offset Lo w = 0
offset Ls w = 0

-- a number of w bits by that order
abbrev pub rank : WhileTest → ℕ → ℕ → ℕ
rank test w x = unsigned (x + offset test w) w
