-- How often a run stands in a word.
use Rattle.std.specs.Prelude.{ℕ, zero, suc, ◌+◌, ◌/◌, Bool, nat_eq, if◌then◌else◌}
use Rattle.emu_model.specs.State.{State}
use Rattle.emu_run.specs.Run.{until_end}

-- the program counter stands in word number `word`, which has the four bytes from address 4 * word on: at its first
-- byte, where it is a multiple of 4, as it is before each step that is counted
abbrev pub stands_in : ℕ → State → Bool
stands_in word st = nat_eq word (st.parts.core.pc / 4)

-- of how many k below n the state behind k steps stands in a word
unfoldable pub visits : ℕ → State → ℕ → ℕ
visits word st zero = 0
visits word st (suc n) = if stands_in word (until_end st n) then visits word st n + 1 else visits word st n
