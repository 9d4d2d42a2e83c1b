-- What a load or store leaves, by how the function that does it ends.
use Rattle.std.specs.Prelude.{ℕ, if◌then◌else◌, List, Option, Some, None, Result, Ok, Err}
use Rattle.emu_model.specs.declared.access.Access.{Access}
use Rattle.emu_model.specs.declared.trap.Effect.{Effect}
use Rattle.emu_model.specs.declared.trap.Effect.TheVariants.{Next, Trap as Trapping}
use Rattle.emu_model.specs.declared.trap.Trap.{Trap}
use Rattle.a64_effects.specs.declared.transfer.Transfer.{Transfer}
use Rattle.a64_effects.specs.LoadStore.{is_vector, unchanged, written_back}
use Rattle.emu_model.specs.Access.{Memory}
use Rattle.emu_model.specs.State.{Core, Vectors}
use Rattle.emu_model.specs.Done.{Done}

-- goes on behind the instruction, or traps
abbrev pub effect_of : {A : Type 0} → Result A Trap → Effect
effect_of (Ok x) = Next
effect_of (Err trap) = Trapping trap

-- what comes after an access is done where the access was
abbrev pub followed : {A : Type 0} → Result A Trap → (Core → Core) → Core → Core
followed (Ok x) after c = after c
followed (Err trap) after c = c

-- the most bytes of an access: 16 of a vector register, 8 of a general register
abbrev pub greatest_of : Transfer → ℕ
greatest_of t = if is_vector t then 16 else 8

-- an access that ended so, with what comes after it
abbrev pub followed_by : {A : Type 0} → (Core → Core) → Result A Trap → Core → Vectors → Memory → List Access → Done
followed_by after r c v m accesses = record { core = followed r after c; vectors = v; memory = m; accesses = accesses; effect = effect_of r }

-- an access that ended so, and all that comes after it
abbrev pub ended : {A : Type 0} → Result A Trap → Core → Vectors → Memory → List Access → Done
ended r c v m accesses = record { core = c; vectors = v; memory = m; accesses = accesses; effect = effect_of r }

-- an access that no test refused, with what comes after it
abbrev pub done_with : (Core → Core) → Core → Vectors → Memory → List Access → Done
done_with after c v m accesses = record { core = after c; vectors = v; memory = m; accesses = accesses; effect = Next }

-- what comes behind an access: nothing, or an address is written back to the base
abbrev pub behind : ℕ → Option ℕ → Core → Core
behind rn None = unchanged
behind rn (Some a) = written_back rn a
