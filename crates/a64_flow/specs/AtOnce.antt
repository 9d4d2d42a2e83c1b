-- Loads and stores of general registers at an address from a base, and what is left of an operation that may be done at
-- once.
use Rattle.std.specs.Prelude.{◌≡◌, ℕ, ◌+◌, ◌*◌, ◌^◌, List, [], Option, Some, None, false, nat_eq, ℤ}
use Rattle.emu_model.specs.declared.access.Access.{Access}
use Rattle.emu_model.specs.declared.trap.Effect.{Effect}
use Rattle.emu_model.specs.Access.{Memory, address}
use Rattle.emu_model.specs.State.{Core, Vectors, read_x_sp}
use Rattle.a64_effects.specs.Effects.{performed_by}
use Rattle.a64_effects.specs.Flow.{moved_address}
use Rattle.a64_effects.specs.LoadStore.{Transferring, unchanged, written_back}
use Rattle.a64_effects.specs.Operations.{Operation, transfers}
use Rattle.a64_effects.specs.declared.transfer.Transfer.{Transfer}

abbrev pub general : Transfer → List ℕ → ℕ → ℕ → ℕ → (Core → Core) → Transferring
general t registers base a n behind = record {
  transfer = t;
  registers = registers;
  address = a;
  bytes = n;
  tests_sp = nat_eq base 31;
  is_aligned = false;
  behind = behind;
}

-- so many bytes from a base
abbrev pub general_offset : Transfer → List ℕ → ℕ → ℤ → ℕ → Operation
general_offset t rs base by n = transfers (λ c. general t rs base (moved_address (read_x_sp c base) by) n unchanged)

-- a number from a base, moved left
abbrev pub general_index : Transfer → List ℕ → ℕ → ℕ → ℕ → ℕ → Operation
general_index t rs base index k n = transfers (λ c. general t rs base (address (read_x_sp c base + index * 2 ^ k)) n unchanged)

-- the base itself, which is then so many bytes on
abbrev pub general_post : Transfer → List ℕ → ℕ → ℤ → ℕ → Operation
general_post t rs base by n = transfers (λ c.
    general t rs base (read_x_sp c base) n (written_back base (moved_address (read_x_sp c base) by)))

-- so many bytes from a base, which is then there
abbrev pub general_pre : Transfer → List ℕ → ℕ → ℤ → ℕ → Operation
general_pre t rs base by n = transfers (λ c.
    general t rs base (moved_address (read_x_sp c base) by) n (written_back base (moved_address (read_x_sp c base) by)))

-- What is left of an operation that answers its effect where it was done, and else changed nothing.
abbrev pub IsDone : Operation → Option Effect → Core → Core → Memory → Memory → List Access → Type 0
IsDone o None c d m n l = (d ≡ c) × ((n ≡ m) × (l ≡ []))
IsDone o (Some effect) c d m n l = (w : Vectors) → performed_by o c w m
    ≡ record { core = d; vectors = w; memory = n; accesses = l; effect = effect }
