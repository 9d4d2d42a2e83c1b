-- What a load of an access answers, and what a store leaves.
use Rattle.std.specs.Prelude.{ℕ, Option, Some, None, Result, Ok, Err}
use Rattle.emu_model.specs.declared.access.Denied.{Denied}
use Rattle.emu_model.specs.declared.access.Kind.{Kind}
use Rattle.emu_model.specs.declared.access.Kind.TheVariants.{Write}
use Rattle.emu_model.specs.Access.{Memory, refused, value, stored}

-- an access is done where no byte of it is refused
abbrev pub done_unless : {A : Type 0} → Option ℕ → Kind → A → Result A Denied
done_unless None kind x = Ok x
done_unless (Some a) kind x = Err (record { address = a; kind = kind })

-- what a load of n bytes answers
abbrev pub loaded : Memory → ℕ → ℕ → Kind → Result ℕ Denied
loaded m a n kind = done_unless (refused m a n kind) kind (value m a n)

-- the memory after a store, which a refusal leaves as it was
abbrev pub kept_if : {A : Type 0} → Option ℕ → A → A → A
kept_if None new old = new
kept_if (Some a) new old = old

abbrev pub after_store : Memory → ℕ → ℕ → ℕ → Memory
after_store m a n v = kept_if (refused m a n Write) (stored m a n v) m
