-- Loads and stores of the same bytes as one step. From the Arm Architecture Reference Manual for A-profile (DDI 0487),
-- C6.2 'Alphabetical list of A64 base instructions': the operations of the entries LDADD, LDCLR, LDEOR, LDSET, LDSMAX,
-- LDSMIN, LDUMAX, LDUMIN, SWP and CAS, with the shared pseudocode MemAtomic and MemAtomicCompareAndSwap. That a refusal
-- of the load comes before one of the store is what ESR_EL1.WnR tells of such an instruction; that a comparison which
-- fails has to be allowed to write, too, is this project's own choice.
use Rattle.std.specs.Prelude.{ℕ, ◌+◌, ◌*◌, ◌%◌, ◌^◌, Bool, true, false, if◌then◌else◌, [], ◌∷◌, Option, Some, None, max, min, bit_and, bit_or, bit_xor, int_le}
use Rattle.a64_insn.specs.declared.ops.AtomicOp.{AtomicOp}
use Rattle.a64_insn.specs.declared.ops.AtomicOp.TheVariants.{Ldadd, Ldclr, Ldeor, Ldset, Ldsmax, Ldsmin, Ldumax, Ldumin, Swp}
use Rattle.emu_bits.specs.Numbers.{signed}
use Rattle.emu_bits.specs.Operations.{complement}
use Rattle.emu_model.specs.declared.access.Access.{Access}
use Rattle.emu_model.specs.declared.access.Kind.TheVariants.{Read as ReadKind, Write as WriteKind}
use Rattle.emu_model.specs.declared.trap.TrapKind.TheVariants.{Read, Write}
use Rattle.emu_model.specs.Access.{Memory, refused, stored, value}
use Rattle.emu_model.specs.State.{Core, Vectors, read_x}
use Rattle.emu_model.specs.Done.{Done, went_well, traps}

-- the low n bytes of a register
abbrev pub low_bytes : ℕ → Core → ℕ → ℕ
low_bytes n c r = read_x c r % 2 ^ (8 * n)

-- what n bytes with value o become by a register's x; of a number that has more bytes the lowest are stored
abbrev pub updated : AtomicOp → ℕ → ℕ → ℕ → ℕ
updated Ldadd n o x = o + x
updated Ldclr n o x = bit_and o (complement 64 x)
updated Ldeor n o x = bit_xor o x
updated Ldset n o x = bit_or o x
updated Ldsmax n o x = if int_le (signed o (8 * n)) (signed x (8 * n)) then x else o
updated Ldsmin n o x = if int_le (signed o (8 * n)) (signed x (8 * n)) then o else x
updated Ldumax n o x = max o x
updated Ldumin n o x = min o x
updated Swp n o x = x

-- the new value of a comparison: none where the old one isn't the expected
abbrev pub swapped : Bool → ℕ → Option ℕ
swapped is_expected x = if is_expected then Some x else None

abbrev pub read_at : ℕ → ℕ → Access
read_at a n = record { address = a; bytes = n; write = false }

abbrev pub written_at : ℕ → ℕ → Access
written_at a n = record { address = a; bytes = n; write = true }

-- the new value is stored, if there is one
abbrev pub exchanged : ℕ → ℕ → Option ℕ → Core → Vectors → Memory → Done
exchanged a n None c v m = record (went_well c v m) { accesses = read_at a n ∷ [] }
exchanged a n (Some x) c v m =
    record (went_well c v (stored m a n x)) { accesses = read_at a n ∷ written_at a n ∷ [] }

-- the bytes have to be readable, and then writable, whether or not they are written
abbrev pub unless_refused : Option ℕ → Option ℕ → Core → Vectors → Memory → Done → Done
unless_refused (Some a) written c v m d = traps c v m Read a
unless_refused None (Some a) c v m d = traps c v m Write a
unless_refused None None c v m d = d

-- n bytes at an address with their new value, if they get one, and the registers, both by the old value
abbrev pub one_step : ℕ → ℕ → (ℕ → Option ℕ) → (ℕ → Core) → Core → Vectors → Memory → Done
one_step a n new after c v m =
    unless_refused (refused m a n ReadKind) (refused m a n WriteKind) c v m
    (exchanged a n (new (value m a n)) (after (value m a n)) v m)
