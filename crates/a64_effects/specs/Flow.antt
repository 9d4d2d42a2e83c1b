-- Branches, exceptions, and the system's instructions. From the Arm Architecture Reference Manual for A-profile
-- (DDI 0487), C6.2 'Alphabetical list of A64 base instructions': the operations of the entries of branches, exceptions
-- (SVC, BRK, HLT), MRS, MSR and barriers, with NZCV, TPIDR_EL0 and DCZID_EL0 as the manual describes these registers.
-- That DC ZVA isn't allowed, that accesses are in order, and that an exception is a trap or a call of Linux is this
-- project's own choice.
use Rattle.std.specs.Prelude.{ℕ, ◌+◌, ◌*◌, ◌/◌, ◌%◌, ◌^◌, Bool, not, None, nat_eq, if◌then◌else◌, ℤ, pos, ◌+ℤ◌, ◌*ℤ◌}
use Rattle.a64_insn.specs.declared.ops.BranchOp.{BranchOp}
use Rattle.a64_insn.specs.declared.ops.BranchOp.TheVariants.{B, Bl}
use Rattle.a64_insn.specs.declared.ops.CompareOp.{CompareOp}
use Rattle.a64_insn.specs.declared.ops.CompareOp.TheVariants.{Cbz, Cbnz}
use Rattle.a64_insn.specs.declared.ops.TestOp.{TestOp}
use Rattle.a64_insn.specs.declared.ops.TestOp.TheVariants.{Tbz, Tbnz}
use Rattle.a64_insn.specs.declared.ops.BranchRegOp.{BranchRegOp}
use Rattle.a64_insn.specs.declared.ops.BranchRegOp.TheVariants.{Br, Blr, Ret}
use Rattle.a64_insn.specs.declared.ops.ExceptOp.{ExceptOp}
use Rattle.a64_insn.specs.declared.ops.ExceptOp.TheVariants.{Svc, Brk, Hlt}
use Rattle.a64_insn.specs.declared.ops.BarrierOp.{BarrierOp}
use Rattle.a64_insn.specs.declared.ops.BarrierOp.TheVariants.{Clrex, Dsb, Dmb, Isb}
use Rattle.a64_insn.specs.declared.ops.ReadSysOp.{ReadSysOp}
use Rattle.a64_insn.specs.declared.ops.ReadSysOp.TheVariants.{Tpidr, Nzcv, Dczid}
use Rattle.a64_insn.specs.declared.ops.WriteSysOp.{WriteSysOp}
use Rattle.a64_insn.specs.declared.ops.WriteSysOp.TheVariants.{Tpidr as WriteTpidr, Nzcv as WriteNzcv}
use Rattle.emu_bits.specs.Fields.{bit}
use Rattle.emu_bits.specs.Flags.{flags_of_number}
use Rattle.emu_bits.specs.Numbers.{signed, unsigned_int}
use Rattle.emu_bits.specs.declared.flags.Flags.{Flags}
use Rattle.emu_model.specs.declared.trap.TrapKind.TheVariants.{Break, Halt}
use Rattle.emu_model.specs.declared.trap.Effect.{Effect}
use Rattle.emu_model.specs.declared.trap.Effect.TheVariants.{Next, Branch, Call, Trap}
use Rattle.emu_model.specs.Access.{address}
use Rattle.emu_model.specs.State.{Core, with_x}

-- ---- targets

-- an address moved by a whole number
abbrev pub moved_address : ℕ → ℤ → ℕ
moved_address a i = unsigned_int (pos a +ℤ i) 64

-- PC plus four times a signed field of n bits
abbrev pub branch_target : Core → ℕ → ℕ → ℕ
branch_target c n imm = moved_address c.pc (pos 4 *ℤ signed imm n)

-- the instruction behind this one
abbrev pub return_address : Core → ℕ
return_address c = address (c.pc + 4)

-- x30 keeps it where the branch links
abbrev pub linked : Core → Core
linked c = with_x c 30 64 (return_address c)

abbrev pub after_branch : BranchOp → Core → Core
after_branch B c = c
after_branch Bl c = linked c

abbrev pub after_branch_to : BranchRegOp → Core → Core
after_branch_to Br c = c
after_branch_to Blr c = linked c
after_branch_to Ret c = c

abbrev pub branches_if : Bool → ℕ → Effect
branches_if taken a = if taken then Branch a else Next

-- ---- the conditions of branches

abbrev pub is_taken : CompareOp → ℕ → Bool
is_taken Cbz x = nat_eq x 0
is_taken Cbnz x = not (nat_eq x 0)

-- the number of the bit that is tested: b5:b40
abbrev pub tested_bit : Bool → ℕ → ℕ
tested_bit b5 b40 = 32 * bit b5 + b40

-- the digit of place k in base 2
abbrev pub digit : ℕ → ℕ → ℕ
digit x k = x / 2 ^ k % 2

abbrev pub is_taken_by : TestOp → ℕ → Bool
is_taken_by Tbz d = nat_eq d 0
is_taken_by Tbnz d = nat_eq d 1

-- ---- system registers

-- the flags as a number at bits 31 to 28, N first
abbrev pub number_of_flags : Flags → ℕ
number_of_flags f = bit f.n * 2 ^ 31 + bit f.z * 2 ^ 30 + bit f.c * 2 ^ 29 + bit f.v * 2 ^ 28

-- TPIDR_EL0, NZCV, and DCZID_EL0, which is 16: DC ZVA isn't allowed
abbrev pub system_value : ReadSysOp → Core → ℕ
system_value Tpidr c = c.tpidr
system_value Nzcv c = number_of_flags c.flags
system_value Dczid c = 16

abbrev pub with_system_value : WriteSysOp → ℕ → Core → Core
with_system_value WriteTpidr x c = record c { tpidr = x }
with_system_value WriteNzcv x c = record c { flags = flags_of_number (x / 2 ^ 28 % 16) }

-- ---- exceptions and barriers

-- svc asks for a system call; the others trap at their own address
abbrev pub excepted : ExceptOp → ℕ → Effect
excepted Svc a = Call
excepted Brk a = Trap (record { kind = Break; address = a })
excepted Hlt a = Trap (record { kind = Halt; address = a })

-- clrex empties the exclusive monitor; accesses are in order anyway, so the barriers do nothing
abbrev pub after_barrier : BarrierOp → Core → Core
after_barrier Clrex c = record c { monitor = None }
after_barrier Dsb c = c
after_barrier Dmb c = c
after_barrier Isb c = c
