-- Branches, exceptions and the system's instructions keep the registers sound, and go on at words.
use Rattle.std.specs.Prelude.{ℕ, ◌/◌, ◌%◌, ◌^◌, Bool, true, false, None, nat_eq, get_or, if◌then◌else◌, ℤ, pos, negsuc, ◌+ℤ◌}
use Rattle.std.proofs.Common.{arith}
use Rattle.a64_insn.specs.declared.ops.BranchOp.{BranchOp}
use Rattle.a64_insn.specs.declared.ops.BranchOp.TheVariants.{B, Bl}
use Rattle.a64_insn.specs.declared.ops.BranchRegOp.{BranchRegOp}
use Rattle.a64_insn.specs.declared.ops.BranchRegOp.TheVariants.{Br, Blr, Ret}
use Rattle.a64_insn.specs.declared.ops.ExceptOp.{ExceptOp}
use Rattle.a64_insn.specs.declared.ops.ExceptOp.TheVariants.{Svc, Brk, Hlt}
use Rattle.a64_insn.specs.declared.ops.BarrierOp.{BarrierOp}
use Rattle.a64_insn.specs.declared.ops.BarrierOp.TheVariants.{Clrex, Dsb, Dmb, Isb}
use Rattle.a64_insn.specs.declared.ops.WriteSysOp.{WriteSysOp}
use Rattle.a64_insn.specs.declared.ops.WriteSysOp.TheVariants.{Tpidr, Nzcv}
use Rattle.emu_bits.specs.Flags.{flags_of_number}
use Rattle.emu_bits.specs.Numbers.{unsigned_int}
use Rattle.emu_model.specs.Sound.{with_x_sound, flags_sound, monitor_sound, low_is_word}
use Rattle.emu_model.specs.SoundLists.{all_read}
use Rattle.emu_model.specs.State.{Core, read_x, read_x_sp}
use Rattle.emu_model.specs.SoundState.{IsWord, IsSoundCore}
use Rattle.a64_effects.specs.Flow.{moved_address, return_address, linked, after_branch, after_branch_to, branches_if, with_system_value, excepted, after_barrier}
use Rattle.emu_model.specs.SoundDone.{IsSoundEffect}

-- ---- words

reduced_is_word : (z : ℤ) → IsWord (unsigned_int z 64)
reduced_is_word (pos n) = low_is_word n 64 (omega arith)
reduced_is_word (negsuc n) = omega arith

pub offset_is_word : (a : ℕ) (i : ℤ) → IsWord (moved_address a i)
offset_is_word a i = reduced_is_word (pos a +ℤ i)

pub read_x_is_word : (c : Core) (r : ℕ) → IsSoundCore c → IsWord (read_x c r)
read_x_is_word c r s = elim (nat_eq r 31) as (λ b. IsWord (if b then 0 else get_or c.x r 0)) [
  | true ↦ omega arith
  | false ↦ all_read IsWord c.x r 0 (omega arith) s.x
]

pub read_x_sp_is_word : (c : Core) (r : ℕ) → IsSoundCore c → IsWord (read_x_sp c r)
read_x_sp_is_word c r s = elim (nat_eq r 31) as (λ b. IsWord (if b then c.sp else get_or c.x r 0)) [
  | true ↦ s.sp
  | false ↦ all_read IsWord c.x r 0 (omega arith) s.x
]

-- ---- registers

linked_sound : (c : Core) → IsSoundCore c → IsSoundCore (linked c)
linked_sound c s = with_x_sound c 30 64 (return_address c) (omega arith) s

pub barrier_sound : (op : BarrierOp) (c : Core) → IsSoundCore c → IsSoundCore (after_barrier op c)
barrier_sound Clrex c s = monitor_sound c None tt s
barrier_sound Dsb c s = s
barrier_sound Dmb c s = s
barrier_sound Isb c s = s

pub system_sound : (op : WriteSysOp) (v : ℕ) (c : Core) → IsWord v → IsSoundCore c → IsSoundCore (with_system_value op v c)
system_sound Tpidr v c w s = record { count = s.count; x = s.x; sp = s.sp; pc = s.pc; tpidr = w; monitor = s.monitor }
system_sound Nzcv v c w s = flags_sound c (flags_of_number (v / 2 ^ 28 % 16)) s

pub branch_sound : (op : BranchOp) (c : Core) → IsSoundCore c → IsSoundCore (after_branch op c)
branch_sound B c s = s
branch_sound Bl c s = linked_sound c s

pub branch_to_sound : (op : BranchRegOp) (c : Core) → IsSoundCore c → IsSoundCore (after_branch_to op c)
branch_to_sound Br c s = s
branch_to_sound Blr c s = linked_sound c s
branch_to_sound Ret c s = s

-- ---- effects

pub branches_if_sound : (taken : Bool) (a : ℕ) → IsWord a → IsSoundEffect (branches_if taken a)
branches_if_sound true a w = w
branches_if_sound false a w = tt

pub excepted_sound : (op : ExceptOp) (a : ℕ) → IsWord a → IsSoundEffect (excepted op a)
excepted_sound Svc a w = tt
excepted_sound Brk a w = w
excepted_sound Hlt a w = w
