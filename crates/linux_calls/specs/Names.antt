-- The numbers of the calls that move bytes, and what says that one was made.
use Rattle.std.specs.Prelude.{◌≡◌, ◌⊎◌, ℕ, Bool, true, false}
use Rattle.emu_model.specs.State.{Core}
use Rattle.emu_system.specs.declared.system_call.CallName.{CallName}
use Rattle.emu_system.specs.declared.system_call.CallName.TheVariants.{Read, Write, Readv, Writev, Exit, ExitGroup, Prctl}
use Rattle.emu_system.specs.SystemCall.{file_of, number_of_call}

-- a call that moves bytes has this number
abbrev pub HasNumber : CallName → ℕ → Type 0
HasNumber Read number = number ≡ 63
HasNumber Write number = number ≡ 64
HasNumber Readv number = number ≡ 65
HasNumber Writev number = number ≡ 66
HasNumber name number = Unit {0}

-- x8 and x0 name a read of the input
pub record NamesRead (c : Core) : Type 0 where
  pub call : (number_of_call c ≡ 63) ⊎ (number_of_call c ≡ 65)
  pub file : file_of c ≡ 0

-- x8 and x0 name a write to this file
pub record NamesWrite (c : Core) (file : ℕ) : Type 0 where
  pub call : (number_of_call c ≡ 64) ⊎ (number_of_call c ≡ 66)
  pub to : file_of c ≡ file

-- a call that moves no byte, sets no length and doesn't end the program
abbrev pub is_still : CallName → Bool
is_still Read = false
is_still Write = false
is_still Readv = false
is_still Writev = false
is_still Exit = false
is_still ExitGroup = false
is_still Prctl = false
is_still name = true
