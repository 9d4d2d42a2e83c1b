-- A place that a register is read or written at is again the place of its register.
use Rattle.std.specs.Prelude.{◌≡◌, ◌≢◌, ℕ}
use Rattle.std.proofs.Common.{arith}
use Rattle.std.proofs.lemmas.Bool.Decides.{nat_tests}
use Rattle.core_regs.specs.Places.{source_place, source_register, target_place, target_register}

pub source_again : (p : ℕ) → p ≢ 31 → source_place (source_register p) ≡ p
source_again p h = grind (arith, nat_tests)

pub target_again : (p : ℕ) → p ≢ 31 → target_place (target_register p) ≡ p
target_again p h = grind (arith, nat_tests)
