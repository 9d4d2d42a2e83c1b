-- How fields that may give a value are found: private functions alone cite this.
use Rattle.std.specs.Prelude.{ℕ, zero, suc, ◌+◌, ◌-◌, ◌*◌, ◌/◌, ◌%◌, ◌^◌, ◌==◌, cond}
use Rattle.std.specs.Int.{trailing_zeros, trailing_ones, w64}

-- a part of a number that it repeats: 2^log bits
pub record Part : Type 0 where
  pub log : ℕ
  pub bits : ℕ

-- the least part of x, from 2^h bits down
abbrev pub shrunk : ℕ → ℕ → Part
shrunk zero x = record { log = 0; bits = x }
shrunk (suc zero) x = record { log = 1; bits = x }
shrunk (suc (suc k)) x = cond (x / 2 ^ 2 ^ suc k == x % 2 ^ 2 ^ suc k) (shrunk (suc k) (x % 2 ^ 2 ^ suc k)) (record { log = suc (suc k); bits = x })

abbrev pub first_log : ℕ → ℕ
first_log width = cond (width == 64) 6 5

abbrev pub run_start : ℕ → ℕ
run_start x = trailing_zeros w64 x % 64

abbrev pub run_length : ℕ → ℕ
run_length x = trailing_ones w64 (x / 2 ^ run_start x)

abbrev pub others : Part → ℕ
others m = (2 ^ 64 - 1) / 2 ^ (64 - 2 ^ m.log) - m.bits

abbrev pub guess_n : Part → ℕ
guess_n m = cond (m.log == 6) 1 0

abbrev pub guess_immr : Part → ℕ
guess_immr m = cond (m.bits % 2 == 0) (2 ^ m.log - run_start m.bits) (2 ^ m.log - (run_start (others m) + run_length (others m))) % 64

abbrev pub guess_ones : Part → ℕ
guess_ones m = cond (m.bits % 2 == 0) (run_length m.bits) (2 ^ m.log - run_length (others m))

abbrev pub guess_imms : Part → ℕ
guess_imms m = (64 - 2 * 2 ^ m.log + (guess_ones m - 1)) % 64
