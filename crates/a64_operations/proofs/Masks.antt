-- A bitmask of 32 bits is a number of 32 bits.
use Rattle.std.proofs.Common.{ℕ, ◌+◌, ◌-◌, ◌*◌, ◌/◌, ◌%◌, ◌^◌, ◌<◌, ◌≤◌, Bool, true, false, Option, Some, None, cond, unwrap_or, arith}
use Rattle.std.proofs.Math.Nat.{pow-le-pow_right, div-mul-le_self}
use Rattle.std.proofs.lemmas.Nat.{mod_below, pow_pos}
use Rattle.emu_bits.specs.Bitmask.{bitmask_of, element, element_log, has_no_value, repeated, with_elements}
use Rattle.emu_bits.proofs.Elements.{repeated_below, rotated_below}

module _ (n immr imms : ℕ) where
  element_below : (h : ℕ) → element immr imms h < 2 ^ 2 ^ h
  element_below h =
      let some : 0 < 2 ^ h = pow_pos h in
      let ones : imms % 2 ^ h < 2 ^ h = mod_below imms (2 ^ h) some in
      let turns : immr % 2 ^ h < 2 ^ h = mod_below immr (2 ^ h) some in
      let power : 2 ^ (imms % 2 ^ h + 1) ≤ 2 ^ 2 ^ h = pow-le-pow_right {n = 2} (omega arith) {i = imms % 2 ^ h + 1} {j = 2 ^ h} (omega arith) in
      let positive : 0 < 2 ^ (imms % 2 ^ h + 1) = pow_pos (imms % 2 ^ h + 1) in
      rotated_below (2 ^ h) (2 ^ (imms % 2 ^ h + 1) - 1) (immr % 2 ^ h) (omega arith) (omega arith)

  within : (h : ℕ) → repeated (2 ^ h) (element immr imms h) (32 / 2 ^ h) < 2 ^ 32
  within h =
      let small : repeated (2 ^ h) (element immr imms h) (32 / 2 ^ h) < 2 ^ (32 / 2 ^ h * 2 ^ h) = repeated_below (2 ^ h) (element immr imms h) (32 / 2 ^ h) (element_below h) in
      let most : 2 ^ (32 / 2 ^ h * 2 ^ h) ≤ 2 ^ 32 = pow-le-pow_right {n = 2} (omega arith) {i = 32 / 2 ^ h * 2 ^ h} {j = 32} (div-mul-le_self 32 (2 ^ h)) in
      omega arith

  of_test : (h : ℕ) (b : Bool) → unwrap_or (cond b None (Some (repeated (2 ^ h) (element immr imms h) (32 / 2 ^ h)))) 0 < 2 ^ 32
  of_test h true = omega arith
  of_test h false = within h

  of_log : (o : Option ℕ) → unwrap_or (with_elements 32 n immr imms o) 0 < 2 ^ 32
  of_log None = omega arith
  of_log (Some h) = of_test h (has_no_value 32 n imms h)

  pub mask_below : unwrap_or (bitmask_of 32 n immr imms) 0 < 2 ^ 32
  unfolding bitmask_of
  mask_below = of_log (element_log n imms)
