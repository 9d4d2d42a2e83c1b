-- The registers at their places.
use Rattle.std.proofs.Common.{◌≡◌, ◌≢◌, ℕ, ◌<◌, ◌≤◌, ◌%◌, ◌^◌, true, false, List, length, get_or, set, take, Option, nat_eq, if◌then◌else◌, refl, sym, ap, arith}
use Rattle.std.proofs.lemmas.Bool.Decides.{nat_tests}
use Rattle.std.proofs.lemmas.List.{get_or-take, get_or-set_same, get_or-set_other, take-set-le}
use Rattle.std.proofs.Math.Seq.{take-set-lt}
use Rattle.emu_bits.specs.declared.flags.Flags.{Flags}
use Rattle.emu_model.specs.State.{Core, with_x, with_x_sp}
use Rattle.core_regs.specs.Places.{source_place, target_place}

below : (r : ℕ) → r < 32 → nat_eq r 31 ≡ false → r < 31
below r small e = grind (arith, nat_tests)

same : (r : ℕ) → nat_eq r 31 ≡ true → r ≡ 31
same r e = grind (arith, nat_tests)

-- what the place of a register has
pub source_read : (x : List ℕ) (r : ℕ) → r < 32 → get_or x 32 0 ≡ 0
    → get_or x (source_place r) 0 ≡ (if nat_eq r 31 then 0 else get_or (take 31 x) r 0)
source_read x r small zero =
    elim (nat_eq r 31) as (λ b. nat_eq r 31 ≡ b → get_or x (if b then 32 else r) 0 ≡ (if b then 0 else get_or (take 31 x) r 0)) [
      | true ↦ λ e. zero
      | false ↦ λ e. sym (get_or-take 31 x r 0 (below r small e))
    ] refl

pub sp_read : (x : List ℕ) (r : ℕ) → r < 32 → get_or x r 0 ≡ (if nat_eq r 31 then get_or x 31 0 else get_or (take 31 x) r 0)
sp_read x r small =
    elim (nat_eq r 31) as (λ b. nat_eq r 31 ≡ b → get_or x r 0 ≡ (if b then get_or x 31 0 else get_or (take 31 x) r 0)) [
      | true ↦ λ e. ap (λ (n : ℕ). get_or x n 0) (same r e)
      | false ↦ λ e. sym (get_or-take 31 x r 0 (below r small e))
    ] refl

module _ (pc tpidr : ℕ) (flags : Flags) (monitor : Option (ℕ × ℕ)) where
  -- the registers, by what their places have
  abbrev pub seen : List ℕ → Core
  seen x = record { x = take 31 x; sp = get_or x 31 0; pc = pc; flags = flags; tpidr = tpidr; monitor = monitor }

  kept : (x : List ℕ) (p a : ℕ) → 32 ≤ p → seen (set x p a) ≡ seen x
  kept x p a h =
      let front : take 31 (set x p a) ≡ take 31 x = take-set-le 31 x p a (omega arith) in
      let sp : get_or (set x p a) 31 0 ≡ get_or x 31 0 = get_or-set_other x p 31 a 0 (omega arith) in
      cc

  general : (x : List ℕ) (r a : ℕ) → r < 31 → seen (set x r a) ≡ record (seen x) { x = set (take 31 x) r a }
  general x r a h =
      let front : take 31 (set x r a) ≡ set (take 31 x) r a = take-set-lt 31 x r a h in
      let sp : get_or (set x r a) 31 0 ≡ get_or x 31 0 = get_or-set_other x r 31 a 0 (omega arith) in
      cc

  -- what a write to the place of a register leaves
  pub target_written : (x : List ℕ) (r w v : ℕ) → r < 32 → seen (set x (target_place r) (v % 2 ^ w)) ≡ with_x (seen x) r w v
  target_written x r w v small =
      elim (nat_eq r 31) as (λ b. nat_eq r 31 ≡ b → seen (set x (if b then 33 else r) (v % 2 ^ w)) ≡ (if b then seen x else record (seen x) { x = set (take 31 x) r (v % 2 ^ w) })) [
        | true ↦ λ e. kept x 33 (v % 2 ^ w) (omega arith)
        | false ↦ λ e. general x r (v % 2 ^ w) (below r small e)
      ] refl

  pub sp_written : (x : List ℕ) (r w v : ℕ) → r < 32 → length x ≡ 34 → seen (set x r (v % 2 ^ w)) ≡ with_x_sp (seen x) r w v
  sp_written x r w v small many =
      elim (nat_eq r 31) as (λ b. nat_eq r 31 ≡ b → seen (set x r (v % 2 ^ w)) ≡ (if b then record (seen x) { sp = v % 2 ^ w } else record (seen x) { x = set (take 31 x) r (v % 2 ^ w) })) [
        | true ↦ λ e.
            let is : r ≡ 31 = same r e in
            let front : take 31 (set x r (v % 2 ^ w)) ≡ take 31 x = take-set-le 31 x r (v % 2 ^ w) (omega arith) in
            let sp : get_or (set x r (v % 2 ^ w)) r 0 ≡ v % 2 ^ w = get_or-set_same x r (v % 2 ^ w) 0 (omega arith) in
            cc
        | false ↦ λ e. general x r (v % 2 ^ w) (below r small e)
      ] refl

-- the zero place stays as it is
pub zero_kept : (x : List ℕ) (p a : ℕ) → p ≢ 32 → get_or x 32 0 ≡ 0 → get_or (set x p a) 32 0 ≡ 0
zero_kept x p a h zero = let e : get_or (set x p a) 32 0 ≡ get_or x 32 0 = get_or-set_other x p 32 a 0 (omega (arith, h)) in cc
