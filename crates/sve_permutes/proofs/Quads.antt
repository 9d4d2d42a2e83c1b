-- A lane of 128 bits is two of 64.
use Rattle.std.proofs.Common.{◌≡◌, ◌<◌, ◌≤◌, ◌+◌, ◌*◌, ◌/◌, ◌%◌, ◌^◌, ℕ, Bool, true, false, nat_eq, nat_lt, if◌then◌else◌, List, take, drop, refl, sym, ap, ◌∙◌, arith}
use Rattle.std.proofs.lemmas.Bool.Decides.{nat_tests}
use Rattle.std.proofs.lemmas.List.{drop-drop}
use Rattle.std.proofs.lemmas.Nat.{shr-shr}
use Rattle.emu_model.specs.State.{Vectors}
use Rattle.lane_model.specs.declared.places.LaneSource.TheVariants.{FirstLane, Zero}
use Rattle.sve_effects.specs.LaneLoop.{lane_of}
use Rattle.sve_effects.specs.Permute.{taken, indexed_place}
use Rattle.sve_effects.specs.PermuteRows.{with_places}
use Rattle.emu_model.specs.Lanes.{number, lane, read_z, with_z, byte_in, with_lanes}
use Rattle.emu_model.specs.ListLaws.{each_same}
use Rattle.vec_regs.proofs.Low.{low_is}
use Rattle.vec_regs.proofs.Parts.{same_part}

-- ---- read

bytes_at : (m p q : ℕ) (bs : List ℕ) → q ≡ p → number (take m (drop q bs)) ≡ number (take m (drop p bs))
bytes_at m p q bs e = ap (λ i. number (take m (drop i bs))) e

pub quad_read : (bs : List ℕ) (i : ℕ) → lane 128 bs i ≡ lane 64 bs (2 * i) + 2 ^ 64 * lane 64 bs (2 * i + 1)
quad_read bs i =
    let low : lane 64 (drop (i * 16) bs) 0 ≡ lane 64 bs (2 * i) = bytes_at 8 (2 * i * 8) (i * 16) bs (omega arith) in
    let high : lane 64 (drop (i * 16) bs) 1 ≡ lane 64 bs (2 * i + 1) = ap (λ (b : List ℕ). number (take 8 b)) (drop-drop 8 (i * 16) bs) ∙ bytes_at 8 ((2 * i + 1) * 8) (i * 16 + 8) bs (omega arith) in
    low_is (drop (i * 16) bs) ∙ ap (λ l. l + 2 ^ 64 * lane 64 (drop (i * 16) bs) 1) low ∙ ap (λ h. lane 64 bs (2 * i) + 2 ^ 64 * h) high

-- ---- written

module _ (low high : ℕ) (small : low < 2 ^ 64) where
  abbrev half : ℕ → ℕ
  half k = if nat_eq (k % 2) 0 then low else high

  byte_here : (b : Bool) (j : ℕ) → nat_eq (j / 8 % 2) 0 ≡ b → (low + 2 ^ 64 * high) / 2 ^ (8 * (j % 16)) % 256 ≡ (if b then low else high) / 2 ^ (8 * (j % 8)) % 256
  byte_here true j t =
      let even : j / 8 % 2 ≡ 0 = grind (arith, nat_tests) in
      let place : j % 16 ≡ j % 8 = omega arith in
      let same : (low + 2 ^ 64 * high) % 2 ^ 64 ≡ low % 2 ^ 64 = omega arith in
      let within : 8 * (j % 8) + 8 ≤ 64 = omega arith in
      ap (λ m. (low + 2 ^ 64 * high) / 2 ^ (8 * m) % 256) place ∙ same_part (low + 2 ^ 64 * high) low 64 (8 * (j % 8)) 8 same within
  byte_here false j t =
      let some : 0 < j / 8 % 2 = grind (arith, nat_tests) in
      let place : 8 * (j % 16) ≡ 64 + 8 * (j % 8) = omega arith in
      let above : (low + 2 ^ 64 * high) / 2 ^ 64 ≡ high = omega arith in
      ap (λ p. (low + 2 ^ 64 * high) / 2 ^ p % 256) place
      ∙ ap (λ y. y % 256) (sym (shr-shr (low + 2 ^ 64 * high) 64 (8 * (j % 8))))
      ∙ ap (λ y. y / 2 ^ (8 * (j % 8)) % 256) above

  pub quad_written : (zd : ℕ) (v : Vectors) → with_lanes 64 half zd v ≡ with_lanes 128 (λ k. low + 2 ^ 64 * high) zd v
  quad_written zd v = ap (with_z v zd) (each_same (v.bits / 8) (byte_in 8 half) (byte_in 16 (λ k. low + 2 ^ 64 * high)) 0 (λ j b. sym (byte_here (nat_eq (j / 8 % 2) 0) j refl)))

-- ---- a lane of 128 bits in each

module _ (i zn zd : ℕ) (v : Vectors) where
  abbrev quads : ℕ → Vectors
  quads x = with_lanes 128 (λ k. x) zd v

  by_test : (b : Bool) (x : ℕ) → nat_lt i (v.bits / 128) ≡ b → taken (lane_of 128 v zn) (lane_of 128 v zn) 0 0 (if b then FirstLane i else Zero) ≡ x
      → quads x ≡ with_places 128 (λ k. indexed_place i (v.bits / 128)) zn zn 0 zd v
  by_test b x t e = ap quads (sym e ∙ ap (λ b. taken (lane_of 128 v zn) (lane_of 128 v zn) 0 0 (if b then FirstLane i else Zero)) (sym t))

  pub quad_there : (w : Vectors) (low high : ℕ) → i < v.bits / 128 → low < 2 ^ 64 → low ≡ lane_of 64 v zn (2 * i) → high ≡ lane_of 64 v zn (2 * i + 1)
      → w ≡ with_lanes 64 (λ k. if nat_eq (k % 2) 0 then low else high) zd v → w ≡ with_places 128 (λ k. indexed_place i (v.bits / 128)) zn zn 0 zd v
  quad_there w low high h small e d is =
      is ∙ quad_written low high small zd v
      ∙ by_test true (low + 2 ^ 64 * high) (grind (arith, nat_tests)) (quad_read (read_z v zn) i ∙ ap (λ l. l + 2 ^ 64 * lane_of 64 v zn (2 * i + 1)) (sym e) ∙ ap (λ m. low + 2 ^ 64 * m) (sym d))

  pub quad_none : (w : Vectors) → v.bits / 128 ≤ i → w ≡ with_lanes 64 (λ k. if nat_eq (k % 2) 0 then 0 else 0) zd v → w ≡ with_places 128 (λ k. indexed_place i (v.bits / 128)) zn zn 0 zd v
  quad_none w h is =
      let small : 0 < 2 ^ 64 = omega arith in
      is ∙ quad_written 0 0 small zd v ∙ by_test false 0 (grind (arith, nat_tests)) refl

pub ruleset quad_rules = (quad_there, quad_none)
