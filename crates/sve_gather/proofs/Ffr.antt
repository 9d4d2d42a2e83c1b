-- FFR with all its bits 1.
use Rattle.std.proofs.Common.{◌≡◌, ◌<◌, ◌≤◌, ◌+◌, ◌*◌, ◌/◌, ◌%◌, ◌^◌, ℕ, zero, suc, Bool, true, false, not, List, get_or, Option, Some, None, if◌then◌else◌, inl, inr, refl, sym, ap, subst, ◌∙◌, arith}
use Rattle.std.proofs.lemmas.Bool.{cases_lt}
use Rattle.emu_model.specs.SoundState.{IsVectorLength}
use Rattle.emu_model.specs.Active.{active}
use Rattle.emu_model.specs.LaneSizes.{IsLaneSize}
use Rattle.vec_regs.specs.Words.{bits_of}
use Rattle.sve_effects.specs.FirstFault.{first_cleared}
use Rattle.sve_effects.specs.FirstLast.{first_where, if_meets}
use Rattle.std.specs.Option.{option_or}
use Rattle.active_lanes.specs.Kept.{keeps}
use Rattle.active_lanes.proofs.FieldBits.{eight, field_is, full1}

-- the first k times eight bits of some words are 1
abbrev pub AreFull : List ℕ → ℕ → Type 0
AreFull words k = (i : ℕ) → i < k → get_or words (i / 8) 0 / 2 ^ (8 * (i % 8)) % 256 ≡ 255

full_byte : (u : ℕ) → u < 8 → 18446744073709551615 / 2 ^ (8 * u) % 256 ≡ 255
full_byte = eight (λ u. 18446744073709551615 / 2 ^ (8 * u) % 256 ≡ 255) refl refl refl refl refl refl refl refl

pub one_word : (words : List ℕ) (w : ℕ) → get_or words w 0 ≡ 18446744073709551615 → AreFull words (8 * w) → AreFull words (8 * (w + 1))
one_word words w full before i h = elim (cases_lt i (8 * w)) [
  | inl low ↦ before i low
  | inr high ↦
      (let q : i / 8 ≡ w = omega arith in
      let r : i % 8 < 8 = omega arith in
      ap (λ k. get_or words k 0 / 2 ^ (8 * (i % 8)) % 256) q ∙ ap (λ x. x / 2 ^ (8 * (i % 8)) % 256) full ∙ full_byte (i % 8) r)
]

pub one_byte : (words : List ℕ) (k : ℕ) → get_or words (k / 8) 0 / 2 ^ (8 * (k % 8)) % 256 ≡ 255 → AreFull words k → AreFull words (k + 1)
one_byte words k full before i h = elim (cases_lt i k) [
  | inl low ↦ before i low
  | inr high ↦ (let same : k ≡ i = omega arith in subst (λ i. get_or words (i / 8) 0 / 2 ^ (8 * (i % 8)) % 256 ≡ 255) same full)
]

pub all_bits : (words : List ℕ) (ffr : List Bool) (n k : ℕ) → ffr ≡ bits_of n words → 8 * k ≤ n → AreFull words k → (j : ℕ) → j < 8 * k → get_or ffr j false ≡ true
all_bits words ffr n k is room full j h =
    let i : j / 8 < k = omega arith in
    let t : j % 8 < 8 = omega arith in
    let here : 8 * (j / 8) + 8 ≤ n = omega arith in
    let same : (8 * (j / 8) + j % 8) / (8 / 8) * (8 / 8) ≡ j = omega arith in
    ap (λ j. get_or ffr j false) (sym same)
    ∙ sym (field_is words ffr n (j / 8) 8 (j % 8) (inl refl) t is here)
    ∙ ap (λ f. keeps 1 f (j % 8)) (full (j / 8) i) ∙ full1 (j % 8) t

-- so no lane's bit is 0
none_where : (n : ℕ) (test : ℕ → Bool) → ((k : ℕ) → k < n → test k ≡ false) → first_where n test ≡ None
none_where zero test h = refl
none_where (suc n) test h =
    ap (λ (o : Option ℕ). option_or o (if_meets test n)) (none_where n test (λ k b. h k (omega arith)))
    ∙ ap (λ (b : Bool). if b then Some n else None) (h n (omega arith))

lane_within : (e bits k : ℕ) → IsLaneSize e → IsVectorLength bits → k < bits / e → k * (e / 8) < bits / 8
lane_within e bits k (inl s) l = rw s (λ h. omega (arith, l.multiple))
lane_within e bits k (inr (inl s)) l = rw s (λ h. omega (arith, l.multiple))
lane_within e bits k (inr (inr (inl s))) l = rw s (λ h. omega (arith, l.multiple))
lane_within e bits k (inr (inr (inr s))) l = rw s (λ h. omega (arith, l.multiple))

pub none_cleared : (e bits : ℕ) (ffr : List Bool) → IsLaneSize e → IsVectorLength bits → ((j : ℕ) → j < bits / 8 → get_or ffr j false ≡ true) → first_cleared e ffr (bits / e) ≡ None
none_cleared e bits ffr size long full = none_where (bits / e) (λ k. not (active e ffr k)) (λ k b. ap (λ (t : Bool). not t) (full (k * (e / 8)) (lane_within e bits k size long b)))
