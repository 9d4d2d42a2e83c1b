-- The bits of a predicate that stand for a word.
use Rattle.std.proofs.Common.{◌≡◌, ◌<◌, ◌≤◌, ◌+◌, ◌*◌, ◌/◌, ◌%◌, ◌^◌, ℕ, zero, suc, Bool, true, false, nat_eq, List, get_or, inl, inr, refl, sym, ap, ◌∙◌, arith}
use Rattle.std.proofs.lemmas.Nat.{shr-shr}
use Rattle.emu_model.specs.ListLaws.{get_or-each}
use Rattle.emu_model.specs.Active.{active}
use Rattle.emu_model.specs.LaneSizes.{IsLaneSize}
use Rattle.vec_regs.specs.Words.{bit_of, bits_of}
use Rattle.vec_regs.proofs.Parts.{same_part}
use Rattle.active_lanes.specs.Kept.{keeps}

pub eight : (P : ℕ → Type 0) → P 0 → P 1 → P 2 → P 3 → P 4 → P 5 → P 6 → P 7 → (t : ℕ) → t < 8 → P t
eight P a b c d e f g i zero h = a
eight P a b c d e f g i (suc zero) h = b
eight P a b c d e f g i (suc (suc zero)) h = c
eight P a b c d e f g i (suc (suc (suc zero))) h = d
eight P a b c d e f g i (suc (suc (suc (suc zero)))) h = e
eight P a b c d e f g i (suc (suc (suc (suc (suc zero))))) h = f
eight P a b c d e f g i (suc (suc (suc (suc (suc (suc zero)))))) h = g
eight P a b c d e f g i (suc (suc (suc (suc (suc (suc (suc zero))))))) h = i
eight P a b c d e f g i (suc (suc (suc (suc (suc (suc (suc (suc n)))))))) h = absurd (omega arith)

pub full1 : (t : ℕ) → t < 8 → keeps 1 255 t ≡ true
full1 = eight (λ t. keeps 1 255 t ≡ true) refl refl refl refl refl refl refl refl

pub full2 : (t : ℕ) → t < 8 → keeps 2 255 t ≡ true
full2 = eight (λ t. keeps 2 255 t ≡ true) refl refl refl refl refl refl refl refl

pub some2 : (t : ℕ) → t < 8 → keeps 2 85 t ≡ true
some2 = eight (λ t. keeps 2 85 t ≡ true) refl refl refl refl refl refl refl refl

pub full4 : (t : ℕ) → t < 8 → keeps 4 255 t ≡ true
full4 = eight (λ t. keeps 4 255 t ≡ true) refl refl refl refl refl refl refl refl

pub some4 : (t : ℕ) → t < 8 → keeps 4 17 t ≡ true
some4 = eight (λ t. keeps 4 17 t ≡ true) refl refl refl refl refl refl refl refl

pub whole_by : (e n w field f : ℕ) → e ≡ n → n / 8 ≡ w → field ≡ f → ((t : ℕ) → t < 8 → keeps w f t ≡ true) → (t : ℕ) → t < 8 → keeps (e / 8) field t ≡ true
whole_by e n w field f is width same h t b = ap (λ e. keeps (e / 8) field t) is ∙ ap (λ w. keeps w field t) width ∙ ap (λ f. keeps w f t) same ∙ h t b

lane_start : (e i t : ℕ) → IsLaneSize e → (8 * i + t) / (e / 8) * (e / 8) ≡ 8 * i + t / (e / 8) * (e / 8)
lane_start e i t (inl s) = rw s (omega arith)
lane_start e i t (inr (inl s)) = rw s (omega arith)
lane_start e i t (inr (inr (inl s))) = rw s (omega arith)
lane_start e i t (inr (inr (inr s))) = rw s (omega arith)

lane_bit : (e t : ℕ) → IsLaneSize e → t < 8 → t / (e / 8) * (e / 8) < 8
lane_bit e t (inl s) h = rw s (omega arith)
lane_bit e t (inr (inl s)) h = rw s (omega arith)
lane_bit e t (inr (inr (inl s))) h = rw s (omega arith)
lane_bit e t (inr (inr (inr s))) h = rw s (omega arith)

pub bit_within : (x s u : ℕ) → u < 8 → x / 2 ^ s % 256 / 2 ^ u % 2 ≡ x / 2 ^ (s + u) % 2
bit_within x s u h =
    let twice : x / 2 ^ s % 256 % 256 ≡ x / 2 ^ s % 256 = omega arith in
    same_part (x / 2 ^ s % 256) (x / 2 ^ s) 8 u 1 twice (omega arith) ∙ ap (λ y. y % 2) (shr-shr x s u)

pub field_is : (words : List ℕ) (p : List Bool) (n i e t : ℕ) → IsLaneSize e → t < 8 → p ≡ bits_of n words → 8 * i + 8 ≤ n
    → keeps (e / 8) (get_or words (i / 8) 0 / 2 ^ (8 * (i % 8)) % 256) t ≡ active e p ((8 * i + t) / (e / 8))
field_is words p n i e t size h is room =
    let u : ℕ = t / (e / 8) * (e / 8) in
    let small : t / (e / 8) * (e / 8) < 8 = lane_bit e t size h in
    let within : 8 * i + t / (e / 8) * (e / 8) < n = omega arith in
    let q : (8 * i + t / (e / 8) * (e / 8)) / 64 ≡ i / 8 = omega arith in
    let r : (8 * i + t / (e / 8) * (e / 8)) % 64 ≡ 8 * (i % 8) + t / (e / 8) * (e / 8) = omega arith in
    ap (λ x. nat_eq x 1) (bit_within (get_or words (i / 8) 0) (8 * (i % 8)) u small)
    ∙ ap (λ k. nat_eq (get_or words (i / 8) 0 / 2 ^ k % 2) 1) (sym r)
    ∙ ap (λ k. nat_eq (get_or words k 0 / 2 ^ ((8 * i + u) % 64) % 2) 1) (sym q)
    ∙ sym (get_or-each n (bit_of words) (8 * i + u) false within)
    ∙ ap (λ (p : List Bool). get_or p (8 * i + u) false) (sym is)
    ∙ ap (λ k. get_or p k false) (sym (lane_start e i t size))

pub lane_again : (e k : ℕ) → IsLaneSize e → k * (e / 8) / (e / 8) ≡ k
lane_again e k (inl s) = rw s (omega arith)
lane_again e k (inr (inl s)) = rw s (omega arith)
lane_again e k (inr (inr (inl s))) = rw s (omega arith)
lane_again e k (inr (inr (inr s))) = rw s (omega arith)
