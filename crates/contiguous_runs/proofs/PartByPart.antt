-- A register that is written 128 bits after 128 bits.
use Rattle.std.proofs.Common.{◌≡◌, ◌<◌, ◌≤◌, ◌+◌, ◌*◌, ◌/◌, ◌%◌, ◌^◌, ℕ, List, [], ◌∷◌, ap, ◌∙◌, arith}
use Rattle.emu_model.specs.Lists.{each}
use Rattle.emu_model.specs.State.{Vectors}
use Rattle.emu_model.specs.Lanes.{read_z, with_z}
use Rattle.emu_model.specs.SoundState.{IsVectorLength}
use Rattle.vec_regs.specs.Words.{bytes_of, byte_with_pair}
use Rattle.active_lanes.proofs.InParts.{parts, one_part_more, all_parts, pair_bytes}

-- the places of the two words of a part
low_place : (i t : ℕ) → 16 * i + t ≡ 8 * (2 * i) + t
low_place i t = omega arith

high_place : (i t : ℕ) → 16 * i + 8 + t ≡ 8 * (2 * i + 1) + t
high_place i t = omega arith

-- one part more
pub more : (v w : Vectors) (zd i low high : ℕ) (words : List ℕ) (g : ℕ → ℕ) → read_z v zd ≡ bytes_of (v.bits / 8) words → IsVectorLength v.bits → w ≡ parts g i zd v
    → ((t : ℕ) → t < 8 → low / 2 ^ (8 * t) % 256 ≡ g (16 * i + t)) → ((t : ℕ) → t < 8 → high / 2 ^ (8 * t) % 256 ≡ g (16 * i + 8 + t))
    → with_z w zd (each (w.bits / 8) (byte_with_pair (read_z w zd) i (low ∷ (high ∷ [])))) ≡ parts g (i + 1) zd v
more v w zd i low high words g is l so_far has_low has_high =
    ap (λ (w : Vectors). with_z w zd (each (w.bits / 8) (byte_with_pair (read_z w zd) i (low ∷ (high ∷ []))))) so_far
    ∙ one_part_more v zd words is l g i (low ∷ (high ∷ [])) (pair_bytes low high i g (λ t b. has_low t b ∙ ap g (low_place i t)) (λ t b. has_high t b ∙ ap g (high_place i t)))

-- where no part is left
pub ended : (v w : Vectors) (zd i : ℕ) (g : ℕ → ℕ) → IsVectorLength v.bits → w ≡ parts g i zd v → v.bits / 128 ≤ i → w ≡ with_z v zd (each (v.bits / 8) g)
ended v w zd i g l so_far end = so_far ∙ all_parts v zd g i l end
