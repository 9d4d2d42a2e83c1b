-- Lanes read from words.
use Rattle.std.proofs.Common.{◌≡◌, ◌<◌, ◌≤◌, ℕ, List, [], length, get_or, ◌+◌, ◌*◌, ◌/◌, ◌%◌, ◌^◌, ap, ◌∙◌}
use Rattle.emu_model.specs.State.{Vectors}
use Rattle.emu_model.specs.Lanes.{lane, read_z}
use Rattle.emu_model.specs.LaneSizes.{IsLaneSize}
use Rattle.emu_model.proofs.LaneBytes.{field_is, in_word, whole_bytes, within_bytes}
use Rattle.vec_regs.specs.Shown.{shown}
use Rattle.vec_regs.specs.Words.{bytes_of}
use Rattle.vec_regs.specs.declared.VecRegs.TheInside.{Inside}
use Rattle.vec_regs.proofs.Views.{z_shown}

pub lane_of_words : (words : List ℕ) (n e k : ℕ) → IsLaneSize e → k * (e / 8) + e / 8 ≤ n → lane e (bytes_of n words) k ≡ get_or words (k * (e / 8) / 8) 0 / 2 ^ (8 * ((k * (e / 8)) % 8)) % 2 ^ e
lane_of_words words n e k size le =
    field_is (λ i. get_or words i 0) 8 n (e / 8) (k * (e / 8)) (in_word e k size) le
    ∙ ap (λ p. get_or words (k * (e / 8) / 8) 0 / 2 ^ (8 * ((k * (e / 8)) % 8)) % 2 ^ p) (whole_bytes e size)

pub lane_shown : (a : Inside) (v : Vectors) (r e k : ℕ) → shown a ≡ v → length a.z ≡ 32 → r < 32 → IsLaneSize e → k < v.bits / e → lane e (read_z v r) k ≡ get_or (get_or a.z r []) (k * (e / 8) / 8) 0 / 2 ^ (8 * ((k * (e / 8)) % 8)) % 2 ^ e
lane_shown a v r e k s count h size within =
    ap (λ (bs : List ℕ). lane e bs k) (z_shown a v r s count h) ∙ lane_of_words (get_or a.z r []) (v.bits / 8) e k size (within_bytes e k v.bits size within)

pub ruleset lanes_shown = (lane_shown)
