-- The mask is a run of ones, so that what it keeps is a remainder.
use Rattle.std.proofs.Common.{◌≡◌, ℕ, ◌+◌, ◌-◌, ◌/◌, ◌%◌, ◌^◌, ◌≤◌, arith, ap, ◌∙◌, bit_and}
use Rattle.std.proofs.lemmas.Nat.{and_mask}
use Rattle.std.proofs.lemmas.Nat.Bits.{ones_shr}
use Rattle.emu_bits.proofs.insn_words.bits.Goals as goal

-- ones shifted right
ones_at : (d : ℕ) → d ≤ 31 → (2 ^ 32 - 1) / 2 ^ (31 - d) ≡ 2 ^ (d + 1) - 1
ones_at d h =
    let e : 32 - (31 - d) ≡ d + 1 = omega arith in
    ones_shr 32 (31 - d) (omega arith) ∙ ap (λ (x : ℕ). 2 ^ x - 1) e

kept : (w lo d : ℕ) → d ≤ 31 → bit_and (w / 2 ^ lo) ((2 ^ 32 - 1) / 2 ^ (31 - d)) ≡ w / 2 ^ lo % 2 ^ (d + 1)
kept w lo d h = ap (λ (x : ℕ). bit_and (w / 2 ^ lo) x) (ones_at d h) ∙ and_mask (w / 2 ^ lo) (d + 1)

pub returns : goal.returns
returns c = kept c.args.w c.args.lo (c.args.hi - c.args.lo) (omega arith)
