-- Places of lanes within 128 bits: their halves, the 64-bit lanes that cover them, and a lane by its index.
use Rattle.std.proofs.Common.{◌≡◌, ◌<◌, ◌≤◌, ◌+◌, ◌-◌, ◌*◌, ◌/◌, ◌%◌, ℕ, zero, suc, true, false, inl, inr, refl, sym, ap, ◌∙◌, arith}
use Rattle.lane_pack.specs.Bits.{is_set}
use Rattle.emu_model.specs.LaneSizes.{IsLaneSize}

-- ---- the lower half of 16 bits

pub lower_set : (p : ℕ) → p < 8 → is_set 255 p ≡ true
lower_set zero h = refl
lower_set (suc zero) h = refl
lower_set (suc (suc zero)) h = refl
lower_set (suc (suc (suc zero))) h = refl
lower_set (suc (suc (suc (suc zero)))) h = refl
lower_set (suc (suc (suc (suc (suc zero))))) h = refl
lower_set (suc (suc (suc (suc (suc (suc zero)))))) h = refl
lower_set (suc (suc (suc (suc (suc (suc (suc zero))))))) h = refl
lower_set (suc (suc (suc (suc (suc (suc (suc (suc p)))))))) h = absurd (omega arith)

after_clear : (p : ℕ) → p < 8 → is_set 255 (8 + p) ≡ false
after_clear zero h = refl
after_clear (suc zero) h = refl
after_clear (suc (suc zero)) h = refl
after_clear (suc (suc (suc zero))) h = refl
after_clear (suc (suc (suc (suc zero)))) h = refl
after_clear (suc (suc (suc (suc (suc zero))))) h = refl
after_clear (suc (suc (suc (suc (suc (suc zero)))))) h = refl
after_clear (suc (suc (suc (suc (suc (suc (suc zero))))))) h = refl
after_clear (suc (suc (suc (suc (suc (suc (suc (suc p)))))))) h = absurd (omega arith)

pub upper_clear : (p : ℕ) → 8 ≤ p → p < 16 → is_set 255 p ≡ false
upper_clear p h b =
    let e : 8 + (p - 8) ≡ p = omega arith in
    let small : p - 8 < 8 = omega arith in
    ap (is_set 255) (sym e) ∙ after_clear (p - 8) small

-- ---- lanes of e bits, w of them in 128 bits

pub bits_inside : (e w j : ℕ) → IsLaneSize e → w * e ≡ 128 → j < w → j * (e / 8) < 16
bits_inside e w j (inl s) whole b = let q : w * 8 ≡ 128 = rw s at whole in let t : w ≡ 16 = omega arith in rw s (omega arith)
bits_inside e w j (inr (inl s)) whole b = let q : w * 16 ≡ 128 = rw s at whole in let t : w ≡ 8 = omega arith in rw s (omega arith)
bits_inside e w j (inr (inr (inl s))) whole b = let q : w * 32 ≡ 128 = rw s at whole in let t : w ≡ 4 = omega arith in rw s (omega arith)
bits_inside e w j (inr (inr (inr s))) whole b = let q : w * 64 ≡ 128 = rw s at whole in let t : w ≡ 2 = omega arith in rw s (omega arith)

pub covered_first : (e w i j : ℕ) → IsLaneSize e → w * e ≡ 128 → j * (e / 8) < 8 → 2 * i ≡ (i * w + j) * e / 64
covered_first e w i j (inl s) whole h = let q : w * 8 ≡ 128 = rw s at whole in let t : w ≡ 16 = omega arith in let d : j * (8 / 8) < 8 = rw s at h in rw (s, t) (omega arith)
covered_first e w i j (inr (inl s)) whole h = let q : w * 16 ≡ 128 = rw s at whole in let t : w ≡ 8 = omega arith in let d : j * (16 / 8) < 8 = rw s at h in rw (s, t) (omega arith)
covered_first e w i j (inr (inr (inl s))) whole h = let q : w * 32 ≡ 128 = rw s at whole in let t : w ≡ 4 = omega arith in let d : j * (32 / 8) < 8 = rw s at h in rw (s, t) (omega arith)
covered_first e w i j (inr (inr (inr s))) whole h = let q : w * 64 ≡ 128 = rw s at whole in let t : w ≡ 2 = omega arith in let d : j * (64 / 8) < 8 = rw s at h in rw (s, t) (omega arith)

pub covered_second : (e w i j : ℕ) → IsLaneSize e → w * e ≡ 128 → 8 ≤ j * (e / 8) → j < w → 2 * i + 1 ≡ (i * w + j) * e / 64
covered_second e w i j (inl s) whole h b = let q : w * 8 ≡ 128 = rw s at whole in let t : w ≡ 16 = omega arith in let d : 8 ≤ j * (8 / 8) = rw s at h in rw (s, t) (omega arith)
covered_second e w i j (inr (inl s)) whole h b = let q : w * 16 ≡ 128 = rw s at whole in let t : w ≡ 8 = omega arith in let d : 8 ≤ j * (16 / 8) = rw s at h in rw (s, t) (omega arith)
covered_second e w i j (inr (inr (inl s))) whole h b = let q : w * 32 ≡ 128 = rw s at whole in let t : w ≡ 4 = omega arith in let d : 8 ≤ j * (32 / 8) = rw s at h in rw (s, t) (omega arith)
covered_second e w i j (inr (inr (inr s))) whole h b = let q : w * 64 ≡ 128 = rw s at whole in let t : w ≡ 2 = omega arith in let d : 8 ≤ j * (64 / 8) = rw s at h in rw (s, t) (omega arith)

pub indexed_is : (e w i j n : ℕ) → IsLaneSize e → w * e ≡ 128 → j < w → i * w + n % w ≡ (i * w + j) / (128 / e) * (128 / e) + n % (128 / e)
indexed_is e w i j n (inl s) whole b = let q : w * 8 ≡ 128 = rw s at whole in let t : w ≡ 16 = omega arith in rw (s, t) (omega arith)
indexed_is e w i j n (inr (inl s)) whole b = let q : w * 16 ≡ 128 = rw s at whole in let t : w ≡ 8 = omega arith in rw (s, t) (omega arith)
indexed_is e w i j n (inr (inr (inl s))) whole b = let q : w * 32 ≡ 128 = rw s at whole in let t : w ≡ 4 = omega arith in rw (s, t) (omega arith)
indexed_is e w i j n (inr (inr (inr s))) whole b = let q : w * 64 ≡ 128 = rw s at whole in let t : w ≡ 2 = omega arith in rw (s, t) (omega arith)
