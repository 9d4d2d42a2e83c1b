-- Vectors that are the same in 128 bits, and what is read of them.
use Rattle.std.proofs.Common.{◌≡◌, ◌≤◌, ◌+◌, ◌-◌, ◌*◌, ◌/◌, ℕ, Bool, if◌then◌else◌, List, [], take, drop, get_or, inl, inr, refl, ap, ap₂, sym, ◌∙◌, arith}
use Rattle.std.proofs.lemmas.List.{take-take, drop-take, drop-drop}
use Rattle.emu_model.specs.State.{Vectors}
use Rattle.sve_effects.specs.LaneLoop.{lane_of, covering_lane, is_active}
use Rattle.emu_model.specs.Active.{active}
use Rattle.emu_model.specs.Lanes.{read_z, number}
use Rattle.emu_model.specs.LaneSizes.{IsLaneSize}

-- the predicates are the same, and part i of each Z register, its 128 bits from 128 * i on
pub record SamePart (i : ℕ) (v w : Vectors) : Type 0 where
  pub predicates : v.p ≡ w.p
  pub registers : (r : ℕ) → take 16 (drop (16 * i) (read_z v r)) ≡ take 16 (drop (16 * i) (read_z w r))

-- ---- what is read of such vectors

-- m bytes from a on, which stand in part i
cut : (a m i : ℕ) (bytes : List ℕ) → 16 * i ≤ a → a + m ≤ 16 * i + 16 → take m (drop a bytes) ≡ drop (a - 16 * i) (take ((a - 16 * i) + m) (take 16 (drop (16 * i) bytes)))
cut a m i bytes low high =
    let at : 16 * i + (a - 16 * i) ≡ a = omega arith in
    let few : (a - 16 * i) + m ≤ 16 = omega arith in
    sym (ap (λ n. take m (drop n bytes)) at) ∙ ap (take m) (sym (drop-drop (a - 16 * i) (16 * i) bytes))
    ∙ sym (drop-take (a - 16 * i) m (drop (16 * i) bytes))
    ∙ ap (drop (a - 16 * i)) (sym (take-take ((a - 16 * i) + m) 16 (drop (16 * i) bytes) few))

same_cut : (a m i : ℕ) (xs ys : List ℕ) → 16 * i ≤ a → a + m ≤ 16 * i + 16 → take 16 (drop (16 * i) xs) ≡ take 16 (drop (16 * i) ys) → take m (drop a xs) ≡ take m (drop a ys)
same_cut a m i xs ys low high same =
    cut a m i xs low high ∙ ap (λ (bs : List ℕ). drop (a - 16 * i) (take ((a - 16 * i) + m) bs)) same ∙ sym (cut a m i ys low high)

first_byte : (e i k : ℕ) → IsLaneSize e → k * e / 128 ≡ i → 16 * i ≤ k * (e / 8)
first_byte e i k (inl s) at = let p : k * 8 / 128 ≡ i = rw s at at in rw s (omega arith)
first_byte e i k (inr (inl s)) at = let p : k * 16 / 128 ≡ i = rw s at at in rw s (omega arith)
first_byte e i k (inr (inr (inl s))) at = let p : k * 32 / 128 ≡ i = rw s at at in rw s (omega arith)
first_byte e i k (inr (inr (inr s))) at = let p : k * 64 / 128 ≡ i = rw s at at in rw s (omega arith)

last_byte : (e i k : ℕ) → IsLaneSize e → k * e / 128 ≡ i → k * (e / 8) + e / 8 ≤ 16 * i + 16
last_byte e i k (inl s) at = let p : k * 8 / 128 ≡ i = rw s at at in rw s (omega arith)
last_byte e i k (inr (inl s)) at = let p : k * 16 / 128 ≡ i = rw s at at in rw s (omega arith)
last_byte e i k (inr (inr (inl s))) at = let p : k * 32 / 128 ≡ i = rw s at at in rw s (omega arith)
last_byte e i k (inr (inr (inr s))) at = let p : k * 64 / 128 ≡ i = rw s at at in rw s (omega arith)

-- a lane of part i
pub same_lane : (e i k r : ℕ) (v w : Vectors) → IsLaneSize e → k * e / 128 ≡ i → SamePart i v w → lane_of e v r k ≡ lane_of e w r k
same_lane e i k r v w size at same =
    ap number (same_cut (k * (e / 8)) (e / 8) i (read_z v r) (read_z w r) (first_byte e i k size at) (last_byte e i k size at) (same.registers r))

-- the 64-bit lane that covers it
pub same_covering : (e i k r : ℕ) (v w : Vectors) → k * e / 128 ≡ i → SamePart i v w → covering_lane e v r k ≡ covering_lane e w r k
same_covering e i k r v w at same =
    let there : k * e / 64 * 64 / 128 ≡ i = omega arith in
    same_lane 64 i (k * e / 64) r v w (inr (inr (inr refl))) there same

-- whether it is active
pub same_active : (e i k pg : ℕ) (v w : Vectors) → SamePart i v w → is_active e v pg k ≡ is_active e w pg k
same_active e i k pg v w same = ap (λ (p : List (List Bool)). active e (get_or p pg []) k) same.predicates

-- a choice between the same numbers by the same answer
pub same_choice : (s t : Bool) (a b x y : ℕ) → s ≡ t → a ≡ x → b ≡ y → (if s then a else b) ≡ (if t then x else y)
same_choice s t a b x y answer first second = ap₂ (λ p q. if s then p else q) first second ∙ ap (λ u. if u then x else y) answer
