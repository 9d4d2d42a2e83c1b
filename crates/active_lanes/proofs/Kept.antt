-- The lanes that keep what is loaded.
use Rattle.std.proofs.Common.{◌≡◌, ◌<◌, ◌≤◌, ◌+◌, ◌*◌, ◌/◌, ℕ, Bool, true, false, ◌||◌, List, [], get_or, nat_lt, inl, inr, sym, ap, subst, ◌∙◌, arith}
use Rattle.std.proofs.lemmas.Bool.{cases_lt, lt-ltb, le-ltb, or_parts, or_right}
use Rattle.emu_model.specs.SoundState.{IsVectorLength}
use Rattle.emu_model.specs.State.{Vectors}
use Rattle.emu_model.specs.Active.{active}
use Rattle.emu_model.specs.LaneSizes.{IsLaneSize}
use Rattle.sve_effects.specs.LaneLoop.{is_active}
use Rattle.active_lanes.specs.Kept.{is_kept}
use Rattle.active_lanes.proofs.FieldBits.{lane_again}

-- ---- lanes of words

pub front_lane : (e n j : ℕ) → IsLaneSize e → j < 8 * n → j / (e / 8) < n * (64 / e)
front_lane e n j (inl s) = rw s (λ h. omega arith)
front_lane e n j (inr (inl s)) = rw s (λ h. omega arith)
front_lane e n j (inr (inr (inl s))) = rw s (λ h. omega arith)
front_lane e n j (inr (inr (inr s))) = rw s (λ h. omega arith)

pub later_lane : (e n i t : ℕ) → IsLaneSize e → n ≤ i → n * (64 / e) ≤ (8 * i + t) / (e / 8)
later_lane e n i t (inl s) = rw s (λ h. omega arith)
later_lane e n i t (inr (inl s)) = rw s (λ h. omega arith)
later_lane e n i t (inr (inr (inl s))) = rw s (λ h. omega arith)
later_lane e n i t (inr (inr (inr s))) = rw s (λ h. omega arith)

front_byte : (e n k : ℕ) → IsLaneSize e → k < n * (64 / e) → k * (e / 8) < 8 * n
front_byte e n k (inl s) = rw s (λ h. omega arith)
front_byte e n k (inr (inl s)) = rw s (λ h. omega arith)
front_byte e n k (inr (inr (inl s))) = rw s (λ h. omega arith)
front_byte e n k (inr (inr (inr s))) = rw s (λ h. omega arith)

-- the words of all lanes
pub all_words : (e bits : ℕ) → IsLaneSize e → IsVectorLength bits → bits / 64 * (64 / e) ≡ bits / e
all_words e bits (inl s) l = rw s (omega (arith, l.multiple))
all_words e bits (inr (inl s)) l = rw s (omega (arith, l.multiple))
all_words e bits (inr (inr (inl s))) l = rw s (omega (arith, l.multiple))
all_words e bits (inr (inr (inr s))) l = rw s (omega (arith, l.multiple))

pub few_lanes : (e bits n : ℕ) → IsLaneSize e → IsVectorLength bits → n ≤ bits / 64 → n * (64 / e) ≤ bits / e
few_lanes e bits n (inl s) l = rw s (λ h. omega (arith, l.multiple))
few_lanes e bits n (inr (inl s)) l = rw s (λ h. omega (arith, l.multiple))
few_lanes e bits n (inr (inr (inl s))) l = rw s (λ h. omega (arith, l.multiple))
few_lanes e bits n (inr (inr (inr s))) l = rw s (λ h. omega (arith, l.multiple))

pub most_lanes : (e bits n : ℕ) → IsLaneSize e → IsVectorLength bits → n ≤ bits / e → n ≤ 256
most_lanes e bits n (inl s) l = rw s (λ h. omega (arith, l.most))
most_lanes e bits n (inr (inl s)) l = rw s (λ h. omega (arith, l.most))
most_lanes e bits n (inr (inr (inl s))) l = rw s (λ h. omega (arith, l.most))
most_lanes e bits n (inr (inr (inr s))) l = rw s (λ h. omega (arith, l.most))

-- the words of the lanes at the front
pub front_word : (e front j : ℕ) → IsLaneSize e → j < 8 * (front / (64 / e)) → j / (e / 8) < front
front_word e front j (inl s) = rw s (λ h. omega arith)
front_word e front j (inr (inl s)) = rw s (λ h. omega arith)
front_word e front j (inr (inr (inl s))) = rw s (λ h. omega arith)
front_word e front j (inr (inr (inr s))) = rw s (λ h. omega arith)

pub front_few : (e bits front : ℕ) → IsLaneSize e → front ≤ bits / e → front / (64 / e) ≤ bits / 64
front_few e bits front (inl s) = rw s (λ h. omega arith)
front_few e bits front (inr (inl s)) = rw s (λ h. omega arith)
front_few e bits front (inr (inr (inl s))) = rw s (λ h. omega arith)
front_few e bits front (inr (inr (inr s))) = rw s (λ h. omega arith)

-- ---- which lanes are kept

module _ (whole pg e : ℕ) (v : Vectors) where
  pub kept_front : (k : ℕ) → k < whole * (64 / e) → is_kept whole pg e v k ≡ true
  kept_front k h = ap (λ (t : Bool). t || is_active e v pg k) (lt-ltb k (whole * (64 / e)) h)

  pub kept_later : (k : ℕ) → whole * (64 / e) ≤ k → is_kept whole pg e v k ≡ is_active e v pg k
  kept_later k h = ap (λ (t : Bool). t || is_active e v pg k) (le-ltb k (whole * (64 / e)) h)

  pub active_is_kept : (k : ℕ) → is_active e v pg k ≡ true → is_kept whole pg e v k ≡ true
  active_is_kept k h = or_right (nat_lt k (whole * (64 / e))) (is_active e v pg k) h

  pub not_active : (k : ℕ) → is_kept whole pg e v k ≡ false → is_active e v pg k ≡ false
  not_active k h = (or_parts (nat_lt k (whole * (64 / e))) (is_active e v pg k) h).1

  -- a lane behind one that isn't kept, and isn't active
  pub none_kept : (k i : ℕ) → is_kept whole pg e v k ≡ false → k ≤ i → is_active e v pg i ≡ false → is_kept whole pg e v i ≡ false
  none_kept k i off h idle = elim (cases_lt i (whole * (64 / e))) [
    | inl b ↦ (let never : false ≡ true = sym off ∙ kept_front k (omega (arith, b, h)) in cc)
    | inr b ↦ kept_later i b ∙ idle
  ]

  -- those that are active, where all lanes of the first words are
  pub active_kept : IsLaneSize e → ((j : ℕ) → 8 * 0 ≤ j → j < 8 * (0 + whole) → is_active e v pg (j / (e / 8)) ≡ true) → (k : ℕ) → is_active e v pg k ≡ is_kept whole pg e v k
  active_kept size h k = elim (cases_lt k (whole * (64 / e))) [
    | inl b ↦
        (let here : k * (e / 8) < 8 * whole = front_byte e whole k size b in
        subst (λ k. is_active e v pg k ≡ true) (lane_again e k size) (h (k * (e / 8)) (omega arith) (omega (arith, here))) ∙ sym (kept_front k b))
    | inr b ↦ sym (kept_later k b)
  ]

-- the words of the front are of it
pub front_kept : (e pg front whole : ℕ) (v : Vectors) → IsLaneSize e → whole ≡ front / (64 / e) → ((k : ℕ) → k < front → is_active e v pg k ≡ true) → (k : ℕ) → is_active e v pg k ≡ is_kept whole pg e v k
front_kept e pg front whole v size is on = active_kept whole pg e v size (λ j lo hi.
    let within : j < 8 * (front / (64 / e)) = omega (arith, hi, is) in
    on (j / (e / 8)) (front_word e front j size within))

pub same_kept : (whole pg e k : ℕ) (v w : Vectors) → v.p ≡ w.p → is_kept whole pg e v k ≡ is_kept whole pg e w k
same_kept whole pg e k v w h = ap (λ (ps : List (List Bool)). nat_lt k (whole * (64 / e)) || active e (get_or ps pg []) k) h
