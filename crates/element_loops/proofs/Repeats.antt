-- One element for all active lanes, and 128 bits again and again.
use Rattle.std.proofs.Common.{◌≡◌, ◌<◌, ◌≤◌, ◌+◌, ◌-◌, ◌*◌, ◌/◌, ◌%◌, ◌^◌, ℕ, zero, suc, Bool, true, false, nat_eq, if◌then◌else◌, List, [], ◌∷◌, ◌++◌, length, get_or, set, inl, inr, refl, sym, ap, subst, ◌∙◌, add-one, arith}
use Rattle.std.proofs.Math.Nat.{zero-div}
use Rattle.std.proofs.lemmas.Bool.{cases_lt, eq-eqb, ne_eqb}
use Rattle.std.proofs.lemmas.List.{get_or-set_same, get_or-set_other}
use Rattle.emu_model.specs.Access.{Memory, address, value}
use Rattle.emu_model.specs.Elements.{Element}
use Rattle.emu_model.specs.Lists.{each}
use Rattle.emu_model.specs.ListLaws.{each_same}
use Rattle.emu_model.specs.Pages.{bytes_at}
use Rattle.emu_model.specs.State.{Vectors}
use Rattle.emu_model.specs.WithinPage.{number_in}
use Rattle.emu_model.specs.Lanes.{byte_in}
use Rattle.emu_model.specs.LaneSizes.{IsLaneSize}
use Rattle.vec_regs.specs.Words.{byte_of, bytes_of}
use Rattle.sve_effects.specs.Lane.{extended_by}
use Rattle.sve_effects.specs.VectorElements.{Layout, elements_below, elements_of}
use Rattle.sve_effects.specs.VectorLoadStore.{loaded_lane}
use Rattle.active_lanes.specs.Placed.{lane_at}
use Rattle.element_loops.specs.declared.plan.Plan.{Plan}
use Rattle.element_loops.specs.Layouts.{layout_of}
use Rattle.active_lanes.specs.Kept.{is_kept}
use Rattle.element_loops.specs.Runs.{IsLine, lane_in}
use Rattle.element_loops.specs.SoFar.{element_of_lane}
use Rattle.element_loops.proofs.Lines.{element_fits, line_lane}
use Rattle.element_loops.proofs.Lists.{one_element}
use Rattle.element_loops.proofs.Nonempty.{still_empty}
use Rattle.element_loops.proofs.RunLoads.{element_value}
use Rattle.element_loops.proofs.Turns.{below_none, skipped}

-- ---- the only element

module _ (l : Layout) (found : ℕ) (one : l.registers ≡ 1) (on : (k : ℕ) → l.is_on k ≡ nat_eq k found) where
  none_before : (n : ℕ) → n ≤ found → elements_below l n ≡ []
  none_before zero h = below_none l
  none_before (suc n) h =
      let other : n ≡ found → ⊥ = λ e. omega arith in
      ap (λ n. elements_below l n) (sym (add-one n)) ∙ still_empty l n (on n ∙ ne_eqb n found other) (none_before n (omega arith))

  one_behind : (d : ℕ) → elements_below l (found + 1 + d) ≡ element_of_lane l found 0 ∷ []
  one_behind zero =
      let e : found + 1 + 0 ≡ found + 1 = omega arith in let le : found ≤ found = omega arith in
      ap (λ n. elements_below l n) e ∙ one_element l found one (on found ∙ eq-eqb found found refl) ∙ ap (λ (es : List Element). es ++ element_of_lane l found 0 ∷ []) (none_before found le)
  one_behind (suc d) =
      let e : found + 1 + suc d ≡ found + 1 + d + 1 = omega arith in
      let other : found + 1 + d ≡ found → ⊥ = λ s. omega arith in
      ap (λ n. elements_below l n) e ∙ skipped l (found + 1 + d) (on (found + 1 + d) ∙ ne_eqb (found + 1 + d) found other) ∙ one_behind d

  pub only_element : found < l.lanes → elements_of l ≡ element_of_lane l found 0 ∷ []
  only_element h = let e : l.lanes ≡ found + 1 + (l.lanes - (found + 1)) = omega arith in ap (λ n. elements_below l n) e ∙ one_behind (l.lanes - (found + 1))

-- ---- words that repeat the first two

pub first_bytes : (ws : List ℕ) (j : ℕ) → j < 8 * 2 → byte_of 8 ws j ≡ byte_of 8 ws (j % 16)
first_bytes ws j h = let e : j ≡ j % 16 = omega arith in ap (byte_of 8 ws) e

pub one_more_repeated : (i : ℕ) (first ws : List ℕ) → 2 ≤ i → i < length ws → ((j : ℕ) → j < 8 * i → byte_of 8 ws j ≡ byte_of 8 first (j % 16))
    → (j : ℕ) → j < 8 * (i + 1) → byte_of 8 (set ws i (get_or ws (i - 2) 0)) j ≡ byte_of 8 first (j % 16)
one_more_repeated i first ws some within before j b = elim (cases_lt j (8 * i)) [
  | inl h ↦ (let other : j / 8 ≡ i → ⊥ = λ s. omega arith in
      ap (λ x. x / 2 ^ (8 * (j % 8)) % 256) (get_or-set_other ws i (j / 8) (get_or ws (i - 2) 0) 0 other) ∙ before j h)
  | inr h ↦ (let q : j / 8 ≡ i = omega arith in
      let p : i - 2 ≡ (j - 16) / 8 = omega arith in
      let r : j % 8 ≡ (j - 16) % 8 = omega arith in
      let c : j - 16 < 8 * i = omega arith in
      let s : (j - 16) % 16 ≡ j % 16 = omega arith in
      ap (λ k. get_or (set ws i (get_or ws (i - 2) 0)) k 0 / 2 ^ (8 * (j % 8)) % 256) q
      ∙ ap (λ x. x / 2 ^ (8 * (j % 8)) % 256) (get_or-set_same ws i (get_or ws (i - 2) 0) 0 within)
      ∙ ap (λ k. get_or ws k 0 / 2 ^ (8 * (j % 8)) % 256) p
      ∙ ap (λ k. get_or ws ((j - 16) / 8) 0 / 2 ^ (8 * k) % 256) r
      ∙ before (j - 16) c
      ∙ ap (byte_of 8 first) s)
]

lane_again : (e j lanes : ℕ) → IsLaneSize e → lanes ≡ 128 / e → j % 16 / (e / 8) ≡ j / (e / 8) % lanes
lane_again e j lanes (inl s) h = let n : lanes ≡ 16 = h ∙ ap (λ e. 128 / e) s in ap (λ e. j % 16 / (e / 8)) s ∙ here j ∙ ap (λ n. j / 1 % n) (sym n) ∙ ap (λ e. j / (e / 8) % lanes) (sym s)
  where
    here : (j : ℕ) → j % 16 / 1 ≡ j / 1 % 16
    here j = omega arith
lane_again e j lanes (inr (inl s)) h = let n : lanes ≡ 8 = h ∙ ap (λ e. 128 / e) s in ap (λ e. j % 16 / (e / 8)) s ∙ here j ∙ ap (λ n. j / 2 % n) (sym n) ∙ ap (λ e. j / (e / 8) % lanes) (sym s)
  where
    here : (j : ℕ) → j % 16 / 2 ≡ j / 2 % 8
    here j = omega arith
lane_again e j lanes (inr (inr (inl s))) h = let n : lanes ≡ 4 = h ∙ ap (λ e. 128 / e) s in ap (λ e. j % 16 / (e / 8)) s ∙ here j ∙ ap (λ n. j / 4 % n) (sym n) ∙ ap (λ e. j / (e / 8) % lanes) (sym s)
  where
    here : (j : ℕ) → j % 16 / 4 ≡ j / 4 % 4
    here j = omega arith
lane_again e j lanes (inr (inr (inr s))) h = let n : lanes ≡ 2 = h ∙ ap (λ e. 128 / e) s in ap (λ e. j % 16 / (e / 8)) s ∙ here j ∙ ap (λ n. j / 8 % n) (sym n) ∙ ap (λ e. j / (e / 8) % lanes) (sym s)
  where
    here : (j : ℕ) → j % 16 / 8 ≡ j / 8 % 2
    here j = omega arith

rest_again : (e j : ℕ) → IsLaneSize e → j % 16 % (e / 8) ≡ j % (e / 8)
rest_again e j (inl s) = rw s (omega arith)
rest_again e j (inr (inl s)) = rw s (omega arith)
rest_again e j (inr (inr (inl s))) = rw s (omega arith)
rest_again e j (inr (inr (inr s))) = rw s (omega arith)

lane_within : (e j lanes : ℕ) → IsLaneSize e → lanes ≡ 128 / e → j % 16 / (e / 8) < lanes
lane_within e j lanes (inl s) h = rw (h, s) (omega arith)
lane_within e j lanes (inr (inl s)) h = rw (h, s) (omega arith)
lane_within e j lanes (inr (inr (inl s))) h = rw (h, s) (omega arith)
lane_within e j lanes (inr (inr (inr s))) h = rw (h, s) (omega arith)

where_byte : (t : Bool) (x d : ℕ) → (if t then x / d % 256 else 0) ≡ (if t then x else 0) / d % 256
where_byte true x d = refl
where_byte false x d = sym (ap (λ x. x % 256) (zero-div d))

-- the first n lanes, g k each, again and again
pub repeated_bytes : (e lanes bits : ℕ) (on : ℕ → Bool) (f g : ℕ → ℕ) (first kept words : List ℕ) → IsLaneSize e → lanes ≡ 128 / e
    → ((j : ℕ) → j < 8 * 2 → byte_of 8 first j ≡ byte_in (e / 8) f j)
    → ((j : ℕ) → j < 8 * 2 → byte_of 8 kept j ≡ (if on (j / (e / 8)) then byte_of 8 first j else 0))
    → ((j : ℕ) → j < bits / 8 → byte_of 8 words j ≡ byte_of 8 kept (j % 16))
    → ((k : ℕ) → k < lanes → g k ≡ (if on k then f k else 0))
    → bytes_of (bits / 8) words ≡ each (bits / 8) (byte_in (e / 8) (λ k. g (k % lanes)))
repeated_bytes e lanes bits on f g first kept words size count firsts keeps again given =
    each_same (bits / 8) (byte_of 8 words) (byte_in (e / 8) (λ k. g (k % lanes))) 0 (λ j b.
    let i : ℕ = j % 16 in
    let k : ℕ = j % 16 / (e / 8) in
    let d : ℕ = 2 ^ (8 * (j % 16 % (e / 8))) in
    let small : j % 16 < 8 * 2 = omega arith in
    again j b
    ∙ keeps i small
    ∙ ap (λ y. if on k then y else 0) (firsts i small)
    ∙ where_byte (on k) (f k) d
    ∙ ap (λ y. y / d % 256) (sym (given k (lane_within e j lanes size count)))
    ∙ ap (λ k. g k / d % 256) (lane_again e j lanes size count)
    ∙ ap (λ r. g (j / (e / 8) % lanes) / 2 ^ (8 * r) % 256) (rest_again e j size))

quad_words : (e : ℕ) → IsLaneSize e → 2 * (64 / e) ≡ 128 / e
quad_words e (inl s) = rw s refl
quad_words e (inr (inl s)) = rw s refl
quad_words e (inr (inr (inl s))) = rw s refl
quad_words e (inr (inr (inr s))) = rw s refl

one_place : (k r n : ℕ) → r ≡ 1 → (k * r + 0) * n ≡ 0 + k * n
one_place k r n one = let e : (k * 1 + 0) * n ≡ 0 + k * n = omega arith in ap (λ r. (k * r + 0) * n) one ∙ e

-- the elements of 128 bits are among their bytes
pub quad_room : (p : Plan) (k long : ℕ) → IsLaneSize p.bits → p.lanes ≡ 128 / p.bits → p.registers ≡ 1 → long ≡ p.lanes * p.registers * p.bytes → k < 2 * (64 / p.bits) → 0 + k * p.bytes + p.bytes ≤ long
quad_room p k long size lanes one all b =
    let within : k < p.lanes = subst (λ n. k < n) (quad_words p.bits size ∙ sym lanes) b in
    let first : 0 < p.registers = omega (arith, one) in
    let fits : (k * p.registers + 0) * p.bytes + p.bytes ≤ p.lanes * p.registers * p.bytes = element_fits k 0 p.registers p.lanes p.bytes within first in
    omega (arith, fits, all, one_place k p.registers p.bytes one)

pub quad_lane : (base pg whole : ℕ) (p : Plan) (v : Vectors) → IsLine base pg whole p v → whole ≡ 0 → p.registers ≡ 1 → p.is_signed ≡ false → (m : Memory) (bs : List ℕ) (k : ℕ) → k < p.lanes
    → bs ≡ bytes_at m base (p.lanes * p.registers * p.bytes)
    → loaded_lane false (layout_of p v) m 0 k ≡ (if is_kept 0 pg p.bits v k then lane_at p.is_signed p.bits p.bytes bs 0 p.bytes k else 0)
quad_lane base pg whole p v line none one unsigned m bs k b are =
    let first : 0 < p.registers = omega (arith, one) in
    ap (λ (s : Bool). loaded_lane s (layout_of p v) m 0 k) (sym unsigned)
    ∙ line_lane base pg whole p v line m 0 k first b
    ∙ ap (λ (xs : List ℕ). lane_in xs p pg whole v 0 k) (sym are)
    ∙ ap (λ n. lane_in bs p pg n v 0 k) none
    ∙ ap (λ a. if is_kept 0 pg p.bits v k then extended_by p.is_signed p.bits (8 * p.bytes) (number_in bs a p.bytes) else 0) (one_place k p.registers p.bytes one)

-- ---- the one element

pub found_lane : (m : Memory) (a n : ℕ) (bs : List ℕ) → a < 2 ^ 64 → bs ≡ bytes_at m a n → (k : ℕ) → value m a n ≡ number_in bs (0 + k * 0) n
found_lane m a n bs word are k =
    let here : address (a + 0) ≡ a = omega arith in
    let start : 0 ≡ 0 + k * 0 = omega arith in
    let whole : 0 + n ≤ n = omega arith in
    ap (λ a. value m a n) (sym here) ∙ element_value m a n 0 n whole ∙ ap (λ (xs : List ℕ). number_in xs 0 n) (sym are) ∙ ap (λ i. number_in bs i n) start
