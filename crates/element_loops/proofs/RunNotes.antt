-- The log of elements that are one behind the other.
use Rattle.std.proofs.Common.{◌≡◌, ◌<◌, ◌≤◌, ◌+◌, ◌*◌, ◌/◌, ℕ, zero, suc, Bool, true, false, List, [], ◌∷◌, ◌++◌, inl, inr, sym, ap, subst, ◌∙◌, add-one, append_assoc, arith}
use Rattle.std.proofs.Math.Nat.{mul-le-mul_right}
use Rattle.std.proofs.lemmas.List.{append-nil}
use Rattle.emu_model.specs.declared.access.Access.{Access}
use Rattle.emu_model.specs.Access.{address}
use Rattle.emu_model.specs.Elements.{accesses_of}
use Rattle.emu_model.specs.Lists.{each}
use Rattle.emu_model.specs.ListLaws.{each-more, each_same}
use Rattle.emu_model.specs.State.{Vectors}
use Rattle.sve_effects.specs.VectorElements.{Layout, elements_below}
use Rattle.guest_mem.specs.ReachLaws.{accesses_append}
use Rattle.element_loops.specs.declared.plan.Plan.{Plan}
use Rattle.element_loops.specs.declared.plan.Places.{Places}
use Rattle.element_loops.specs.Layouts.{layout_of, address_of}
use Rattle.element_loops.specs.Runs.{ArePlaced, IsLine}
use Rattle.element_loops.specs.SoFar.{element_of_lane, elements_within}
use Rattle.active_lanes.proofs.Kept.{kept_front}
use Rattle.element_loops.proofs.Turns.{below_none, within_none, within_more, within_all, skipped}

-- ---- places

-- so many bytes on
further : (base x y at : ℕ) → at ≡ address (base + x) → address (at + y) ≡ address (base + (x + y))
further base x y at is = omega (arith, is)

-- so many lanes on
pub next_lanes : (base r n k d at next step : ℕ) → at ≡ address (base + k * r * n) → step ≡ r * n → next ≡ address (at + d * step) → next ≡ address (base + (k + d) * r * n)
next_lanes base r n k d at next step is size more =
    let e : k * r * n + d * (r * n) ≡ (k + d) * r * n = omega arith in
    more ∙ ap (λ s. address (at + d * s)) size ∙ further base (k * r * n) (d * (r * n)) at is ∙ ap (λ x. address (base + x)) e

pub lane_count : (k r lanes : ℕ) → k < lanes → k * r + r ≤ lanes * r
lane_count k r lanes h =
    let next : suc k ≤ lanes = omega arith in
    let times : suc k * r ≤ lanes * r = mul-le-mul_right r next in
    let more : suc k * r ≡ k * r + r = omega arith in
    omega (arith, times, more)

-- the log of one access for each of r elements from place `at` on
pub noted_at : (base at k r n : ℕ) (w : Bool) → at ≡ address (base + k * r * n)
    → each r (λ (j : ℕ). let x : Access = record { address = address (at + j * n); bytes = n; write = w } in x) ≡ each r (λ (j : ℕ). let x : Access = record { address = address (base + (k * r + j) * n); bytes = n; write = w } in x)
noted_at base at k r n w is =
    let f : ℕ → Access = λ j. record { address = address (at + j * n); bytes = n; write = w } in
    let g : ℕ → Access = λ j. record { address = address (base + (k * r + j) * n); bytes = n; write = w } in
    let none : Access = record { address = 0; bytes = 0; write = w } in
    let here : ℕ → Access = λ a. record { address = a; bytes = n; write = w } in
    each_same r f g none (λ j b.
    let e : k * r * n + j * n ≡ (k * r + j) * n = omega arith in
    ap here (further base (k * r * n) (j * n) at is ∙ ap (λ x. address (base + x)) e))

each_both : (a b : ℕ) (f : ℕ → Access) → each (a + b) f ≡ each a f ++ each b (λ j. f (a + j))
each_both a zero f = let e : a + 0 ≡ a = omega arith in ap (λ n. each n f) e ∙ sym (append-nil (each a f))
each_both a (suc b) f =
    let e : a + suc b ≡ a + b + 1 = omega arith in
    ap (λ n. each n f) e ∙ each-more (a + b) f
    ∙ ap (λ (l : List Access). l ++ f (a + b) ∷ []) (each_both a b f)
    ∙ append_assoc (each a f) (each b (λ j. f (a + j))) (f (a + b) ∷ [])
    ∙ ap (λ (l : List Access). each a f ++ l) (sym (each-more b (λ j. f (a + j))))
    ∙ ap (λ n. each a f ++ each n (λ j. f (a + j))) (add-one b)

-- ---- where the elements are

pub one_place : (k r n : ℕ) → r ≡ 1 → n ≡ 1 → (k * r + 0) * n ≡ k
one_place k r n one single = let e : (k * 1 + 0) * 1 ≡ k = omega arith in ap (λ r. (k * r + 0) * n) one ∙ ap (λ n. (k * 1 + 0) * n) single ∙ e

pub placed_at : (base : ℕ) (p : Plan) (v : Vectors) → ArePlaced base p → (k j : ℕ) → j < p.registers → (layout_of p v).address k j ≡ address (base + (k * p.registers + j) * p.bytes)
placed_at base p v (inl is) k j h = ap (λ (q : Places). address_of q p.bits p.bytes p.registers v k j) is
placed_at base p v (inr is) k j h =
    let first : j < 1 = subst (λ r. j < r) is.1 h in
    let zero : 0 ≡ j = omega arith in
    ap (λ (q : Places). address_of q p.bits p.bytes p.registers v k j) is.0
    ∙ ap (λ x. address (base + x)) (sym (one_place k p.registers p.bytes is.1 is.2))
    ∙ ap (λ j. address (base + (k * p.registers + j) * p.bytes)) zero

module _ (base pg whole : ℕ) (p : Plan) (v : Vectors) (line : IsLine base pg whole p v) where
  pub run_address : p.registers ≡ 1 → (k : ℕ) → (layout_of p v).address k 0 ≡ address (base + k * p.bytes)
  run_address one k =
      let e : k * 1 + 0 ≡ k = omega arith in
      let some : 0 < p.registers = omega (arith, one) in
      placed_at base p v line.placed k 0 some
      ∙ ap (λ r. address (base + (k * r + 0) * p.bytes)) one
      ∙ ap (λ k. address (base + k * p.bytes)) e

  -- the elements of the first j registers of a lane
  within_noted : (w : Bool) (k j : ℕ) → j ≤ p.registers → accesses_of w (elements_within (layout_of p v) k j)
      ≡ accesses_of w (elements_below (layout_of p v) k) ++ each j (λ (j : ℕ). let x : Access = record { address = address (base + (k * p.registers + j) * p.bytes); bytes = p.bytes; write = w } in x)
  within_noted w k zero h = ap (accesses_of w) (within_none (layout_of p v) k) ∙ sym (append-nil (accesses_of w (elements_below (layout_of p v) k)))
  within_noted w k (suc j) h =
      let l : Layout = layout_of p v in
      let f : ℕ → Access = λ j. record { address = address (base + (k * p.registers + j) * p.bytes); bytes = p.bytes; write = w } in
      let before : List Access = accesses_of w (elements_below l k) in
      ap (λ j. accesses_of w (elements_within l k j)) (sym (add-one j))
      ∙ ap (accesses_of w) (within_more l k j)
      ∙ accesses_append w (elements_within l k j) (element_of_lane l k j ∷ [])
      ∙ ap (λ (xs : List Access). xs ++ record { address = l.address k j; bytes = p.bytes; write = w } ∷ []) (within_noted w k j (omega arith))
      ∙ ap (λ a. (before ++ each j f) ++ record { address = a; bytes = p.bytes; write = w } ∷ []) (placed_at base p v line.placed k j (omega arith))
      ∙ append_assoc before (each j f) (f j ∷ [])
      ∙ ap (λ (xs : List Access). before ++ xs) (sym (each-more j f))
      ∙ ap (λ n. before ++ each n f) (add-one j)

  lane_noted : (w : Bool) (k : ℕ) → (layout_of p v).is_on k ≡ true → accesses_of w (elements_below (layout_of p v) (k + 1))
      ≡ accesses_of w (elements_below (layout_of p v) k) ++ each p.registers (λ (j : ℕ). let x : Access = record { address = address (base + (k * p.registers + j) * p.bytes); bytes = p.bytes; write = w } in x)
  lane_noted w k on = ap (accesses_of w) (sym (within_all (layout_of p v) k on)) ∙ within_noted w k p.registers (omega arith)

  pub noted_more : (w : Bool) (k at : ℕ) (before after : List Access) → (layout_of p v).is_on k ≡ true → at ≡ address (base + k * p.registers * p.bytes) → before ≡ accesses_of w (elements_below (layout_of p v) k)
      → after ≡ before ++ each p.registers (λ i. record { address = address (at + i * p.bytes); bytes = p.bytes; write = w }) → after ≡ accesses_of w (elements_below (layout_of p v) (k + 1))
  noted_more w k at before after on is so_far more =
      let f : ℕ → Access = λ j. record { address = address (at + j * p.bytes); bytes = p.bytes; write = w } in
      more ∙ ap (λ (l : List Access). l ++ each p.registers f) so_far
      ∙ ap (λ (l : List Access). accesses_of w (elements_below (layout_of p v) k) ++ l) (noted_at base at k p.registers p.bytes w is)
      ∙ sym (lane_noted w k on)

  pub noted_skipped : (w : Bool) (k : ℕ) → (layout_of p v).is_on k ≡ false → accesses_of w (elements_below (layout_of p v) k) ≡ accesses_of w (elements_below (layout_of p v) (k + 1))
  noted_skipped w k off = ap (accesses_of w) (sym (skipped (layout_of p v) k off))

  pub noted_idle : (w : Bool) (k d : ℕ) → ((i : ℕ) → k ≤ i → i < k + d → (layout_of p v).is_on i ≡ false) → accesses_of w (elements_below (layout_of p v) k) ≡ accesses_of w (elements_below (layout_of p v) (k + d))
  noted_idle w k zero off = let e : k ≡ k + 0 = omega arith in ap (λ n. accesses_of w (elements_below (layout_of p v) n)) e
  noted_idle w k (suc d) off =
      let e : k + d + 1 ≡ k + suc d = omega arith in
      noted_idle w k d (λ i lo hi. off i lo (omega arith))
      ∙ noted_skipped w (k + d) (off (k + d) (omega arith) (omega arith))
      ∙ ap (λ n. accesses_of w (elements_below (layout_of p v) n)) e

  -- all of the first n lanes are on
  pub noted_below : (w : Bool) (n : ℕ) → ((k : ℕ) → k < n → (layout_of p v).is_on k ≡ true)
      → accesses_of w (elements_below (layout_of p v) n) ≡ each (n * p.registers) (λ i. record { address = address (base + i * p.bytes); bytes = p.bytes; write = w })
  noted_below w zero on = let e : 0 ≡ 0 * p.registers = omega arith in
      ap (accesses_of w) (below_none (layout_of p v)) ∙ ap (λ n. each n (λ (i : ℕ). let x : Access = record { address = address (base + i * p.bytes); bytes = p.bytes; write = w } in x)) e
  noted_below w (suc n) on =
      let f : ℕ → Access = λ i. record { address = address (base + i * p.bytes); bytes = p.bytes; write = w } in
      let r : ℕ = p.registers in
      let e : n * p.registers + p.registers ≡ suc n * p.registers = omega arith in
      ap (λ n. accesses_of w (elements_below (layout_of p v) n)) (sym (add-one n))
      ∙ lane_noted w n (on n (omega arith))
      ∙ ap (λ (l : List Access). l ++ each r (λ j. f (n * r + j))) (noted_below w n (λ k b. on k (omega arith)))
      ∙ sym (each_both (n * r) r f)
      ∙ ap (λ n. each n f) e

  pub all_noted : (w : Bool) (log after : List Access) → log ≡ [] → ((k : ℕ) → k < p.lanes → (layout_of p v).is_on k ≡ true)
      → after ≡ log ++ each (p.lanes * p.registers) (λ i. record { address = address (base + i * p.bytes); bytes = p.bytes; write = w })
      → after ≡ accesses_of w (elements_below (layout_of p v) p.lanes)
  all_noted w log after empty on is =
      let f : ℕ → Access = λ i. record { address = address (base + i * p.bytes); bytes = p.bytes; write = w } in
      is ∙ ap (λ (l : List Access). l ++ each (p.lanes * p.registers) f) empty ∙ sym (noted_below w p.lanes on)

  -- the lanes of the first words are on
  pub front_on : (k : ℕ) → k < whole * (64 / p.bits) → k < p.lanes → (layout_of p v).is_on k ≡ true
  front_on k h b = line.on k b ∙ kept_front whole pg p.bits v k h
