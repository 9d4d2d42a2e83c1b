-- Elements one behind the other that are read as bytes.
use Rattle.std.proofs.Common.{◌≡◌, ◌<◌, ◌≤◌, ◌+◌, ◌-◌, ◌*◌, ◌/◌, ◌%◌, ◌^◌, ℕ, zero, suc, Bool, true, false, if◌then◌else◌, List, [], ◌∷◌, ◌++◌, length, take, drop, get_or, None, refl, sym, ap, subst, ◌∙◌, add-one, inl, inr, arith}
use Rattle.std.specs.Int.{bytes_low_first}
use Rattle.std.proofs.Math.Nat.{mul-le-mul_right, zero-div}
use Rattle.std.proofs.lemmas.Bool.{cases_lt}
use Rattle.std.proofs.lemmas.List.{length-take}
use Rattle.std.proofs.lemmas.Nat.{div-mul-add, mod-mul-add, mul-add-lt}
use Rattle.byteorder.specs.Numbers.{length-bytes_low_first}
use Rattle.emu_model.specs.declared.access.Access.{Access}
use Rattle.emu_model.specs.declared.access.Kind.{Kind}
use Rattle.emu_model.specs.declared.access.Kind.TheVariants.{Write}
use Rattle.emu_model.specs.Access.{Memory, address, refused, stored, value}
use Rattle.emu_model.specs.AccessLaws.{with_bytes_split}
use Rattle.emu_model.specs.Elements.{Element, reach}
use Rattle.emu_model.specs.Lists.{each}
use Rattle.emu_model.specs.ListLaws.{each_same, each-more}
use Rattle.emu_model.specs.Pages.{bytes_at, with_bytes}
use Rattle.emu_model.specs.State.{Vectors}
use Rattle.emu_model.specs.WithinPage.{number_in}
use Rattle.emu_model.specs.SoundState.{IsVectorLength}
use Rattle.emu_model.specs.Lanes.{byte_in}
use Rattle.emu_model.specs.LaneSizes.{IsLaneSize}
use Rattle.vec_regs.specs.Words.{byte_of, bytes_of}
use Rattle.vec_regs.proofs.PackedLanes.{below_quotient}
use Rattle.active_lanes.specs.Placed.{lane_at}
use Rattle.active_lanes.proofs.Words.{copied_lanes}
use Rattle.sve_effects.specs.Lane.{extended_by}
use Rattle.sve_effects.specs.VectorElements.{Layout, elements_below, elements_of}
use Rattle.sve_effects.specs.VectorLoadStore.{loaded_lane, with_loaded}
use Rattle.guest_mem.specs.ReachLaws.{AreStored, all_of, refused_with_stored}
use Rattle.element_loops.specs.declared.plan.Plan.{Plan}
use Rattle.element_loops.specs.Layouts.{layout_of}
use Rattle.active_lanes.specs.Kept.{is_kept}
use Rattle.element_loops.specs.Runs.{AreFilled, IsLine, lane_in, stored_in_turn}
use Rattle.element_loops.specs.SoFar.{element_of_lane, elements_within}
use Rattle.element_loops.specs.Values.{with_taken}
use Rattle.guest_mem.proofs.Numbers.{stored_is}
use Rattle.active_lanes.proofs.Kept.{same_kept}
use Rattle.element_loops.proofs.RunLoads.{part_allowed, element_value, all_reached}
use Rattle.element_loops.proofs.RunNotes.{placed_at}
use Rattle.element_loops.proofs.RunStores.{again, bytes_same, nothing_taken, slice_each, take_both}
use Rattle.element_loops.proofs.Stores.{stores_begin, lane_begins, lane_goes_on}
use Rattle.element_loops.proofs.Turns.{within_all, taken_is_loaded, given_by_itself}

pub element_fits : (k j r lanes n : ℕ) → k < lanes → j < r → (k * r + j) * n + n ≤ lanes * r * n
element_fits k j r lanes n h i =
    let turned : r * lanes ≡ lanes * r = omega arith in
    let place : k * r + j < lanes * r = subst (λ x. k * r + j < x) turned (mul-add-lt k r j lanes h i) in
    let next : suc (k * r + j) ≤ lanes * r = omega arith in
    let times : suc (k * r + j) * n ≤ lanes * r * n = mul-le-mul_right n next in
    let more : suc (k * r + j) * n ≡ (k * r + j) * n + n = omega arith in
    omega (arith, times, more)

element_place : (j k r n : ℕ) → j * n + k * (r * n) ≡ (k * r + j) * n
element_place j k r n = omega arith

pub element_placed : (k j r n at step : ℕ) → at ≡ j * n → step ≡ r * n → at + k * step ≡ (k * r + j) * n
element_placed k j r n at step start apart = ap (λ a. a + k * step) start ∙ ap (λ s. j * n + k * s) apart ∙ element_place j k r n

module _ (base pg whole : ℕ) (p : Plan) (v : Vectors) (line : IsLine base pg whole p v) where
  -- no element is refused
  pub line_reached : (m : Memory) (kind : Kind) → refused m base (p.lanes * p.registers * p.bytes) kind ≡ None → reach m kind (elements_of (layout_of p v)) ≡ all_of (elements_of (layout_of p v))
  line_reached m kind h = all_reached (layout_of p v) m kind (λ k j b c.
      ap (λ a. refused m a p.bytes kind) (placed_at base p v line.placed k j c)
      ∙ part_allowed m base (p.lanes * p.registers * p.bytes) ((k * p.registers + j) * p.bytes) p.bytes kind h (element_fits k j p.registers p.lanes p.bytes b c))

  pub line_lane : (m : Memory) (j k : ℕ) → j < p.registers → k < p.lanes
      → loaded_lane p.is_signed (layout_of p v) m j k ≡ lane_in (bytes_at m base (p.lanes * p.registers * p.bytes)) p pg whole v j k
  line_lane m j k b c =
      ap (λ (t : Bool). if t then extended_by p.is_signed p.bits (8 * p.bytes) (value m ((layout_of p v).address k j) p.bytes) else 0) (line.on k c)
      ∙ ap (λ x. if is_kept whole pg p.bits v k then extended_by p.is_signed p.bits (8 * p.bytes) x else 0)
      (ap (λ a. value m a p.bytes) (placed_at base p v line.placed k j b)
      ∙ element_value m base (p.lanes * p.registers * p.bytes) ((k * p.registers + j) * p.bytes) p.bytes (element_fits k j p.registers p.lanes p.bytes c b))

  -- what is written from the bytes is what is loaded
  pub line_loaded : (m : Memory) (bs : List ℕ) (next : Vectors) → bs ≡ bytes_at m base (p.lanes * p.registers * p.bytes)
      → ((f : ℕ → ℕ → ℕ) → ((j k : ℕ) → j < p.registers → k < p.lanes → f j k ≡ lane_in bs p pg whole v j k) → next ≡ with_taken p.bits f p.register p.registers v)
      → next ≡ with_loaded p.is_signed (layout_of p v) m p.registers v
  line_loaded m bs next are written =
      written (loaded_lane p.is_signed (layout_of p v) m) (λ j k b c. line_lane m j k b c ∙ ap (λ (xs : List ℕ). lane_in xs p pg whole v j k) (sym are))
      ∙ taken_is_loaded p.is_signed (layout_of p v) m p.registers v

-- ---- the bytes of elements that are stored at once

slice_is : (bs xs : List ℕ) (n at : ℕ) → length xs ≡ n → at + n ≤ length bs → ((t : ℕ) → t < n → get_or bs (at + t) 0 ≡ get_or xs t 0) → take n (drop at bs) ≡ xs
slice_is bs xs n at long room same = slice_each n at bs room ∙ each_same n (λ t. get_or bs (at + t) 0) (λ t. get_or xs t 0) 0 same ∙ sym (given_by_itself xs n long)

module _ (base pg whole : ℕ) (p : Plan) (v : Vectors) (line : IsLine base pg whole p v) (f : Element → ℕ) (m : Memory) (bs : List ℕ) (most : p.bytes ≤ 8)
    (free : refused m base (p.lanes * p.registers * p.bytes) Write ≡ None) (room : p.lanes * p.registers * p.bytes ≤ length bs)
    (filled : AreFilled p.bytes (stored_in_turn f p v) (p.lanes * p.registers) bs) (on : (k : ℕ) → k < p.lanes → (layout_of p v).is_on k ≡ true) where
  element_bytes : (k j : ℕ) → k < p.lanes → j < p.registers → take p.bytes (drop ((k * p.registers + j) * p.bytes) bs) ≡ take p.bytes (bytes_low_first 0 8 (f (element_of_lane (layout_of p v) k j)))
  element_bytes k j b c =
      let i : ℕ = k * p.registers + j in
      let n : ℕ = p.bytes in
      let turned : p.registers * p.lanes ≡ p.lanes * p.registers = omega arith in
      let place : k * p.registers + j < p.lanes * p.registers = subst (λ x. k * p.registers + j < x) turned (mul-add-lt k p.registers j p.lanes b c) in
      let fits : (k * p.registers + j) * p.bytes + p.bytes ≤ p.lanes * p.registers * p.bytes = element_fits k j p.registers p.lanes p.bytes b c in
      let long : length (take p.bytes (bytes_low_first 0 8 (stored_in_turn f p v i))) ≡ p.bytes = omega (arith, length-take p.bytes (bytes_low_first 0 8 (stored_in_turn f p v i)), length-bytes_low_first 0 8 (stored_in_turn f p v i), most) in
      slice_is bs (take n (bytes_low_first 0 8 (stored_in_turn f p v i))) n (i * n) long (omega (arith, fits, room)) (λ t h. filled i t place h)
      ∙ ap (λ x. take n (bytes_low_first 0 8 (f (element_of_lane (layout_of p v) x (i % p.registers))))) (div-mul-add k p.registers j c)
      ∙ ap (λ x. take n (bytes_low_first 0 8 (f (element_of_lane (layout_of p v) k x)))) (mod-mul-add k p.registers j c)

  one_stored : (k j : ℕ) → k < p.lanes → j < p.registers
      → with_bytes m base (take ((k * p.registers + j + 1) * p.bytes) bs) ≡ stored (with_bytes m base (take ((k * p.registers + j) * p.bytes) bs)) ((layout_of p v).address k j) p.bytes (f (element_of_lane (layout_of p v) k j))
  one_stored k j b c =
      let i : ℕ = k * p.registers + j in
      let n : ℕ = p.bytes in
      let before : Memory = with_bytes m base (take ((k * p.registers + j) * p.bytes) bs) in
      let x : ℕ = f (element_of_lane (layout_of p v) k j) in
      let a : ℕ = (layout_of p v).address k j in
      let size : (k * p.registers + j + 1) * p.bytes ≡ (k * p.registers + j) * p.bytes + p.bytes = omega arith in
      let fits : (k * p.registers + j) * p.bytes + p.bytes ≤ p.lanes * p.registers * p.bytes = element_fits k j p.registers p.lanes p.bytes b c in
      let long : length (take ((k * p.registers + j) * p.bytes) bs) ≡ (k * p.registers + j) * p.bytes = omega (arith, length-take ((k * p.registers + j) * p.bytes) bs, fits, room) in
      let place : address (base + length (take ((k * p.registers + j) * p.bytes) bs)) ≡ address ((layout_of p v).address k j)
      = ap (λ n. address (base + n)) long ∙ sym (again (base + (k * p.registers + j) * p.bytes)) ∙ ap address (sym (placed_at base p v line.placed k j c)) in
      ap (λ n. with_bytes m base (take n bs)) size
      ∙ ap (λ xs. with_bytes m base xs) (take_both (i * n) n bs)
      ∙ with_bytes_split (take (i * n) bs) (take n (drop (i * n) bs)) m base
      ∙ bytes_same (take n (drop (i * n) bs)) before (base + length (take (i * n) bs)) a place
      ∙ ap (λ xs. with_bytes before a xs) (element_bytes k j b c)
      ∙ stored_is before a n 8 x most

  element_stored : (k j : ℕ) → k < p.lanes → j < p.registers
      → AreStored f m (elements_within (layout_of p v) k j) (with_bytes m base (take ((k * p.registers + j) * p.bytes) bs)) (each (k * p.registers + j) (λ i. record { address = address (base + i * p.bytes); bytes = p.bytes; write = true }))
      → AreStored f m (elements_within (layout_of p v) k (j + 1)) (with_bytes m base (take ((k * p.registers + j + 1) * p.bytes) bs)) (each (k * p.registers + j + 1) (λ i. record { address = address (base + i * p.bytes); bytes = p.bytes; write = true }))
  element_stored k j b c so_far =
      let l : Layout = layout_of p v in
      let i : ℕ = k * p.registers + j in
      let n : ℕ = p.bytes in
      let g : ℕ → Access = λ i. record { address = address (base + i * p.bytes); bytes = p.bytes; write = true } in
      let fits : (k * p.registers + j) * p.bytes + p.bytes ≤ p.lanes * p.registers * p.bytes = element_fits k j p.registers p.lanes p.bytes b c in
      let allowed_first : refused m (l.address k j) p.bytes Write ≡ None
      = ap (λ a. refused m a p.bytes Write) (placed_at base p v line.placed k j c) ∙ part_allowed m base (p.lanes * p.registers * p.bytes) ((k * p.registers + j) * p.bytes) p.bytes Write free fits in
      let allowed : refused (with_bytes m base (take ((k * p.registers + j) * p.bytes) bs)) (l.address k j) p.bytes Write ≡ None
      = ap (λ (x : Memory). refused x (l.address k j) p.bytes Write) so_far.memory ∙ refused_with_stored f (elements_within l k j) m (l.address k j) p.bytes Write ∙ allowed_first in
      let noted : each (k * p.registers + j + 1) g ≡ each (k * p.registers + j) g ++ record { address = l.address k j; bytes = p.bytes; write = true } ∷ []
      = each-more i g ∙ ap (λ a. each i g ++ record { address = a; bytes = p.bytes; write = true } ∷ []) (sym (placed_at base p v line.placed k j c)) in
      lane_goes_on f l m k j (with_bytes m base (take (i * n) bs)) (with_bytes m base (take ((i + 1) * n) bs)) (each i g) (each (i + 1) g) so_far allowed (one_stored k j b c) noted

  stored_within : (k : ℕ) → k < p.lanes → AreStored f m (elements_below (layout_of p v) k) (with_bytes m base (take (k * p.registers * p.bytes) bs)) (each (k * p.registers) (λ i. record { address = address (base + i * p.bytes); bytes = p.bytes; write = true }))
      → (j : ℕ) → j ≤ p.registers
      → AreStored f m (elements_within (layout_of p v) k j) (with_bytes m base (take ((k * p.registers + j) * p.bytes) bs)) (each (k * p.registers + j) (λ i. record { address = address (base + i * p.bytes); bytes = p.bytes; write = true }))
  stored_within k b h zero c =
      let g : ℕ → Access = λ i. record { address = address (base + i * p.bytes); bytes = p.bytes; write = true } in
      let e : k * p.registers ≡ k * p.registers + 0 = omega arith in
      subst (λ i. AreStored f m (elements_within (layout_of p v) k 0) (with_bytes m base (take (i * p.bytes) bs)) (each i g)) e
      (lane_begins f (layout_of p v) m k (with_bytes m base (take (k * p.registers * p.bytes) bs)) (each (k * p.registers) g) h)
  stored_within k b h (suc j) c =
      let g : ℕ → Access = λ i. record { address = address (base + i * p.bytes); bytes = p.bytes; write = true } in
      let e : k * p.registers + j + 1 ≡ k * p.registers + suc j = omega arith in
      subst (λ n. AreStored f m (elements_within (layout_of p v) k n) (with_bytes m base (take ((k * p.registers + suc j) * p.bytes) bs)) (each (k * p.registers + suc j) g)) (add-one j)
      (subst (λ i. AreStored f m (elements_within (layout_of p v) k (j + 1)) (with_bytes m base (take (i * p.bytes) bs)) (each i g)) e
      (element_stored k j b (omega arith) (stored_within k b h j (omega arith))))

  stored_below : (k : ℕ) → k ≤ p.lanes → AreStored f m (elements_below (layout_of p v) k) (with_bytes m base (take (k * p.registers * p.bytes) bs)) (each (k * p.registers) (λ i. record { address = address (base + i * p.bytes); bytes = p.bytes; write = true }))
  stored_below zero c =
      let g : ℕ → Access = λ i. record { address = address (base + i * p.bytes); bytes = p.bytes; write = true } in
      let e : 0 ≡ 0 * p.registers = omega arith in
      let z : 0 * p.bytes ≡ 0 = omega arith in
      let none : take (0 * p.bytes) bs ≡ [] = ap (λ n. take n bs) z ∙ nothing_taken bs in
      subst (λ i. AreStored f m (elements_below (layout_of p v) 0) (with_bytes m base (take (i * p.bytes) bs)) (each i g)) e
      (subst (λ (xs : List ℕ). AreStored f m (elements_below (layout_of p v) 0) (with_bytes m base xs) []) (sym none) (stores_begin f (layout_of p v) m [] refl))
  stored_below (suc k) c =
      let g : ℕ → Access = λ i. record { address = address (base + i * p.bytes); bytes = p.bytes; write = true } in
      let e : k * p.registers + p.registers ≡ suc k * p.registers = omega arith in
      let here : (layout_of p v).is_on k ≡ true = on k (omega arith) in
      subst (λ n. AreStored f m (elements_below (layout_of p v) n) (with_bytes m base (take (suc k * p.registers * p.bytes) bs)) (each (suc k * p.registers) g)) (add-one k)
      (subst (λ i. AreStored f m (elements_below (layout_of p v) (k + 1)) (with_bytes m base (take (i * p.bytes) bs)) (each i g)) e
      (subst (λ (es : List Element). AreStored f m es (with_bytes m base (take ((k * p.registers + p.registers) * p.bytes) bs)) (each (k * p.registers + p.registers) g)) (within_all (layout_of p v) k here)
      (stored_within k (omega arith) (stored_below k (omega arith)) p.registers (omega arith))))

  pub all_stored : (next : Memory) (log after : List Access) → log ≡ [] → next ≡ with_bytes m base (take (p.lanes * p.registers * p.bytes) bs)
      → after ≡ log ++ each (p.lanes * p.registers) (λ i. record { address = address (base + i * p.bytes); bytes = p.bytes; write = true }) → AreStored f m (elements_of (layout_of p v)) next after
  all_stored next log after empty written noted =
      let g : ℕ → Access = λ i. record { address = address (base + i * p.bytes); bytes = p.bytes; write = true } in
      let log_is : each (p.lanes * p.registers) g ≡ after = sym (noted ∙ ap (λ (l : List Access). l ++ each (p.lanes * p.registers) g) empty) in
      subst (λ (l : List Access). AreStored f m (elements_of (layout_of p v)) next l) log_is
      (subst (λ (x : Memory). AreStored f m (elements_of (layout_of p v)) x (each (p.lanes * p.registers) g)) (sym written) (stored_below p.lanes (omega arith)))

-- one more number
pub filled_more : (n : ℕ) (f : ℕ → ℕ) (c at x : ℕ) (before after : List ℕ) → at ≡ c * n → x ≡ f c → ((t : ℕ) → t < n → get_or after (at + t) 0 ≡ get_or (take n (bytes_low_first 0 8 x)) t 0)
    → ((i : ℕ) → i < at → get_or after i 0 ≡ get_or before i 0) → AreFilled n f c before → AreFilled n f (c + 1) after
filled_more n f c at x before after place is here kept given i t b h = elim (cases_lt i c) [
  | inl low ↦
      (let next : suc i ≤ c = omega arith in
      let times : suc i * n ≤ c * n = mul-le-mul_right n next in
      let more : suc i * n ≡ i * n + n = omega arith in
      kept (i * n + t) (omega (arith, times, more, place, h)) ∙ given i t low h)
  | inr high ↦
      (let same : i ≡ c = omega arith in
      let start : i * n ≡ at = ap (λ i. i * n) same ∙ sym place in
      ap (λ a. get_or after (a + t) 0) start ∙ here t h ∙ ap (λ x. get_or (take n (bytes_low_first 0 8 x)) t 0) (is ∙ ap f (sym same)))
]

pub in_turn_is : (f : Element → ℕ) (p : Plan) (v : Vectors) (k j : ℕ) → j < p.registers → f (element_of_lane (layout_of p v) k j) ≡ stored_in_turn f p v (k * p.registers + j)
in_turn_is f p v k j h =
    ap (λ x. f (element_of_lane (layout_of p v) x j)) (sym (div-mul-add k p.registers j h))
    ∙ ap (λ x. f (element_of_lane (layout_of p v) ((k * p.registers + j) / p.registers) x)) (sym (mod-mul-add k p.registers j h))

-- ---- what is written of the bytes of all elements

where_byte : (t : Bool) (x d : ℕ) → (if t then x / d % 256 else 0) ≡ (if t then x else 0) / d % 256
where_byte true x d = refl
where_byte false x d = sym (ap (λ x. x % 256) (zero-div d))

pub lanes_written : (pg whole : ℕ) (p : Plan) (v : Vectors) → IsLaneSize p.bits → IsVectorLength v.bits → (bs before words : List ℕ) (at step : ℕ) (f : ℕ → ℕ)
    → ((i : ℕ) → i < v.bits / 8 → byte_of 8 before i ≡ byte_in (p.bits / 8) (lane_at p.is_signed p.bits p.bytes bs at step) i)
    → ((i : ℕ) → i < v.bits / 8 → byte_of 8 words i ≡ (if is_kept whole pg p.bits v (i / (p.bits / 8)) then byte_of 8 before i else 0))
    → ((k : ℕ) → k < v.bits / p.bits → f k ≡ (if is_kept whole pg p.bits v k then lane_at p.is_signed p.bits p.bytes bs at step k else 0))
    → bytes_of (v.bits / 8) words ≡ each (v.bits / 8) (byte_in (p.bits / 8) f)
lanes_written pg whole p v size long bs before words at step f all kept given =
    each_same (v.bits / 8) (byte_of 8 words) (byte_in (p.bits / 8) f) 0 (λ i b.
    let k : ℕ = i / (p.bits / 8) in
    let d : ℕ = 2 ^ (8 * (i % (p.bits / 8))) in
    kept i b
    ∙ ap (λ y. if is_kept whole pg p.bits v k then y else 0) (all i b)
    ∙ where_byte (is_kept whole pg p.bits v k) (lane_at p.is_signed p.bits p.bytes bs at step k) d
    ∙ ap (λ y. y / d % 256) (sym (given k (below_quotient p.bits v.bits i size long b))))

-- the same of lanes that have elements as they stand
pub lanes_copied : (pg whole : ℕ) (p : Plan) (v : Vectors) → IsLaneSize p.bits → IsVectorLength v.bits → (bs : List ℕ) (at step : ℕ) (f : ℕ → ℕ)
    → ((k : ℕ) → get_or bs k 0 < 256) → p.is_signed ≡ false → p.bits ≡ 8 * p.bytes → step ≡ p.bytes
    → ((k : ℕ) → k < v.bits / p.bits → f k ≡ (if is_kept whole pg p.bits v k then lane_at p.is_signed p.bits p.bytes bs at step k else 0))
    → each (v.bits / 8) (λ i. if is_kept whole pg p.bits v (i / (p.bits / 8)) then get_or bs (at + i) 0 else 0) ≡ each (v.bits / 8) (byte_in (p.bits / 8) f)
lanes_copied pg whole p v size long bs at step f small unsigned same next given =
    let g : ℕ → ℕ = λ i. if is_kept whole pg p.bits v (i / (p.bits / 8)) then get_or bs (at + i) 0 else 0 in
    each_same (v.bits / 8) g (byte_in (p.bits / 8) f) 0 (λ i b.
    let k : ℕ = i / (p.bits / 8) in
    let d : ℕ = 2 ^ (8 * (i % (p.bits / 8))) in
    ap (λ y. if is_kept whole pg p.bits v k then y else 0) (copied_lanes p.bits p.bytes at i bs size same small)
    ∙ where_byte (is_kept whole pg p.bits v k) (lane_at false p.bits p.bytes bs at p.bytes k) d
    ∙ ap (λ (s : Bool). (if is_kept whole pg p.bits v k then lane_at s p.bits p.bytes bs at p.bytes k else 0) / d % 256) (sym unsigned)
    ∙ ap (λ n. (if is_kept whole pg p.bits v k then lane_at p.is_signed p.bits p.bytes bs at n k else 0) / d % 256) (sym next)
    ∙ ap (λ y. y / d % 256) (sym (given k (below_quotient p.bits v.bits i size long b))))

-- the bytes of all lanes are there
pub copy_room : (e n bits at long : ℕ) → IsLaneSize e → IsVectorLength bits → e ≡ 8 * n → ((k : ℕ) → k < bits / e → at + k * n + n ≤ long) → at + bits / 8 ≤ long
copy_room e n bits at long (inl s) l same h = let w : n ≡ 1 = omega arith in let last : at + (bits / 8 - 1) * n + n ≤ long = h (bits / 8 - 1) (rw s (omega (arith, l.least))) in let here : at + (bits / 8 - 1) * 1 + 1 ≤ long = subst (λ n. at + (bits / 8 - 1) * n + n ≤ long) w last in omega (arith, here, l.least)
copy_room e n bits at long (inr (inl s)) l same h = let w : n ≡ 2 = omega arith in let last : at + (bits / 16 - 1) * n + n ≤ long = h (bits / 16 - 1) (rw s (omega (arith, l.least))) in let here : at + (bits / 16 - 1) * 2 + 2 ≤ long = subst (λ n. at + (bits / 16 - 1) * n + n ≤ long) w last in omega (arith, here, l.least, l.multiple)
copy_room e n bits at long (inr (inr (inl s))) l same h = let w : n ≡ 4 = omega arith in let last : at + (bits / 32 - 1) * n + n ≤ long = h (bits / 32 - 1) (rw s (omega (arith, l.least))) in let here : at + (bits / 32 - 1) * 4 + 4 ≤ long = subst (λ n. at + (bits / 32 - 1) * n + n ≤ long) w last in omega (arith, here, l.least, l.multiple)
copy_room e n bits at long (inr (inr (inr s))) l same h = let w : n ≡ 8 = omega arith in let last : at + (bits / 64 - 1) * n + n ≤ long = h (bits / 64 - 1) (rw s (omega (arith, l.least))) in let here : at + (bits / 64 - 1) * 8 + 8 ≤ long = subst (λ n. at + (bits / 64 - 1) * n + n ≤ long) w last in omega (arith, here, l.least, l.multiple)

-- ---- lanes of other vectors with the same predicates

pub same_lane : (bs : List ℕ) (p : Plan) (pg whole : ℕ) (v w : Vectors) (j k : ℕ) → v.p ≡ w.p → lane_in bs p pg whole v j k ≡ lane_in bs p pg whole w j k
same_lane bs p pg whole v w j k h =
    ap (λ (t : Bool). if t then extended_by p.is_signed p.bits (8 * p.bytes) (number_in bs ((k * p.registers + j) * p.bytes) p.bytes) else 0) (same_kept whole pg p.bits k v w h)
