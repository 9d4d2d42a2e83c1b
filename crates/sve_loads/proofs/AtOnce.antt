-- The first lanes of a register, and no others, loaded or stored at once.
use Rattle.std.proofs.Common.{◌≡◌, ◌<◌, ◌≤◌, ◌+◌, ◌-◌, ◌*◌, ◌/◌, ◌%◌, ◌^◌, ℕ, zero, suc, Bool, true, false, not, ◌&&◌, if◌then◌else◌, nat_eq, nat_lt, List, [], ◌∷◌, ◌++◌, length, take, drop, get_or, None, inl, inr, refl, sym, ap, subst, ◌∙◌, arith}
use Rattle.std.proofs.Math.Nat.{mul-le-mul_right, zero-div}
use Rattle.std.proofs.lemmas.Bool.{cases_lt, lt-ltb, le-ltb}
use Rattle.std.proofs.lemmas.List.{get_or_past}
use Rattle.std.proofs.lemmas.Nat.{div-add-mod'}
use Rattle.emu_model.specs.declared.access.Access.{Access}
use Rattle.emu_model.specs.declared.access.Kind.{Kind}
use Rattle.emu_model.specs.declared.access.Kind.TheVariants.{Read, Write}
use Rattle.emu_model.specs.declared.trap.Effect.TheVariants.{Next}
use Rattle.emu_model.specs.declared.trap.TrapKind.TheVariants.{SpAlign}
use Rattle.emu_model.specs.Access.{Memory, address, refused, value}
use Rattle.emu_model.specs.AccessLaws.{length_bytes_at}
use Rattle.emu_model.specs.Done.{Done, traps}
use Rattle.emu_model.specs.Elements.{Element, Reach, reach, accesses_of}
use Rattle.emu_model.specs.Lanes.{byte_in, read_z, with_z, with_lanes}
use Rattle.emu_model.specs.LaneSizes.{IsLaneSize}
use Rattle.emu_model.specs.Lists.{each}
use Rattle.emu_model.specs.ListLaws.{each_same, length-each, get_or-each}
use Rattle.emu_model.specs.Pages.{bytes_at, with_bytes}
use Rattle.emu_model.specs.SoundState.{IsVectorLength}
use Rattle.emu_model.specs.State.{Core, Vectors}
use Rattle.emu_model.specs.WithinPage.{number_in}
use Rattle.vec_regs.specs.Words.{byte_of, bytes_of}
use Rattle.vec_regs.proofs.PackedLanes.{below_quotient}
use Rattle.active_lanes.proofs.Kept.{kept_front, kept_later}
use Rattle.active_lanes.proofs.Words.{copied_lanes}
use Rattle.contiguous_runs.specs.Leading.{AreLeading}
use Rattle.emu_bits.specs.Numbers.{signed}
use Rattle.sve_effects.specs.Lane.{extended_by}
use Rattle.sve_effects.specs.VectorElements.{base_and_count, Layout, lane_elements, elements_below, elements_of}
use Rattle.sve_effects.specs.VectorLoadStore.{loaded_lane, with_loaded, tests_sp, is_misaligned, loaded_to, stored_to}
use Rattle.guest_mem.specs.ReachLaws.{AreStored, all_of}
use Rattle.element_loops.specs.declared.plan.Plan.{Plan}
use Rattle.element_loops.specs.declared.plan.Places.TheVariants.{Bytes}
use Rattle.element_loops.specs.declared.plan.Target.{Target}
use Rattle.element_loops.specs.Layouts.{layout_of}
use Rattle.element_loops.specs.Planned.{loaded_by, stored_by, load_by, store_by}
use Rattle.element_loops.specs.Runs.{IsRun}
use Rattle.element_loops.proofs.RunLoads.{all_reached, element_value, part_allowed}
use Rattle.element_loops.proofs.RunNotes.{noted_below, run_address}
use Rattle.element_loops.proofs.RunStores.{lanes_put, slice_each}
use Rattle.element_loops.proofs.Stores.{lanes_skipped, stores_begin}
use Rattle.sve_effects.specs.LaneLoop.{lane_bits}
use Rattle.sve_loads.specs.Plans.{consecutive_plan, filled_shape, size_shape, z_plan}
use Rattle.element_loops.proofs.Turns.{none_taken, skipped, taken_is_loaded, taken_more}

-- ---- elements of the first lanes

below_again : (l : Layout) (n k : ℕ) → elements_below (record l { lanes = n }) k ≡ elements_below l k
unfolding elements_below
below_again l n zero = refl
below_again l n (suc k) = ap (λ (es : List Element). es ++ (if l.is_on k then lane_elements l k else [])) (below_again l n k)

idle_below : (l : Layout) (n d : ℕ) → ((i : ℕ) → n ≤ i → i < n + d → l.is_on i ≡ false) → elements_below l (n + d) ≡ elements_below l n
idle_below l n zero off = let e : n + 0 ≡ n = omega arith in ap (elements_below l) e
idle_below l n (suc d) off =
    let e : n + suc d ≡ n + d + 1 = omega arith in
    ap (elements_below l) e ∙ skipped l (n + d) (off (n + d) (omega arith) (omega arith)) ∙ idle_below l n d (λ i lo hi. off i lo (omega arith))

fits_among : (k n w : ℕ) → k < n → k * w + w ≤ n * w
fits_among k n w h =
    let next : suc k ≤ n = omega arith in
    let times : suc k * w ≤ n * w = mul-le-mul_right w next in
    let more : suc k * w ≡ k * w + w = omega arith in
    omega (arith, times, more)

-- a byte behind the first n lanes of w bytes
behind_all : (j n w : ℕ) → n ≤ j / w → n * w ≤ j
behind_all j n w h =
    let times : n * w ≤ j / w * w = mul-le-mul_right w h in
    let whole : j / w * w + j % w ≡ j = div-add-mod' j w in
    omega (arith, times, whole)

nothing_first : (xs : List ℕ) → drop 0 xs ≡ xs
nothing_first [] = refl
nothing_first (x ∷ xs) = refl

module _ (base pg whole n : ℕ) (p : Plan) (v : Vectors) (run : IsRun base pg whole p v) (size : IsLaneSize p.bits) (vector : IsVectorLength v.bits) (lanes : p.lanes ≡ v.bits / p.bits)
    (few : n ≤ p.lanes) (on : (k : ℕ) → k < p.lanes → (layout_of p v).is_on k ≡ nat_lt k n) where
  first_on : (k : ℕ) → k < n → (layout_of p v).is_on k ≡ true
  first_on k h = on k (omega (arith, h, few)) ∙ lt-ltb k n h

  other_off : (k : ℕ) → n ≤ k → k < p.lanes → (layout_of p v).is_on k ≡ false
  other_off k h b = on k b ∙ le-ltb k n h

  all_first : elements_of (layout_of p v) ≡ elements_below (layout_of p v) n
  all_first =
      let e : p.lanes ≡ n + (p.lanes - n) = omega (arith, few) in
      ap (elements_below (layout_of p v)) e ∙ idle_below (layout_of p v) n (p.lanes - n) (λ i lo hi. other_off i lo (omega (arith, hi, few)))

  first_reached : (m : Memory) (kind : Kind) → refused m base (n * p.bytes) kind ≡ None → reach m kind (elements_below (layout_of p v) n) ≡ all_of (elements_below (layout_of p v) n)
  first_reached m kind h =
      let l : Layout = layout_of p v in
      let first : Layout = record l { lanes = n } in
      subst (λ (es : List Element). reach m kind es ≡ all_of es) (below_again l n n)
      (all_reached first m kind (λ k j b c.
      let none : j ≡ 0 = omega (arith, c, run.one) in
      ap (λ j. refused m (l.address k j) p.bytes kind) none
      ∙ ap (λ a. refused m a p.bytes kind) (run_address base pg whole p v run.line run.one k)
      ∙ part_allowed m base (n * p.bytes) (k * p.bytes) p.bytes kind h (fits_among k n p.bytes b)))

  first_noted : (w : Bool) (log : List Access) → log ≡ each n (λ i. record { address = address (base + i * p.bytes); bytes = p.bytes; write = w }) → log ≡ accesses_of w (elements_of (layout_of p v))
  first_noted w log is =
      let f : ℕ → Access = λ i. record { address = address (base + i * p.bytes); bytes = p.bytes; write = w } in
      let one : n ≡ n * 1 = omega arith in
      is ∙ ap (λ n. each n f) one ∙ ap (λ r. each (n * r) f) (sym run.one)
      ∙ sym (noted_below base pg whole p v run.line w n first_on) ∙ ap (accesses_of w) (sym all_first)

  -- ---- what is loaded

  first_loaded_byte : (m : Memory) → ((k : ℕ) → get_or (bytes_at m base (n * p.bytes)) k 0 < 256) → (j : ℕ) → j < v.bits / 8
      → get_or (bytes_at m base (n * p.bytes)) j 0 ≡ byte_in (p.bits / 8) (loaded_lane p.is_signed (layout_of p v) m 0) j
  first_loaded_byte m small j b =
      let l : Layout = layout_of p v in
      let bs : List ℕ = bytes_at m base (n * p.bytes) in
      let k : ℕ = j / (p.bits / 8) in
      let d : ℕ = 2 ^ (8 * (j % (p.bits / 8))) in
      let width : p.bits / 8 ≡ p.bytes = omega (arith, run.same) in
      let lane : j / (p.bits / 8) < v.bits / p.bits = below_quotient p.bits v.bits j size vector b in
      let lane_of_all : j / (p.bits / 8) < p.lanes = subst (λ n. j / (p.bits / 8) < n) (sym lanes) lane in
      let among : Bool → ℕ = λ t. (if t then extended_by p.is_signed p.bits (8 * p.bytes) (value m (l.address k 0) p.bytes) else 0) / d % 256 in
      elim (cases_lt k n) [
        | inl h ↦
            (let none : 0 + k * p.bytes ≡ k * p.bytes = omega arith in
            let start : j ≡ 0 + j = omega arith in
            ap (λ k. get_or bs k 0) start
            ∙ copied_lanes p.bits p.bytes 0 j bs size run.same small
            ∙ ap (λ a. extended_by false p.bits (8 * p.bytes) (number_in bs a p.bytes) / d % 256) none
            ∙ ap (λ s. extended_by s p.bits (8 * p.bytes) (number_in bs (k * p.bytes) p.bytes) / d % 256) (sym run.unsigned)
            ∙ ap (λ x. extended_by p.is_signed p.bits (8 * p.bytes) x / d % 256)
            (sym (ap (λ a. value m a p.bytes) (run_address base pg whole p v run.line run.one k) ∙ element_value m base (n * p.bytes) (k * p.bytes) p.bytes (fits_among k n p.bytes h)))
            ∙ ap among (sym (first_on k h)))
        | inr h ↦
            (let place : n ≤ j / p.bytes = subst (λ w. n ≤ j / w) width h in
            let past : n * p.bytes ≤ j = behind_all j n p.bytes place in
            get_or_past bs j 0 (omega (arith, past, length_bytes_at (n * p.bytes) m base))
            ∙ sym (ap (λ x. x % 256) (zero-div d))
            ∙ ap among (sym (other_off k h lane_of_all)))
      ]

  first_loaded : (m : Memory) (zt : ℕ) (next : Vectors) → ((k : ℕ) → get_or (bytes_at m base (n * p.bytes)) k 0 < 256) → zt ≡ (p.register + 0) % 32
      → next ≡ with_z v zt (each (v.bits / 8) (λ j. get_or (bytes_at m base (n * p.bytes)) j 0))
      → next ≡ with_loaded p.is_signed (layout_of p v) m p.registers v
  first_loaded m zt next small at written =
      let l : Layout = layout_of p v in
      let f : ℕ → ℕ → ℕ = loaded_lane p.is_signed l m in
      let bytes : ℕ → ℕ = λ j. get_or (bytes_at m base (n * p.bytes)) j 0 in
      let made : next ≡ with_lanes p.bits (f 0) zt v = written ∙ ap (with_z v zt) (each_same (v.bits / 8) bytes (byte_in (p.bits / 8) (f 0)) 0 (first_loaded_byte m small)) in
      taken_more p.bits f p.register 0 zt v v next (none_taken p.bits f p.register v) at made
      ∙ taken_is_loaded p.is_signed l m 1 v
      ∙ ap (λ r. with_loaded p.is_signed l m r v) (sym run.one)

  -- the load of the plan
  pub load_of_first : (c : Core) (m : Memory) (zt : ℕ) (next : Vectors) (log : List Access)
      → is_misaligned p.has_sp_base (elements_of (layout_of p v)) c ≡ false
      → refused m base (n * p.bytes) Read ≡ None → ((k : ℕ) → get_or (bytes_at m base (n * p.bytes)) k 0 < 256) → zt ≡ (p.register + 0) % 32
      → next ≡ with_z v zt (each (v.bits / 8) (λ j. get_or (bytes_at m base (n * p.bytes)) j 0))
      → log ≡ each n (λ i. record { address = address (base + i * p.bytes); bytes = p.bytes; write = false })
      → load_by p c v m ≡ record { core = c; vectors = next; memory = m; accesses = log; effect = Next }
  load_of_first c m zt next log aligned free small at written noted =
      let l : Layout = layout_of p v in
      let es : List Element = elements_of l in
      let reached : reach m Read es ≡ all_of es = subst (λ (es : List Element). reach m Read es ≡ all_of es) (sym all_first) (first_reached m Read free) in
      let done : Done = loaded_to (reach m Read es) (loaded_by p.target p.is_signed l m v) c v m in
      let after : loaded_by p.target p.is_signed l m v ≡ next = ap (λ (t : Target). loaded_by t p.is_signed l m v) run.target ∙ sym (first_loaded m zt next small at written) in
      ap (λ (t : Bool). if t then traps c v m SpAlign c.sp else done) aligned
      ∙ ap (λ (r : Reach). loaded_to r (loaded_by p.target p.is_signed l m v) c v m) reached
      ∙ ap (λ (x : Vectors). loaded_to (all_of es) x c v m) after
      ∙ ap (λ (xs : List Access). record { core = c; vectors = next; memory = m; accesses = xs; effect = Next }) (sym (first_noted false log noted))

  -- ---- what is stored

  pub store_of_first : (c : Core) (m next : Memory) (zt : ℕ) (words : List ℕ) (log : List Access)
      → is_misaligned p.has_sp_base (elements_of (layout_of p v)) c ≡ false
      → base < 2 ^ 64 → n * p.bytes ≤ v.bits / 8
      → refused m base (n * p.bytes) Write ≡ None → zt ≡ (p.register + 0) % 32 → read_z v zt ≡ bytes_of (v.bits / 8) words
      → next ≡ with_bytes m base (take (n * p.bytes) (read_z v zt))
      → log ≡ each n (λ i. record { address = address (base + i * p.bytes); bytes = p.bytes; write = true })
      → store_by p c v m ≡ record { core = c; vectors = v; memory = next; accesses = log; effect = Next }
  store_of_first c m next zt words log aligned word fits free at is written noted =
      let l : Layout = layout_of p v in
      let es : List Element = elements_of l in
      let f : Element → ℕ = stored_by p.target l v in
      let w : ℕ = p.bytes in
      let z : List ℕ = read_z v ((p.register + 0) % 32) in
      let same : read_z v zt ≡ z = ap (read_z v) at in
      let has : z ≡ bytes_of (v.bits / 8) words = sym same ∙ is in
      let long : length (read_z v ((p.register + 0) % 32)) ≡ v.bits / 8 = ap length has ∙ length-each (v.bits / 8) (byte_of 8 words) in
      let buf : List ℕ = each 256 (byte_of 8 words) in
      let most : v.bits / 8 ≤ 256 = omega (arith, vector.most) in
      let small : (j : ℕ) → get_or buf j 0 < 256 = λ j. elim (cases_lt j 256) [
        | inl b ↦ subst (λ x. x < 256) (sym (get_or-each 256 (byte_of 8 words) j 0 b)) (omega arith)
        | inr b ↦ subst (λ x. x < 256) (sym (get_or_past buf j 0 (omega (arith, b, length-each 256 (byte_of 8 words))))) (omega arith)
      ] in
      let full : length (each 256 (byte_of 8 words)) ≡ 256 = length-each 256 (byte_of 8 words) in
      let there : (j : ℕ) → j < v.bits / 8 → get_or buf j 0 ≡ get_or z j 0 = λ j b.
      get_or-each 256 (byte_of 8 words) j 0 (omega (arith, b, most)) ∙ sym (get_or-each (v.bits / 8) (byte_of 8 words) j 0 b) ∙ ap (λ (xs : List ℕ). get_or xs j 0) (sym has) in
      let zero_size : 0 * w ≡ 0 = omega arith in
      let count : 0 * w + n * w - 0 * w ≡ n * w = omega arith in
      let room : 0 + n * w ≤ length (each 256 (byte_of 8 words)) = omega (arith, full, fits, most) in
      let inside : 0 + n * p.bytes ≤ length (read_z v ((p.register + 0) % 32)) = omega (arith, long, fits) in
      let piece : take (n * w) (read_z v zt) ≡ take (0 * w + n * w - 0 * w) (drop (0 * w) buf)
      = ap (take (n * w)) same
      ∙ ap (take (n * w)) (sym (nothing_first z))
      ∙ slice_each (n * w) 0 z inside
      ∙ each_same (n * w) (λ t. get_or z (0 + t) 0) (λ t. get_or buf (0 + t) 0) 0 (λ t b. sym (there (0 + t) (omega (arith, b, fits))))
      ∙ sym (slice_each (n * w) 0 buf room)
      ∙ ap (λ x. take x (drop 0 buf)) (sym count)
      ∙ ap (λ x. take (0 * w + n * w - 0 * w) (drop x buf)) (sym zero_size) in
      let long_piece : length (take (n * w) (read_z v zt)) ≡ n * w = ap (λ (xs : List ℕ). length (take (n * w) xs)) same ∙ ap (λ (xs : List ℕ). length (take (n * w) xs)) (sym (nothing_first z)) ∙ ap length (slice_each (n * w) 0 z inside) ∙ length-each (n * w) (λ t. get_or z (0 + t) 0) in
      let place : base ≡ address (base + 0 * w) = omega (arith, word, zero_size) in
      let within : 0 + n ≤ p.lanes = omega (arith, few) in
      let stored_first : AreStored f m (elements_below l (0 + n)) next log
      = lanes_put base pg whole p v run size vector lanes f (ap (λ (t : Target). stored_by t l v) run.target)
      m m next [] log 0 n base (0 * w) (0 * w + n * w) buf (take (n * w) (read_z v zt))
      (stores_begin f l m [] refl) long there small full within refl refl piece place
      (λ i lo hi. first_on i (omega (arith, hi)))
      (ap (λ x. refused m base x Write) long_piece ∙ free) written noted in
      let sum : 0 + n ≡ n = omega arith in
      let all : n + (p.lanes - n) ≡ p.lanes = omega (arith, few) in
      let stored_all : AreStored f m es next log
      = subst (λ x. AreStored f m (elements_below l x) next log) all
      (lanes_skipped f l m n (p.lanes - n) next log (λ i lo hi. other_off i lo (omega (arith, hi, few)))
      (subst (λ x. AreStored f m (elements_below l x) next log) sum stored_first)) in
      let done : Done = stored_to (reach m Write es) f c v m in
      ap (λ (t : Bool). if t then traps c v m SpAlign c.sp else done) aligned
      ∙ ap (λ (r : Reach). stored_to r f c v m) stored_all.reached
      ∙ ap (λ (x : Memory). record { core = c; vectors = v; memory = x; accesses = accesses_of true es; effect = Next }) (sym stored_all.memory)
      ∙ ap (λ (xs : List Access). record { core = c; vectors = v; memory = next; accesses = xs; effect = Next }) (sym stored_all.logged)

-- ---- by the plans

pub fits_register : (e bits n : ℕ) → IsLaneSize e → IsVectorLength bits → n ≤ bits / e → n * (e / 8) ≤ bits / 8
fits_register e bits n (inl s) l = rw s (λ h. omega (arith, l.multiple))
fits_register e bits n (inr (inl s)) l = rw s (λ h. omega (arith, l.multiple))
fits_register e bits n (inr (inr (inl s))) l = rw s (λ h. omega (arith, l.multiple))
fits_register e bits n (inr (inr (inr s))) l = rw s (λ h. omega (arith, l.multiple))

pub all_bytes : (e bits : ℕ) → IsLaneSize e → IsVectorLength bits → bits / 8 ≡ 1 * (bits / e) * (e / 8)
all_bytes e bits (inl s) l = rw s (omega (arith, l.multiple))
all_bytes e bits (inr (inl s)) l = rw s (omega (arith, l.multiple))
all_bytes e bits (inr (inr (inl s))) l = rw s (omega (arith, l.multiple))
all_bytes e bits (inr (inr (inr s))) l = rw s (omega (arith, l.multiple))

eight_times : (e : ℕ) → IsLaneSize e → e ≡ 8 * (e / 8)
eight_times e (inl s) = rw s refl
eight_times e (inr (inl s)) = rw s refl
eight_times e (inr (inr (inl s))) = rw s refl
eight_times e (inr (inr (inr s))) = rw s refl

module _ (base pg n zt rn e : ℕ) (v : Vectors) (size : IsLaneSize e) (vector : IsVectorLength v.bits) (few : n ≤ v.bits / e) (leading : AreLeading n e pg v) (register : zt < 32) where
  active_run : IsRun base pg 0 (consecutive_plan (filled_shape e) zt pg rn base v) v
  active_run = record {
    line = record {
      placed = inl refl;
      on = λ k h. sym (kept_later 0 pg e v k (omega arith));
      few = omega arith;
    };
    target = refl;
    one = refl;
    same = eight_times e size;
    unsigned = refl;
  }

  pub active_loaded : (c : Core) (m : Memory) (next : Vectors) (log : List Access)
      → ((es : List Element) → is_misaligned (nat_eq rn 31) es c ≡ false)
      → refused m base (n * (e / 8)) Read ≡ None → ((k : ℕ) → get_or (bytes_at m base (n * (e / 8))) k 0 < 256)
      → next ≡ with_z v zt (each (v.bits / 8) (λ j. get_or (bytes_at m base (n * (e / 8))) j 0))
      → log ≡ each n (λ i. record { address = address (base + i * (e / 8)); bytes = e / 8; write = false })
      → load_by (consecutive_plan (filled_shape e) zt pg rn base v) c v m ≡ record { core = c; vectors = next; memory = m; accesses = log; effect = Next }
  active_loaded c m next log aligned free small written noted =
      load_of_first base pg 0 n (consecutive_plan (filled_shape e) zt pg rn base v) v active_run size vector refl few leading
      c m zt next log (aligned _) free small (omega (arith, register)) written noted

  pub active_stored : (c : Core) (m next : Memory) (words : List ℕ) (log : List Access)
      → ((es : List Element) → is_misaligned (nat_eq rn 31) es c ≡ false)
      → base < 2 ^ 64 → refused m base (n * (e / 8)) Write ≡ None → read_z v zt ≡ bytes_of (v.bits / 8) words
      → next ≡ with_bytes m base (take (n * (e / 8)) (read_z v zt))
      → log ≡ each n (λ i. record { address = address (base + i * (e / 8)); bytes = e / 8; write = true })
      → store_by (consecutive_plan (filled_shape e) zt pg rn base v) c v m ≡ record { core = c; vectors = v; memory = next; accesses = log; effect = Next }
  active_stored c m next words log aligned word free is written noted =
      store_of_first base pg 0 n (consecutive_plan (filled_shape e) zt pg rn base v) v active_run size vector refl few leading
      c m next zt words log (aligned _) word (fits_register e v.bits n size vector few) free (omega (arith, register)) is written noted

module _ (imm9h imm9l rn zt n base : ℕ) (core : Core) (v : Vectors) (vector : IsVectorLength v.bits) (register : zt < 32) (all : n ≡ v.bits / 8)
    (at : base ≡ base_and_count core rn (signed (imm9h * 8 + imm9l) 9) (v.bits / 8)) where
  whole_run : IsRun base 0 (v.bits / 64) (z_plan imm9h imm9l rn zt core v) v
  whole_run = record {
    line = record {
      placed = inr (ap Bytes (sym at), refl, refl);
      on = λ k h. sym (kept_front (v.bits / 64) 0 8 v k (omega (arith, h, vector.multiple)));
      few = omega arith;
    };
    target = refl;
    one = refl;
    same = refl;
    unsigned = refl;
  }

  whole_on : (k : ℕ) → k < v.bits / 8 → true ≡ nat_lt k n
  whole_on k h = sym (lt-ltb k n (omega (arith, h, all)))

  pub whole_loaded : (c : Core) (m : Memory) (next : Vectors) (log : List Access)
      → ((es : List Element) → is_misaligned (nat_eq rn 31) es c ≡ false)
      → refused m base (n * 1) Read ≡ None → ((k : ℕ) → get_or (bytes_at m base (n * 1)) k 0 < 256)
      → next ≡ with_z v zt (each (v.bits / 8) (λ j. get_or (bytes_at m base (n * 1)) j 0))
      → log ≡ each n (λ i. record { address = address (base + i * 1); bytes = 1; write = false })
      → load_by (z_plan imm9h imm9l rn zt core v) c v m ≡ record { core = c; vectors = next; memory = m; accesses = log; effect = Next }
  whole_loaded c m next log aligned free small written noted =
      load_of_first base 0 (v.bits / 64) n (z_plan imm9h imm9l rn zt core v) v whole_run (inl refl) vector refl (omega (arith, all)) whole_on
      c m zt next log (aligned _) free small (omega (arith, register)) written noted

  pub whole_stored : (c : Core) (m next : Memory) (words : List ℕ) (log : List Access)
      → ((es : List Element) → is_misaligned (nat_eq rn 31) es c ≡ false)
      → base < 2 ^ 64 → refused m base (n * 1) Write ≡ None → read_z v zt ≡ bytes_of (v.bits / 8) words
      → next ≡ with_bytes m base (take (n * 1) (read_z v zt))
      → log ≡ each n (λ i. record { address = address (base + i * 1); bytes = 1; write = true })
      → store_by (z_plan imm9h imm9l rn zt core v) c v m ≡ record { core = c; vectors = v; memory = next; accesses = log; effect = Next }
  whole_stored c m next words log aligned word free is written noted =
      store_of_first base 0 (v.bits / 64) n (z_plan imm9h imm9l rn zt core v) v whole_run (inl refl) vector refl (omega (arith, all)) whole_on
      c m next zt words log (aligned _) word (omega (arith, all)) free (omega (arith, register)) is written noted

-- ---- the tests

pub never_misaligned : (es : List Element) (c : Core) (b : Bool) → b ≡ false → is_misaligned b es c ≡ false
never_misaligned [] c b h = refl
never_misaligned (e ∷ es) c b h = ap (λ (t : Bool). t && not (nat_eq (c.sp % 16) 0)) h

pub aligned_sp : (es : List Element) (c : Core) (b : Bool) → c.sp % 16 ≡ 0 → is_misaligned b es c ≡ false
aligned_sp es c b h = and_false (tests_sp b es) (not (nat_eq (c.sp % 16) 0)) (ap (λ x. not (nat_eq x 0)) h)
  where
    and_false : (s t : Bool) → t ≡ false → (s && t) ≡ false
    and_false true t h = h
    and_false false t h = refl

-- lanes of a size have elements of that size
pub filled_size : (size msz : ℕ) → size ≡ msz → size < 4 → size_shape size msz 1 ≡ filled_shape (lane_bits size)
filled_size size msz same few = ap (λ x. size_shape size x 1) (sym same) ∙ by_size size few
  where
    by_size : (x : ℕ) → x < 4 → size_shape x x 1 ≡ filled_shape (lane_bits x)
    by_size zero h = refl
    by_size (suc zero) h = refl
    by_size (suc (suc zero)) h = refl
    by_size (suc (suc (suc zero))) h = refl
    by_size (suc (suc (suc (suc x)))) h = absurd (omega arith)
