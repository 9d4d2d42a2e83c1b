-- A first-faulting load of which no element is refused is the plain load, where FFR is all ones.
use Rattle.std.proofs.Common.{◌≡◌, ◌<◌, ℕ, ◌+◌, ◌*◌, ◌/◌, ◌%◌, ◌^◌, Bool, true, false, ◌&&◌, not, List, [], ◌∷◌, get_or, Option, Some, None, nat_eq, if◌then◌else◌, refl, sym, ap, subst, ◌∙◌, arith}
use Rattle.emu_model.specs.declared.access.Access.{Access}
use Rattle.emu_model.specs.declared.trap.Effect.TheVariants.{Next}
use Rattle.emu_model.specs.declared.trap.TrapKind.TheVariants.{SpAlign}
use Rattle.emu_model.specs.Access.{Memory, value}
use Rattle.emu_model.specs.Done.{Done, traps}
use Rattle.emu_model.specs.Elements.{Element, accesses_of}
use Rattle.emu_model.specs.SoundState.{IsVectorLength}
use Rattle.emu_model.specs.ListLaws.{each_same}
use Rattle.emu_model.specs.State.{Core, Vectors}
use Rattle.emu_model.specs.Lanes.{byte_in, with_z, with_lanes}
use Rattle.emu_model.specs.LaneSizes.{IsLaneSize}
use Rattle.vec_regs.proofs.PackedLanes.{below_quotient}
use Rattle.sve_effects.specs.Lane.{extended_by}
use Rattle.sve_effects.specs.FirstFaultParts.{first_fault_lane, with_first_fault, first_fault_loaded}
use Rattle.sve_effects.specs.FirstFault.{element_at, first_refused, first_suppressed, unsuppressed, cleared_from, is_before, loaded_from, loaded_unless}
use Rattle.sve_effects.specs.VectorElements.{Layout, elements_of}
use Rattle.sve_effects.specs.VectorLoadStore.{loaded_lane, with_loaded, tests_sp}
use Rattle.guest_mem.specs.ReachLaws.{AreLoaded}
use Rattle.element_loops.specs.declared.plan.Plan.{Plan}
use Rattle.element_loops.specs.declared.plan.Target.{Target}
use Rattle.element_loops.specs.declared.plan.Target.TheVariants.{Registers}
use Rattle.element_loops.specs.Layouts.{layout_of}
use Rattle.element_loops.specs.Planned.{loaded_by}
use Rattle.element_loops.proofs.Turns.{none_taken, taken_more, taken_is_loaded}
use Rattle.sve_gather.specs.FirstFaultPlan.{first_fault_by}
use Rattle.sve_gather.proofs.GatheredElements.{AreAllowed, all_allowed, lane_element, element_below}
use Rattle.sve_gather.proofs.Ffr.{none_cleared}

-- ---- lanes

lane_from : (s : Bool) (l : Layout) (m : Memory) (k : ℕ) → loaded_from s l.bits m (lane_element l k) ≡ loaded_lane s l m 0 k
lane_from s l m k = elim (l.is_on k) as (λ t. loaded_from s l.bits m (if t then Some (record { lane = k; register = (l.register + 0) % 32; address = l.address k 0; bytes = l.bytes }) else None)
    ≡ (if t then extended_by s l.bits (8 * l.bytes) (value m (l.address k 0) l.bytes) else 0)) [
      | true ↦ refl
      | false ↦ refl
    ]

pub lanes_same : (e zd : ℕ) (f g : ℕ → ℕ) (v : Vectors) → IsLaneSize e → IsVectorLength v.bits → ((k : ℕ) → k < v.bits / e → f k ≡ g k) → with_lanes e f zd v ≡ with_lanes e g zd v
lanes_same e zd f g v size long same =
    ap (with_z v zd) (each_same (v.bits / 8) (byte_in (e / 8) f) (byte_in (e / 8) g) 0 (λ j b. ap (λ x. x / 2 ^ (8 * (j % (e / 8))) % 256) (same (j / (e / 8)) (below_quotient e v.bits j size long b))))

-- the register of a plan of one is the first
same_register : (r : ℕ) → r < 32 → r ≡ (r + 0) % 32
same_register r h = omega arith

one_loaded : (s : Bool) (l : Layout) (m : Memory) (v : Vectors) → l.registers ≡ 1 → l.register < 32 → with_lanes l.bits (loaded_lane s l m 0) l.register v ≡ with_loaded s l m l.registers v
one_loaded s l m v one small =
    taken_more l.bits (loaded_lane s l m) l.register 0 l.register v v (with_lanes l.bits (loaded_lane s l m 0) l.register v) (none_taken l.bits (loaded_lane s l m) l.register v) (same_register l.register small) refl
    ∙ taken_is_loaded s l m 1 v
    ∙ ap (λ n. with_loaded s l m n v) (sym one)

-- ---- SP

aligned : (b t : Bool) (es : List Element) → b && t ≡ false → tests_sp b es && t ≡ false
aligned b t [] h = refl
aligned b t (e ∷ es) h = h

-- ---- the load

none_denied : (t : Bool) (o : Option ℕ) → o ≡ None → (if t then None else o) ≡ None
none_denied true o h = refl
none_denied false o h = h

module _ (p : Plan) (c : Core) (v next : Vectors) (m now : Memory) (log : List Access) where
  pub plain_is : p.target ≡ Registers → p.registers ≡ 1 → p.register < 32 → IsLaneSize p.bits → IsVectorLength v.bits → p.lanes ≡ v.bits / p.bits
      → p.has_sp_base && not (nat_eq (c.sp % 16) 0) ≡ false → ((j : ℕ) → j < v.bits / 8 → get_or v.ffr j false ≡ true)
      → AreLoaded m (elements_of (layout_of p v)) log → next ≡ loaded_by p.target p.is_signed (layout_of p v) m v → now ≡ m
      → (is_non_fault : Bool) → first_fault_by is_non_fault p c v m ≡ record { core = c; vectors = next; memory = now; accesses = log; effect = Next }
  plain_is target one small size long lanes sp full loaded registers same is_non_fault =
      let l : Layout = layout_of p v in
      let es : List Element = elements_of l in
      let s : Bool = p.is_signed in
      let e : ℕ = p.bits in
      let allowed : AreAllowed m es = all_allowed m es loaded.reached in
      let given : ℕ → ℕ = first_fault_lane s e m es v.ffr (v.bits / e) in
      let lane : (k : ℕ) → k < v.bits / e → given k ≡ loaded_lane s l m 0 k
      = λ k b.
      let within : k < p.lanes = subst (λ n. k < n) (sym lanes) b in
      ap (λ (o : Option ℕ). if is_before o k then loaded_from s e m (element_at es k) else 0) (none_cleared e v.bits v.ffr size long full)
      ∙ ap (loaded_from s e m) (element_below l one p.lanes k within)
      ∙ lane_from s l m k in
      let written : with_lanes e given p.register v ≡ next
      = lanes_same e p.register given (loaded_lane s l m 0) v size long lane
      ∙ one_loaded s l m v one small
      ∙ ap (λ (t : Target). loaded_by t s l m v) (sym target)
      ∙ sym registers in
      let kept : cleared_from e (first_suppressed m es) v.ffr ≡ v.ffr = ap (λ (o : Option ℕ). cleared_from e o v.ffr) allowed.suppressed in
      let vectors : with_first_fault s e p.register m es (cleared_from e (first_suppressed m es) v.ffr) v ≡ next
      = ap (λ (ffr : List Bool). with_first_fault s e p.register m es ffr v) kept ∙ written in
      let logged : accesses_of false (unsuppressed m es) ≡ log = ap (accesses_of false) allowed.unsuppressed ∙ sym loaded.logged in
      let made : Vectors → Memory → List Access → Done = λ vectors memory accesses. record { core = c; vectors = vectors; memory = memory; accesses = accesses; effect = Next } in
      let done : first_fault_loaded s e p.register es c v m ≡ made next now log
      = ap (λ (x : Vectors). made x m (accesses_of false (unsuppressed m es))) vectors
      ∙ ap (λ (x : Memory). made next x (accesses_of false (unsuppressed m es))) (sym same)
      ∙ ap (made next now) logged in
      ap (λ (t : Bool). if t then traps c v m SpAlign c.sp else loaded_unless (if is_non_fault then None else first_refused m es) (first_fault_loaded s e p.register es c v m) c v m)
      (aligned p.has_sp_base (not (nat_eq (c.sp % 16) 0)) es sp)
      ∙ ap (λ (o : Option ℕ). loaded_unless o (first_fault_loaded s e p.register es c v m) c v m) (none_denied is_non_fault (first_refused m es) allowed.first)
      ∙ done
