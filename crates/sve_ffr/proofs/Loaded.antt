-- What a load of the elements of a list leaves.
use Rattle.std.proofs.Common.{◌≡◌, ◌≤◌, ◌<◌, ℕ, suc, ◌/◌, Bool, true, false, List, [], ◌∷◌, ◌++◌, length, get_or, Option, Some, None, nat_lt, if◌then◌else◌, refl, sym, ap, ◌∙◌, arith}
use Rattle.std.proofs.lemmas.Bool.Decides.{nat_tests}
use Rattle.std.proofs.lemmas.List.{append-nil}
use Rattle.guest_mem.specs.declared.access_log.ElementList.{ElementList}
use Rattle.emu_model.specs.declared.access.Access.{Access}
use Rattle.emu_model.specs.declared.access.Kind.TheVariants.{Read}
use Rattle.emu_model.specs.declared.trap.Effect.TheVariants.{Next}
use Rattle.emu_model.specs.declared.trap.TrapKind.TheVariants.{SpAlign}
use Rattle.emu_model.specs.Access.{Memory, refused}
use Rattle.emu_model.specs.Done.{Done, traps}
use Rattle.emu_model.specs.Elements.{Element, accesses_of}
use Rattle.emu_model.specs.Lists.{each}
use Rattle.emu_model.specs.State.{Core, Vectors}
use Rattle.emu_model.specs.Lanes.{with_ffr, with_lanes}
use Rattle.sve_effects.specs.FirstFault.{element_at, first_suppressed, unsuppressed, first_refused, cleared_from, first_cleared, is_before, loaded_from, loaded_unless}
use Rattle.sve_effects.specs.FirstFaultParts.{with_first_fault, first_fault_loaded}
use Rattle.std.specs.Option.{option_or}
use Rattle.sve_effects.specs.VectorLoadStore.{tests_sp, is_misaligned}
use Rattle.element_loops.specs.Listed.{listed, listed_at}
use Rattle.sve_ffr.specs.declared.first_fault_load.FirstFaultLoad.{FirstFaultLoad}
use Rattle.sve_ffr.specs.declared.taking.Taken.{Taken}
use Rattle.sve_ffr.specs.Rows.{first_fault_by}
use Rattle.sve_ffr.specs.Taking.{AreFrom, AreTaken, lane_numbers, rest_of, taken_lane}
use Rattle.sve_ffr.proofs.Cleared.{lanes_agree}
use Rattle.sve_ffr.proofs.Takes.{rest_more}

-- ---- the first element

pub some_listed : (r n : ℕ) (ps : List (ℕ × ℕ)) → nat_lt 0 (length ps) ≡ tests_sp true (listed_at r n ps)
some_listed r n [] = refl
some_listed r n (p ∷ ps) = let some : 0 < suc (length ps) = omega arith in grind (arith, nat_tests)

pub first_is : (r : ℕ) (list : ElementList) (m : Memory) → 0 < length list.lanes.items → first_refused m (listed r list) ≡ refused m (get_or list.lanes.items 0 (0, 0)).1 list.bytes Read
first_is r list m h = ap (first_refused m) (rest_more r list 0 h)

-- ---- all lanes

or_else_none : (o : Option ℕ) → option_or o None ≡ o
or_else_none None = refl
or_else_none (Some k) = refl

nothing_left : (es : List Element) (n : ℕ) → AreFrom n n (lane_numbers es) → es ≡ []
nothing_left [] n h = refl
nothing_left (e ∷ es) n h = let from : n ≤ e.lane = h.0 in let below : e.lane < n = h.1 in absurd (omega arith)

module _ (r e : ℕ) (list : ElementList) (v w next : Vectors) (m now : Memory) (t : Taken) (end : Option ℕ) (log : List Access) (c : Core) where
  pub loaded_is : AreFrom 0 (v.bits / e) (lane_numbers (listed r list)) → AreTaken r e (v.bits / e) list m (v.bits / e) t log
      → w ≡ with_ffr v (cleared_from e t.suppressed v.ffr) → end ≡ first_cleared e w.ffr (w.bits / e)
      → ((f h : ℕ → ℕ) → t.values.items ≡ each (w.bits / e) f → ((k : ℕ) → is_before end k ≡ true → f k ≡ h k) → next ≡ with_lanes e (λ k. if is_before end k then h k else 0) r w)
      → now ≡ m → first_fault_loaded list.signed e r (listed r list) c v m ≡ record { core = c; vectors = next; memory = now; accesses = log; effect = Next }
  loaded_is from taken cleared ends written same =
      let es : List Element = listed r list in
      let left : rest_of r list t.next ≡ [] = nothing_left (rest_of r list t.next) (v.bits / e) taken.ascending in
      let suppressed : t.suppressed ≡ first_suppressed m (listed r list)
      = sym (or_else_none t.suppressed) ∙ ap (λ (es : List Element). option_or t.suppressed (first_suppressed m es)) (sym left) ∙ taken.suppressed in
      let logged : log ≡ accesses_of false (unsuppressed m (listed r list))
      = sym (append-nil log) ∙ ap (λ (es : List Element). log ++ accesses_of false (unsuppressed m es)) (sym left) ∙ taken.logged in
      let is : w ≡ with_ffr v (cleared_from e (first_suppressed m (listed r list)) v.ffr) = cleared ∙ ap (λ (o : Option ℕ). with_ffr v (cleared_from e o v.ffr)) suppressed in
      let stop : end ≡ first_cleared e (cleared_from e (first_suppressed m (listed r list)) v.ffr) (v.bits / e) = ends ∙ ap (λ (w : Vectors). first_cleared e w.ffr (w.bits / e)) is in
      let h : ℕ → ℕ = λ k. loaded_from list.signed e m (element_at (listed r list) k) in
      let given : t.values.items ≡ each (w.bits / e) (taken_lane r e list m) = taken.values ∙ ap (λ (w : Vectors). each (w.bits / e) (taken_lane r e list m)) (sym is) in
      let agree : (k : ℕ) → is_before end k ≡ true → taken_lane r e list m k ≡ loaded_from list.signed e m (element_at (listed r list) k)
      = λ k before. lanes_agree list.signed e (v.bits / e) m (listed r list) v.ffr k from (ap (λ (o : Option ℕ). is_before o k) (sym stop) ∙ before) in
      let write : next ≡ with_lanes e (λ k. if is_before end k then h k else 0) r w = written (taken_lane r e list m) h given agree in
      let all : next ≡ with_first_fault list.signed e r m (listed r list) (cleared_from e (first_suppressed m (listed r list)) v.ffr) v
      = write ∙ ap (λ (o : Option ℕ). with_lanes e (λ k. if is_before o k then h k else 0) r w) stop
      ∙ ap (with_lanes e (λ k. if is_before (first_cleared e (cleared_from e (first_suppressed m (listed r list)) v.ffr) (v.bits / e)) k then h k else 0) r) is in
      let made : Vectors → Memory → List Access → Done = λ vectors memory accesses. record { core = c; vectors = vectors; memory = memory; accesses = accesses; effect = Next } in
      ap (λ vectors. made vectors m (accesses_of false (unsuppressed m (listed r list)))) (sym all)
      ∙ ap (λ memory. made next memory (accesses_of false (unsuppressed m (listed r list)))) (sym same)
      ∙ ap (made next now) (sym logged)

-- ---- no trap

pub by_loaded : (row : FirstFaultLoad) (s : Bool) (es : List Element) (c : Core) (v : Vectors) (m now : Memory) (d : Done) → is_misaligned row.has_sp_base es c ≡ false
    → (if row.is_non_fault then None else first_refused m es) ≡ None → now ≡ m → first_fault_loaded s row.bits row.register es c v now ≡ d → first_fault_by row s es c v m ≡ d
by_loaded row s es c v m now d aligned allowed same loaded =
    ap (λ (t : Bool). if t then traps c v m SpAlign c.sp else loaded_unless (if row.is_non_fault then None else first_refused m es) (first_fault_loaded s row.bits row.register es c v m) c v m) aligned
    ∙ ap (λ (o : Option ℕ). loaded_unless o (first_fault_loaded s row.bits row.register es c v m) c v m) allowed
    ∙ ap (first_fault_loaded s row.bits row.register es c v) (sym same) ∙ loaded
