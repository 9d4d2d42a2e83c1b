-- One lane of a gather or of a scatter.
use Rattle.std.proofs.Common.{◌≡◌, ◌≤◌, ◌<◌, ℕ, ◌+◌, ◌*◌, ◌%◌, true, false, List, [], ◌∷◌, ◌++◌, length, Some, None, sym, ap, subst, ◌∙◌, arith}
use Rattle.emu_model.specs.declared.access.Access.{Access}
use Rattle.emu_model.specs.declared.access.Kind.TheVariants.{Read, Write}
use Rattle.emu_model.specs.declared.trap.Trap.{Trap}
use Rattle.emu_model.specs.declared.trap.TrapKind.TheVariants.{Read as ReadTrap, Write as WriteTrap}
use Rattle.emu_model.specs.Access.{Memory, refused, stored}
use Rattle.emu_model.specs.Elements.{Element}
use Rattle.emu_model.specs.State.{Vectors}
use Rattle.emu_model.specs.Lanes.{lane, read_z}
use Rattle.sve_effects.specs.VectorElements.{Layout, elements_below, elements_of}
use Rattle.guest_mem.specs.ReachLaws.{AreLoaded, StopsLoad, AreStored, StopsStore, length_accesses}
use Rattle.element_loops.specs.declared.plan.Plan.{Plan}
use Rattle.element_loops.specs.declared.plan.Target.{Target}
use Rattle.element_loops.specs.declared.plan.Target.TheVariants.{Registers}
use Rattle.element_loops.specs.Layouts.{layout_of}
use Rattle.element_loops.specs.Planned.{stored_by}
use Rattle.element_loops.specs.SoFar.{element_of_lane, elements_within}
use Rattle.element_loops.proofs.Loads as loads
use Rattle.element_loops.proofs.Stores as stores
use Rattle.element_loops.proofs.Turns.{within_none, below_count}

module _ (l : Layout) (m : Memory) (k : ℕ) (one : l.registers ≡ 1) where
  first : 0 < l.registers
  first = omega (arith, one)

  all : l.registers ≤ 1
  all = omega (arith, one)

  some : 1 ≤ l.registers
  some = omega (arith, one)

  -- ---- loads

  begins : (log : List Access) → AreLoaded m (elements_below l k) log → AreLoaded m (elements_within l k 0) log
  begins log h = subst (λ (es : List Element). AreLoaded m es log) (sym (within_none l k)) h

  pub lane_loaded : (log after : List Access) → l.is_on k ≡ true → AreLoaded m (elements_below l k) log → refused m (l.address k 0) l.bytes Read ≡ None
      → after ≡ log ++ record { address = l.address k 0; bytes = l.bytes; write = false } ∷ [] → AreLoaded m (elements_below l (k + 1)) after
  lane_loaded log after on h allowed more = loads.lane_ends l m k 1 after on all some (loads.lane_goes_on l m k 0 log after (begins log h) allowed more)

  pub lane_stopped : (log after : List Access) (trap : Trap) → l.is_on k ≡ true → k < l.lanes → AreLoaded m (elements_below l k) log → trap.kind ≡ ReadTrap
      → refused m (l.address k 0) l.bytes Read ≡ Some trap.address → after ≡ log → StopsLoad m (elements_of l) after trap
  lane_stopped log after trap on within h is denied kept = loads.lane_stops l m k 0 log after trap on within first (begins log h) is denied kept

  pub few_loaded : (log : List Access) → AreLoaded m (elements_below l k) log → length log ≤ k
  few_loaded log h =
      let a : length (elements_below l k) ≤ k * l.registers = below_count k l in
      let b : length log ≡ length (elements_below l k) = ap length h.logged ∙ length_accesses false (elements_below l k) in
      let c : k * l.registers ≡ k = ap (λ r. k * r) one ∙ omega arith in
      omega arith

  -- ---- stores

  pub lane_stored : (f : Element → ℕ) (now next : Memory) (log after : List Access) → l.is_on k ≡ true → AreStored f m (elements_below l k) now log
      → refused now (l.address k 0) l.bytes Write ≡ None → next ≡ stored now (l.address k 0) l.bytes (f (element_of_lane l k 0))
      → after ≡ log ++ record { address = l.address k 0; bytes = l.bytes; write = true } ∷ [] → AreStored f m (elements_below l (k + 1)) next after
  lane_stored f now next log after on h allowed is more =
      stores.lane_ends f l m k 1 next after on all some (stores.lane_goes_on f l m k 0 now next log after (stores.lane_begins f l m k now log h) allowed is more)

  pub store_stopped : (f : Element → ℕ) (now next : Memory) (log after : List Access) (trap : Trap) → l.is_on k ≡ true → k < l.lanes → AreStored f m (elements_below l k) now log
      → trap.kind ≡ WriteTrap → refused now (l.address k 0) l.bytes Write ≡ Some trap.address → next ≡ now → after ≡ log → StopsStore f m (elements_of l) next after trap
  store_stopped f now next log after trap on within h is denied same kept =
      stores.lane_stops f l m k 0 now next log after trap on within first (stores.lane_begins f l m k now log h) is denied same kept

-- what is stored of a lane
pub value_stored : (p : Plan) (v : Vectors) (k r x : ℕ) → p.target ≡ Registers → r ≡ (p.register + 0) % 32 → x ≡ lane p.bits (read_z v r) k
    → x ≡ stored_by p.target (layout_of p v) v (element_of_lane (layout_of p v) k 0)
value_stored p v k r x target register is =
    is ∙ ap (λ r. lane p.bits (read_z v r) k) register
    ∙ ap (λ (t : Target). stored_by t (layout_of p v) v (element_of_lane (layout_of p v) k 0)) (sym target)
