-- First-faulting and non-faulting loads: what an element that is refused leaves of FFR and of the lanes. From the Arm
-- Architecture Reference Manual for A-profile (DDI 0487), C8.2 'Alphabetical list of SVE instructions': the operations
-- of the entries LDFF1B and LDNF1B and their kin, with the shared pseudocode ElemFFR and MemNF. These are this
-- project's own choice where the manual leaves them open: an element is suppressed only where it is refused, and a lane
-- from the first cleared bit of FFR on is 0.
use Rattle.std.specs.Prelude.{ℕ, ◌*◌, ◌/◌, Bool, false, not, ◌&&◌, List, [], ◌∷◌, get_or, length, Option, Some, None, is_some, nat_eq, nat_lt, if◌then◌else◌}
use Rattle.std.specs.Option.{option_map_or}
use Rattle.emu_model.specs.declared.access.Kind.TheVariants.{Read as ReadKind}
use Rattle.emu_model.specs.declared.trap.Effect.TheVariants.{Next}
use Rattle.emu_model.specs.declared.trap.TrapKind.TheVariants.{Read}
use Rattle.emu_model.specs.Access.{Memory, refused, value}
use Rattle.emu_model.specs.Done.{Done, traps}
use Rattle.emu_model.specs.Elements.{Element, accesses_of}
use Rattle.emu_model.specs.Lists.{each}
use Rattle.emu_model.specs.State.{Core, Vectors}
use Rattle.emu_model.specs.Active.{active}
use Rattle.emu_model.specs.Lanes.{with_ffr, with_lanes}
use Rattle.sve_effects.specs.Lane.{extended_by}
use Rattle.lane_model.specs.FirstLast.{first_where}
use Rattle.lane_model.specs.Predicate.{is_upto}
use Rattle.sve_effects.specs.VectorElements.{MemoryRow}
use Rattle.sve_effects.specs.VectorLoadStore.{has_sp_base, unless_misaligned}

-- The active lanes are those that have an element, of which each has one; the elements stand in order of lanes.

-- ---- elements that are refused

abbrev pub is_refused : Memory → Element → Bool
is_refused m e = is_some (refused m e.address e.bytes ReadKind)

-- the element of a lane, if it has one
abbrev pub element_at : List Element → ℕ → Option Element
element_at [] k = None
element_at (e ∷ es) k = if nat_eq e.lane k then Some e else element_at es k

-- the lane of the first suppressed element: the first that is refused
abbrev pub first_suppressed : Memory → List Element → Option ℕ
first_suppressed m [] = None
first_suppressed m (e ∷ es) = if is_refused m e then Some e.lane else first_suppressed m es

-- the elements that aren't suppressed
abbrev pub unsuppressed : Memory → List Element → List Element
unsuppressed m [] = []
unsuppressed m (e ∷ es) = if is_refused m e then unsuppressed m es else e ∷ unsuppressed m es

-- where a first-faulting load traps: the address that refuses the element of the first active lane
abbrev pub first_refused : Memory → List Element → Option ℕ
first_refused m [] = None
first_refused m (e ∷ es) = refused m e.address e.bytes ReadKind

-- ---- FFR and the lanes

-- the bits from lane q on are cleared; none are where no element is suppressed
abbrev pub cleared_from : ℕ → Option ℕ → List Bool → List Bool
cleared_from e place ffr =
    option_map_or (λ q. each (length ffr) (λ j. get_or ffr j false && nat_lt j (q * (e / 8)))) place ffr

-- the first of n lanes whose lowest bit in FFR is 0
abbrev pub first_cleared : ℕ → List Bool → ℕ → Option ℕ
first_cleared e ffr n = first_where n (λ k. not (active e ffr k))

-- k is before the place, or there is none
abbrev pub is_before : Option ℕ → ℕ → Bool
is_before found k = is_upto false found k

-- what was loaded, extended, and 0 where a lane has no element
abbrev pub loaded_from : Bool → ℕ → Memory → Option Element → ℕ
loaded_from is_signed e m found =
    option_map_or (λ x. extended_by is_signed e (8 * x.bytes) (value m x.address x.bytes)) found 0

-- ---- what is left

abbrev pub loaded_unless : Option ℕ → Done → Core → Vectors → Memory → Done
loaded_unless stop d c v m = option_map_or (traps c v m Read) stop d

-- A row with these elements; ldnf1 never traps on one. f is the address that refuses the element of the first active
-- lane, where that traps; q is the lane of the first suppressed element, from which FFR is cleared; g is the first lane
-- whose bit of FFR is then 0, from which the lanes are 0.
abbrev pub first_fault_row : Bool → MemoryRow → List Element → Core → Vectors → Memory → Done
first_fault_row never_traps r es c v m =
    let e : ℕ = r.width.bits in
    let f : Option ℕ = if never_traps then None else first_refused m es in
    let q : Option ℕ = first_suppressed m es in
    let ffr : List Bool = cleared_from e q v.ffr in
    let g : Option ℕ = first_cleared e ffr (v.bits / e) in
    let lane : ℕ → ℕ = λ k. if is_before g k then loaded_from r.width.is_signed e m (element_at es k) else 0 in
    let loaded : Done = record {
      core = c;
      vectors = with_ffr (with_lanes e lane r.first v) ffr;
      memory = m;
      accesses = accesses_of false (unsuppressed m es);
      effect = Next;
    } in
    unless_misaligned (has_sp_base r.brackets) es c v m (loaded_unless f loaded c v m)
