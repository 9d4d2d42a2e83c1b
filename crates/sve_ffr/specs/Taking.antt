-- How far a load that goes over the lanes in order has taken the elements of a list.
use Rattle.std.specs.Prelude.{◌*◌, ◌≡◌, ◌≤◌, ◌<◌, ℕ, ◌+◌, Bool, false, ⊤, List, [], ◌∷◌, ◌++◌, length, drop, map, Option, None, Some, nat_eq, if◌then◌else◌}
use Rattle.guest_mem.specs.declared.access_log.ElementList.{ElementList}
use Rattle.emu_model.specs.declared.access.Access.{Access}
use Rattle.emu_model.specs.Access.{Memory, value}
use Rattle.emu_model.specs.Elements.{Element, accesses_of}
use Rattle.emu_model.specs.Lists.{each}
use Rattle.sve_effects.specs.Lane.{extended_by}
use Rattle.sve_effects.specs.FirstFault.{element_at, first_suppressed, is_refused, unsuppressed}
use Rattle.std.specs.Option.{option_or}
use Rattle.element_loops.specs.Listed.{listed, listed_at}
use Rattle.sve_ffr.specs.declared.taking.Taken.{Taken}

-- the lanes of some elements
abbrev pub lane_numbers : List Element → List ℕ
lane_numbers es = map (λ e. e.lane) es

-- lanes from k on and below n, each above the one before
abbrev pub AreFrom : ℕ → ℕ → List ℕ → Type 0
AreFrom k n [] = ⊤
AreFrom k n (q ∷ qs) = (k ≤ q) × (q < n) × AreFrom (q + 1) n qs

-- whether the first of some elements is that of lane k
abbrev pub starts_at : List Element → ℕ → Bool
starts_at [] k = false
starts_at (e ∷ es) k = nat_eq e.lane k

-- the elements of a list from the i-th on
abbrev pub rest_of : ℕ → ElementList → ℕ → List Element
rest_of r list i = listed_at r list.bytes (drop i list.lanes.items)

-- what lane k of e bits gets: its element, extended, and 0 where it is refused or there is none
abbrev pub taken_value : Bool → ℕ → Memory → Option Element → ℕ
taken_value is_signed e m None = 0
taken_value is_signed e m (Some x) = if is_refused m x then 0 else extended_by is_signed e (8 * x.bytes) (value m x.address x.bytes)

abbrev pub taken_lane : ℕ → ℕ → ElementList → Memory → ℕ → ℕ
taken_lane r e list m k = taken_value list.signed e m (element_at (listed r list) k)

-- The elements of the lanes below k, of n lanes of e bits, have been taken.
pub record AreTaken (r e n : ℕ) (list : ElementList) (m : Memory) (k : ℕ) (t : Taken) (log : List Access) : Type 0 where
  pub values : t.values.items ≡ each k (taken_lane r e list m)
  pub rest : (j : ℕ) → k ≤ j → element_at (listed r list) j ≡ element_at (rest_of r list t.next) j
  pub ascending : AreFrom k n (lane_numbers (rest_of r list t.next))
  pub logged : log ++ accesses_of false (unsuppressed m (rest_of r list t.next)) ≡ accesses_of false (unsuppressed m (listed r list))
  pub suppressed : option_or t.suppressed (first_suppressed m (rest_of r list t.next)) ≡ first_suppressed m (listed r list)
  pub room : length log ≤ k
