-- The breaks and watches of a session, and what its commands seek: of the machines that a walk passes, which meet one.
use Rattle.std.specs.Prelude.{ℕ, ◌+◌, ◌-◌, ◌^◌, min, slice_set, Bool, true, false, not, ◌&&◌, ◌||◌, List, [], ◌∷◌, ◌++◌}
use Rattle.std.specs.Prelude.{map, filter, position, Option, Some, None, is_none, nat_eq, nat_lt, nat_le, if◌then◌else◌}
use Rattle.std.specs.List.{list_any}
use Rattle.emu_model.specs.declared.access.Access.{Access}
use Rattle.emu_model.specs.Access.{value}
use Rattle.emu_model.specs.State.{Parts}
use Rattle.dbg_model.specs.Session.{shares}
use Rattle.debug_values.specs.Calls.{is_call, is_return}
use Rattle.debug_values.specs.Values.{holds}
use Rattle.debug_words.specs.declared.commands.Change.{Change}
use Rattle.debug_words.specs.declared.commands.Change.TheVariants.{Delete, Disable, Enable}
use Rattle.debug_words.specs.declared.commands.WatchKind.{WatchKind}
use Rattle.debug_words.specs.declared.commands.WatchKind.TheVariants.{Writes, Reads, Both}
use Rattle.debug_places.specs.declared.conditions.Condition.{Condition}
use Rattle.debug_points.specs.declared.aims.Aim.{Aim}
use Rattle.debug_points.specs.declared.aims.Aim.TheVariants as aims
use Rattle.debug_points.specs.declared.points.Point.{Point}
use Rattle.debug_points.specs.declared.points.What.{What}
use Rattle.debug_points.specs.declared.points.What.TheVariants.{Break, Watch}

-- the breaks and watches in the order in which they were added, and the number of the next
pub record Points : Type 0 where
  pub items : List Point
  pub next : ℕ

-- ---- which machines meet one

abbrev pub is_of_kind : WatchKind → Bool → Bool
is_of_kind Writes write = write
is_of_kind Reads write = not write
is_of_kind Both write = true

abbrev pub touches : WatchKind → ℕ → ℕ → Access → Bool
touches kind address count access =
    is_of_kind kind access.write && shares (record { address = address; count = count }) access

abbrev pub holds_if : Parts → Option Condition → Bool
holds_if m None = true
holds_if m (Some condition) = holds m condition

abbrev pub what_meets : What → Parts → List Access → Bool
what_meets (Break address condition) m made = nat_eq m.core.pc address && holds_if m condition
what_meets (Watch kind address count) m made = list_any (touches kind address count) made

abbrev pub point_meets : Parts → List Access → Point → Bool
point_meets m made p = p.enabled && what_meets p.what m made

-- the place of the first that a machine meets behind a step that made these accesses
abbrev pub first_met : List Point → Parts → List Access → Option ℕ
first_met points m made = position (point_meets m made) points

-- ---- what commands seek, beside stops

abbrev pub is_inside : ℕ → ℕ → ℕ → Bool
is_inside start behind pc = nat_le start pc && nat_lt pc behind

-- the stack is as deep as it was, or less, and where it is as deep the place is outside of the function
abbrev pub is_outside : ℕ → ℕ → ℕ → Parts → Bool
is_outside sp start behind m =
    nat_le sp m.core.sp && (nat_lt sp m.core.sp || not (is_inside start behind m.core.pc))

-- none; a place; a place with the stack not deeper; behind a return from the function; before a call of it; behind a
-- write; a place outside, or also a call
abbrev pub aim_meets : Aim → ℕ → Parts → List Access → Bool
aim_meets aims.Stops from m made = false
aim_meets (aims.At address) from m made = nat_eq m.core.pc address
aim_meets (aims.Above address sp) from m made = nat_eq m.core.pc address && nat_le sp m.core.sp
aim_meets (aims.Return sp start behind) from m made =
    is_return (value m.memory from 4) && is_outside sp start behind m
aim_meets (aims.Call sp start behind) from m made =
    is_call (value m.memory m.core.pc 4) && is_outside sp start behind m
aim_meets (aims.Write address count) from m made = list_any (touches Writes address count) made
aim_meets (aims.Outside start behind calls) from m made =
    not (is_inside start behind m.core.pc) || (calls && is_call (value m.memory m.core.pc 4))

abbrev pub goal_meets : List Point → Aim → ℕ → Parts → List Access → Bool
goal_meets points aim from m made =
    is_none m.ended && (list_any (point_meets m made) points || aim_meets aim from m made)

-- ---- changes

abbrev pub no_points : Points
no_points = record { items = []; next = 1 }

abbrev pub new_point : ℕ → What → Bool → Point
new_point number what once =
    record { number = number; what = what; once = once; enabled = true; ignored = 0; hits = 0 }

abbrev pub with_point : What → Bool → Points → Points
with_point what once points =
    record { items = points.items ++ new_point points.next what once ∷ []; next = points.next + 1 }

abbrev pub is_chosen : Option ℕ → Point → Bool
is_chosen None p = true
is_chosen (Some number) p = nat_eq p.number number

abbrev pub with_enabled : Bool → Option ℕ → Point → Point
with_enabled enabled number p =
    if is_chosen number p
    then record {
      number = p.number;
      what = p.what;
      once = p.once;
      enabled = enabled;
      ignored = p.ignored;
      hits = p.hits;
    }
    else p

abbrev pub changed : Change → Option ℕ → Points → Points
changed Delete number points =
    record { items = filter (λ p. not (is_chosen number p)) points.items; next = points.next }
changed Disable number points =
    record { items = map (with_enabled false number) points.items; next = points.next }
changed Enable number points = record { items = map (with_enabled true number) points.items; next = points.next }

-- the one of a number passes so many stops
abbrev pub with_ignored : ℕ → ℕ → Point → Point
with_ignored number count p =
    if nat_eq p.number number
    then record {
      number = p.number;
      what = p.what;
      once = p.once;
      enabled = p.enabled;
      ignored = count;
      hits = p.hits;
    }
    else p

abbrev pub ignoring : ℕ → ℕ → Points → Points
ignoring number count points =
    record { items = map (with_ignored number count) points.items; next = points.next }

-- ---- where the machine meets one

-- it was met once more, 2^64 - 1 times at most, and has one stop less to pass
abbrev pub met_again : Point → Point
met_again p = record {
  number = p.number;
  what = p.what;
  once = p.once;
  enabled = p.enabled;
  ignored = p.ignored - 1;
  hits = min (p.hits + 1) (2 ^ 64 - 1);
}

abbrev pub with_met : ℕ → Point → Points → Points
with_met place p points = record { items = slice_set points.items place (met_again p); next = points.next }

-- where the machine stops at one that stops only once, it is deleted
abbrev pub behind_met : ℕ → Point → Points → Points
behind_met place p points =
    if nat_eq p.ignored 0 && p.once then changed Delete (Some p.number) (with_met place p points)
    else with_met place p points
