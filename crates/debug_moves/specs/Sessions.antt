-- What a move of a session reaches, where it ends, and the breaks and watches that are left.
use Rattle.std.specs.Prelude.{◌≡◌, ℕ, zero, suc, ◌+◌, ◌-◌, ◌^◌, true, ◌||◌, min, List, [], Option, Some, None}
use Rattle.std.specs.Prelude.{is_some, slice_get, nat_eq, nat_le, if◌then◌else◌}
use Rattle.std.specs.List.{list_any}
use Rattle.emu_model.specs.declared.access.Access.{Access}
use Rattle.emu_model.specs.State.{Parts, State}
use Rattle.emu_run.specs.Run.{goes_on, until_end}
use Rattle.emu_run.specs.Step.{accesses}
use Rattle.emu_machine.specs.Machines.{MachineState}
use Rattle.dbg_model.specs.Session.{Course, stepped}
use Rattle.debug_walk.specs.Walks.{Tested, back_at, is_met_at, last_met, machines_before, made_before, sought}
use Rattle.debug_walk.specs.Walks.{sought_back}
use Rattle.debug_words.specs.declared.commands.WatchKind.TheVariants.{Writes}
use Rattle.debug_points.specs.declared.aims.Aim.{Aim}
use Rattle.debug_points.specs.declared.aims.Aim.TheVariants as aims
use Rattle.debug_points.specs.declared.points.Point.{Point}
use Rattle.debug_points.specs.Points.{Points, behind_met, first_met, goal_meets, point_meets, touches}
use Rattle.debug_moves.specs.declared.session.Reached.{Reached}
use Rattle.debug_moves.specs.declared.session.Reached.TheVariants as reached

-- the machine that stops at a break or watch meets it
abbrev pub MeetsStop : MachineState → Reached → Type 0
MeetsStop m (reached.Stop point) = point_meets m.parts m.accesses point ≡ true
MeetsStop m reached.Aim = Unit {0}
MeetsStop m (reached.Written address count) = list_any (touches Writes address count) m.accesses ≡ true
MeetsStop m reached.Slice = Unit {0}
MeetsStop m reached.End = Unit {0}

-- how many steps a command counts at most in all: a slice more than are counted, within the budget
abbrev pub limit : ℕ → ℕ → ℕ → ℕ
limit steps slice budget = min (min (steps + slice) (2 ^ 64 - 1)) budget

-- ---- a machine that meets a break or a watch, or an aim

-- what is reached there, unless the stop is passed, and the breaks and watches that are left
pub record Met : Type 0 where
  pub reached : Option Reached
  pub points : Points

-- a break or watch with no stop left to pass
abbrev pub met_point : Points → ℕ → Point → Met
met_point points place p =
    record { reached = if nat_eq p.ignored 0 then Some (reached.Stop p) else None; points = behind_met place p points }

abbrev pub met_place : Points → ℕ → Option Point → Met
met_place points place None = record { reached = Some reached.Aim; points = points }
met_place points place (Some p) = met_point points place p

abbrev pub met_by : Points → Option ℕ → Met
met_by points None = record { reached = Some reached.Aim; points = points }
met_by points (Some place) = met_place points place (slice_get points.items place)

-- the first of them that a machine meets behind a step that made these accesses, or else the aim
abbrev pub met_first : Points → Parts → List Access → Met
met_first points m made = met_by points (first_met points.items m made)

-- ---- a machine that meets none

-- nothing is met: the program has ended, its budget is spent or it is at its start; or the move stops by itself
abbrev pub unmet : ℕ → Parts → Reached
unmet budget m =
    if is_some m.ended || (nat_le budget m.steps || nat_eq m.steps 0) then reached.End else reached.Slice

-- ---- the last write

-- what a machine meets behind a step that wrote to so many bytes from an address on
abbrev pub meets_write : ℕ → ℕ → Tested
meets_write address count = goal_meets [] (aims.Write address count)

-- the last such machine before this one, by how many stand before it
abbrev pub last_write : ℕ → ℕ → State → Course → Option ℕ
last_write address count start c = last_met (meets_write address count) start 0 (machines_before c.state.parts)

-- back to it
abbrev pub back_to_write : ℕ → ℕ → State → Course → Course
back_to_write address count start c = sought_back (meets_write address count) start 0 c

-- ---- where a move ends

-- how far the session has come then, the breaks and watches that are left, and what was reached
pub record Moved : Type 0 where
  pub course : Course
  pub points : Points
  pub reached : Reached

abbrev pub moved_unmet : ℕ → Points → Course → Moved
moved_unmet budget points c = record { course = c; points = points; reached = unmet budget c.state.parts }

-- a stop; or, where it is passed, what comes of the points that are left
abbrev pub stop_or : Option Reached → Points → Course → (Points → Moved) → Moved
stop_or (Some reached) points c pass = record { course = c; points = points; reached = reached }
stop_or None points c pass = pass points

-- on to the first machine within n steps that meets a break or watch with no stop left to pass, or the aim; each that
-- is met before it has one stop less to pass
unfoldable pub seek_on : Aim → ℕ → Points → Course → ℕ → Moved
seek_on aim budget points c zero = moved_unmet budget points c
seek_on aim budget points c (suc n) =
    if goes_on c.state
    then (if goal_meets points.items aim c.state.parts.core.pc (stepped c).state.parts (accesses c.state.parts)
    then (let met = met_first points (stepped c).state.parts (accesses c.state.parts) in
    stop_or met.reached met.points (stepped c) (λ left. seek_on aim budget left (stepped c) n))
    else seek_on aim budget points (stepped c) n)
    else moved_unmet budget points c

-- to the first of them that meets one, until so many steps are counted in all
abbrev pub next_met : Aim → ℕ → Points → Course → Course
next_met aim until points c = sought (goal_meets points.items aim) c (until - c.state.parts.steps)

abbrev pub seek_until : Aim → ℕ → ℕ → Points → Course → Moved
seek_until aim budget until points c = seek_on aim budget points c (until - c.state.parts.steps)

abbrev pub moved_on : Aim → ℕ → ℕ → Points → Course → Moved
moved_on aim slice budget points c = seek_until aim budget (limit c.state.parts.steps slice budget) points c

-- back to the last of the first n machines, from the one behind `least` steps on, that meets a break or watch with no
-- stop left to pass, or the aim; or else to the one behind `least` steps
unfoldable pub seek_back : Aim → ℕ → State → ℕ → Course → Points → ℕ → Moved
seek_back aim budget start least c points zero = moved_unmet budget points (back_at start least c)
seek_back aim budget start least c points (suc n) =
    if nat_le least n
    then (if is_met_at (goal_meets points.items aim) start n
    then (let met = met_first points (until_end start n).parts (made_before start n) in
    stop_or met.reached met.points (back_at start n c) (λ left. seek_back aim budget start least c left n))
    else seek_back aim budget start least c points n)
    else moved_unmet budget points (back_at start least c)

-- to the last of those before the machine that meets one
abbrev pub met_before : Aim → State → ℕ → Points → Course → Course
met_before aim start least points c = sought_back (goal_meets points.items aim) start least c

abbrev pub back_from : Aim → ℕ → State → ℕ → Points → Course → Moved
back_from aim budget start least points c =
    seek_back aim budget start least c points (machines_before c.state.parts)

-- a slice of steps at most
abbrev pub moved_back : Aim → ℕ → ℕ → Points → State → Course → Moved
moved_back aim slice budget points start c = back_from aim budget start (c.state.parts.steps - slice) points c
