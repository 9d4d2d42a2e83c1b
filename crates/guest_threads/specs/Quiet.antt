-- Steps of one context that move no byte of a stream, one after the other.
use Rattle.std.specs.Prelude.{◌≡◌, ◌<◌, ◌≤◌, ℕ, zero, suc, ◌+◌, Bool, List, length, Option, true, false, is_none}
use Rattle.emu_machine.specs.declared.ends.Progress.{Progress}
use Rattle.emu_machine.specs.declared.ends.Progress.TheVariants.{GoesOn, Trapped, AtCall}
use Rattle.emu_machine.specs.declared.ends.StepEnd.{StepEnd}
use Rattle.emu_machine.specs.declared.ends.StepEnd.TheVariants.{Going}
use Rattle.emu_machine.specs.Ends.{is_undone, step_end}
use Rattle.emu_run.specs.declared.thread.SchedulePlace.{SchedulePlace}
use Rattle.guest_contexts.specs.declared.begin.Turn.{Turn}
use Rattle.emu_run.specs.Threads.{next_place, one, pick, quietly, stepped, turn_at}
use Rattle.emu_run.specs.Worlds.{World}
use Rattle.guest_threads.specs.Ends.{Becomes, IsKept, IsPlace, IsReadyAt, PutsAlways, TakesWithin}

-- a step of context k makes `v` of `w`, and both go on
pub record IsQuiet (k : ℕ) (w v : World) : Type 0 where
  pub is : (input : List ℕ) → one w k input ≡ quietly v input
  pub goes : is_none v.ended ≡ true
  pub counted : v.steps ≡ w.steps + 1
  pub at : IsReadyAt v k

-- and so do so many
abbrev pub AreQuiet : ℕ → ℕ → World → World → Type 0
AreQuiet zero k w v = v ≡ w
AreQuiet (suc n) k w v = (u : World) × (AreQuiet n k w u × IsQuiet k u v)

-- ---- how far the steps of the last context came that make no call

pub record AdvancesOn (until : ℕ) (w v : World) : Type 0 where
  pub count : ℕ
  pub quiet : AreQuiet count w.last w v
  pub most : v.steps ≤ until

-- the last of them ends the world
pub record AdvancesToEnd (until : ℕ) (w v : World) : Type 0 where
  pub count : ℕ
  pub at : World
  pub quiet : AreQuiet count w.last w at
  pub below : at.steps < until
  pub is : (input : List ℕ) → one at w.last input ≡ quietly v input
  pub ended : is_none v.ended ≡ false

-- the last of them ended it
abbrev pub has_trapped : Progress → Bool
has_trapped GoesOn = false
has_trapped Trapped = true
has_trapped AtCall = false

-- ---- steps of a schedule

-- the step of a place of the schedule is quiet, and the next one is of place q
pub record IsFollowed (schedule : List (ℕ × ℕ)) (p : SchedulePlace) (w : World) (q : SchedulePlace) (v : World) : Type 0 where
  pub context : ℕ
  pub picked : context ≡ pick w schedule p
  pub at : IsReadyAt w context
  pub quiet : IsQuiet context w v
  pub next : q ≡ next_place v schedule p context

-- and so do so many follow each other
abbrev pub AreFollowed : ℕ → List (ℕ × ℕ) → SchedulePlace → World → SchedulePlace → World → Type 0
AreFollowed zero schedule p w q v = (q ≡ p) × (v ≡ w)
AreFollowed (suc n) schedule p w q v = (o : SchedulePlace) × (u : World) × (AreFollowed n schedule p w o u × IsFollowed schedule o u q v)

-- some do, and the world goes on
pub record FollowsOn (schedule : List (ℕ × ℕ)) (budget : ℕ) (p : SchedulePlace) (w : World) (q : SchedulePlace) (v : World) : Type 0 where
  pub count : ℕ
  pub followed : AreFollowed count schedule p w q v
  pub goes : is_none v.ended ≡ true
  pub most : v.steps ≤ budget
  pub placed : IsPlace v schedule q

-- the one behind them ends the world
pub record FollowsToEnd (schedule : List (ℕ × ℕ)) (budget : ℕ) (p : SchedulePlace) (w v : World) : Type 0 where
  pub count : ℕ
  pub place : SchedulePlace
  pub at : World
  pub followed : AreFollowed count schedule p w place at
  pub context : ℕ
  pub picked : context ≡ pick at schedule place
  pub ready : IsReadyAt at context
  pub goes : is_none at.ended ≡ true
  pub below : at.steps < budget
  pub is : (input : List ℕ) → one at context input ≡ quietly v input
  pub ended : is_none v.ended ≡ false

-- the world is behind some steps of a turn or before its first one
pub record StopsWithin (schedule : List (ℕ × ℕ)) (turn : Turn) (v : World) : Type 0 where
  pub place : turn.place < length schedule
  pub before : turn.before < length v.contexts
  pub begun : (turn_at schedule turn.place).1 ≤ turn.until
  pub on : turn.until ≤ v.steps + (turn_at schedule turn.place).1

-- ---- steps of context k of which all but the last are quiet

pub record TakesSteps (k until : ℕ) (w v : World) (end : StepEnd) (told left held_old held_new errs_old errs_new : Option (List ℕ)) : Type 0 where
  pub count : ℕ
  pub at : World
  pub quiet : AreQuiet count k w at
  pub below : at.steps < until
  pub state : Becomes (λ st. stepped st k) at v told left (is_undone end)
  pub input : TakesWithin (λ st. stepped st k) at told left (is_undone end)
  pub output : PutsAlways (λ st. (stepped st k).output) at held_old held_new (is_undone end)
  pub errors : PutsAlways (λ st. (stepped st k).errors) at errs_old errs_new (is_undone end)
  pub ends : is_undone end ≡ false → end ≡ step_end v.ended
  pub counted : end ≡ Going → v.steps ≡ at.steps + 1
  pub kept : is_undone end ≡ true → IsKept at v k told left
