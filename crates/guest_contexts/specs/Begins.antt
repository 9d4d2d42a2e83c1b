-- The turn of a schedule that begins behind one that is used up.
use Rattle.std.specs.Prelude.{◌≡◌, ◌<◌, ◌≤◌, ◌+◌, ◌%◌, ◌^◌, ℕ, Bool, false, not, ◌&&◌, ◌||◌, is_some, nat_eq, nat_le, nat_lt, List, length, get_or}
use Rattle.std.specs.List.{list_any}
use Rattle.emu_model.specs.State.{Core, Parts, Vectors}
use Rattle.guest_schedule.specs.Turns.{IsSchedule}
use Rattle.emu_run.specs.Threads.{next_turn, turn_at}
use Rattle.emu_run.specs.Worlds.{World, Context, taken_by_context}
use Rattle.guest_contexts.specs.declared.begin.Turn.{Turn}
use Rattle.guest_contexts.specs.Laid.{world_of}
use Rattle.guest_contexts.specs.Standings.{AreReady, has_monitor}

-- a turn of a schedule that ends within the budget, and what is known of the contexts: the numbers of those that are ready, and
-- that none has a monitor while it isn't in the machine
pub record IsTurn (schedule : List (ℕ × ℕ)) (numbers : List ℕ) (contexts : List Context) (turn : Turn) : Type 0 where
  pub turns : IsSchedule schedule
  pub place : turn.place < length schedule
  pub context : turn.context < length contexts
  pub most : turn.until ≤ turn.budget
  pub ready : AreReady contexts numbers
  pub unwatched : list_any has_monitor contexts ≡ false

-- a turn, with the registers that the machine has, and the contexts
pub record TurnAt : Type 0 where
  pub turn : Turn
  pub core : Core
  pub vectors : Vectors
  pub contexts : List Context

-- the world of a machine that has these registers
abbrev pub world_at : Parts → TurnAt → World
world_at m a = world_of (record m { core = a.core; vectors = a.vectors }) a.turn.context a.contexts

-- the context of a turn that begins
abbrev pub context_of : List ℕ → ℕ × ℕ → ℕ
context_of numbers turn = get_or numbers (turn.0 % length numbers) 0

-- whether a turn begins behind this one, which is used up: there is a schedule, its next turn ends within the budget, a context is
-- ready, and the turn's context is the one that the machine has, or that one has no monitor
abbrev pub begins_next : List (ℕ × ℕ) → List ℕ → TurnAt → Bool
begins_next schedule numbers old =
    let next : ℕ × ℕ = turn_at schedule (next_turn schedule old.turn.place) in
    nat_lt 0 (length schedule) && (nat_le (old.turn.until + next.1) old.turn.budget && (nat_lt 0 (length numbers)
    && (nat_eq (context_of numbers next) old.turn.context || not (is_some old.core.monitor))))

-- behind the turn `old`, which is used up, `new` begins: the next one of the schedule, with the context at its place among those
-- that are ready; the world is the same, but for the context that the machine has
pub record Begins (schedule : List (ℕ × ℕ)) (numbers : List ℕ) (old new : TurnAt) : Type 0 where
  pub some : 0 < length schedule
  pub place : new.turn.place ≡ next_turn schedule old.turn.place
  pub among : ℕ
  pub below : among < length numbers
  pub is_among : among ≡ (turn_at schedule new.turn.place).0 % length numbers
  pub context : new.turn.context ≡ get_or numbers among 0
  pub before : new.turn.before ≡ old.turn.context
  pub until : new.turn.until ≡ old.turn.until + (turn_at schedule new.turn.place).1
  pub later : old.turn.until < new.turn.until
  pub fits : new.turn.until < 2 ^ 64
  pub budget : new.turn.budget ≡ old.turn.budget
  pub count : length new.contexts ≡ length old.contexts
  pub turn : IsTurn schedule numbers new.contexts new.turn
  pub world : (m : Parts) → world_at m new ≡ taken_by_context new.turn.context (world_at m old)
