-- The numbers of contexts by how they stand, and whether they have a monitor.
use Rattle.std.specs.Prelude.{◌≡◌, ◌<◌, ◌↔◌, ℕ, Bool, true, is_some, List, length, get_or, filter}
use Rattle.std.specs.List.{All, list_any, range_with_len}
use Rattle.emu_run.specs.Worlds.{Context, is_ready, no_context}

-- those that are ready, in order
abbrev pub ready_among : List Context → List ℕ
ready_among contexts = filter (λ k. is_ready (get_or contexts k no_context)) (range_with_len 0 (length contexts))

-- one of these contexts has this number, and is ready
pub record IsReadyIn (contexts : List Context) (k : ℕ) : Type 0 where
  pub within : k < length contexts
  pub ready : is_ready (get_or contexts k no_context) ≡ true

-- these are the numbers of the contexts that are ready
pub record AreReady (contexts : List Context) (numbers : List ℕ) : Type 0 where
  pub ready : numbers ≡ ready_among contexts
  pub each : All (IsReadyIn contexts) numbers
  pub some : (list_any is_ready contexts ≡ true) ↔ (0 < length numbers)

abbrev pub has_monitor : Context → Bool
has_monitor c = is_some c.core.monitor
