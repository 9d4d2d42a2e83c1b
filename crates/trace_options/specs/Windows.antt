-- Which steps of a run a trace tells: from one on as far as another, and of these those of a range of addresses.
use Rattle.std.specs.Prelude.{ℕ, ◌-◌, Bool, true, false, not, ◌&&◌, ◌||◌, nat_eq, nat_le, nat_lt, Option, Some, None}
use Rattle.std.specs.Prelude.{if◌then◌else◌}
use Rattle.trace_options.specs.declared.window.Range.{Range}
use Rattle.trace_options.specs.declared.window.Stage.{Stage}
use Rattle.trace_options.specs.declared.window.Stage.TheVariants.{Waiting, Telling, Over}
use Rattle.trace_options.specs.declared.window.Window.{Window}

-- the first step may stand here
abbrev pub begins_at : Option ℕ → ℕ → Bool
begins_at None pc = true
begins_at (Some a) pc = nat_eq a pc

-- the trace ends before a step here
abbrev pub ends_at : Option ℕ → ℕ → Bool
ends_at None pc = false
ends_at (Some a) pc = nat_eq a pc

-- a step here is told
abbrev pub is_in_range : Option Range → ℕ → Bool
is_in_range None pc = true
is_in_range (Some range) pc = nat_le range.start pc && nat_lt (pc - range.start) range.size

-- it awaits the first step: the last of so many arrivals, none of which is before step `after`
abbrev pub first_stage : Window → Stage
first_stage w = Waiting w.call

-- how far it has come before a step, by how far it came before
abbrev pub stage_at : Window → Stage → ℕ → ℕ → Stage
stage_at w Over steps pc = Over
stage_at w (Telling left) steps pc = if nat_eq left 0 || ends_at w.until pc then Over else Telling left
stage_at w (Waiting calls) steps pc =
    if nat_lt steps w.after || not (begins_at w.from pc) then Waiting calls
    else (if nat_lt 1 calls then Waiting (calls - 1) else Telling w.steps)

-- and behind the step
abbrev pub behind : Stage → Stage
behind (Waiting calls) = Waiting calls
behind (Telling left) = Telling (left - 1)
behind Over = Over

abbrev pub is_over : Stage → Bool
is_over (Waiting calls) = false
is_over (Telling left) = false
is_over Over = true
