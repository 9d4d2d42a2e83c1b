use Rattle.std.proofs.Common.{◌≡◌, drop, map}
use Rattle.trace_options.specs.Showing.{nothing, with_names}
use Rattle.trace_options.proofs.shown.shown_by.Given as goal

-- what the names that are left say is what they all say
abbrev pub invariant-loop-place : goal.invariant-loop-place
invariant-loop-place l =
    with_names l.shown (drop l.place (map (λ name. name.now) l.names)) ≡ with_names nothing (map (λ name. name.now) l.names)
