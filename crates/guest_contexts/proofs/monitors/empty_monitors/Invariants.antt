use Rattle.std.proofs.Common.{◌≡◌, ◌++◌, None, take, drop, map}
use Rattle.emu_run.specs.Worlds.{with_monitor}
use Rattle.guest_contexts.proofs.monitors.empty_monitors.Given as goal

abbrev pub invariant-loop-context : goal.invariant-loop-context
invariant-loop-context l =
    take l.context-index l.contexts ++ map (with_monitor None) (drop l.context-index l.contexts) ≡ map (with_monitor None) l.fn.contexts
