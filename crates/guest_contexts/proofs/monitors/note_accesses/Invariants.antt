use Rattle.std.proofs.Common.{◌≡◌, ◌++◌, take, drop, map}
use Rattle.emu_run.specs.Worlds.{behind_accesses}
use Rattle.guest_contexts.proofs.monitors.note_accesses.Given as goal

abbrev pub invariant-loop-context : goal.invariant-loop-context
invariant-loop-context l =
    take l.context-index l.contexts ++ map (behind_accesses l.made) (drop l.context-index l.contexts) ≡ map (behind_accesses l.made) l.fn.contexts
