use Rattle.std.proofs.Common.{◌≡◌, ◌≤◌, ◌+◌, ◌-◌, ◌++◌, take, drop}
use Rattle.emu_run.specs.Worlds.{woken, wake_count}
use Rattle.guest_contexts.proofs.standings.wake.Given as goal

abbrev pub invariant-loop-context : goal.invariant-loop-context
invariant-loop-context l = record {
  done : take l.context-index l.contexts ++ woken l.address l.left (drop l.context-index l.contexts) ≡ woken l.address l.most l.fn.contexts;
  within : l.left ≤ l.most;
  count : (l.most - l.left) + wake_count l.address l.left (drop l.context-index l.contexts) ≡ wake_count l.address l.most l.fn.contexts;
}
