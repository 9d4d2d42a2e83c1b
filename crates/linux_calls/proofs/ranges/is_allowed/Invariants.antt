use Rattle.std.proofs.Common.{◌≡◌, ◌≤◌, ◌+◌, ◌-◌}
use Rattle.emu_model.specs.Access.{refused}
use Rattle.linux_calls.proofs.ranges.is_allowed.Given as goal

abbrev pub invariant-loop-at : goal.invariant-loop-at
invariant-loop-at l = record {
  within : l.at ≤ l.count;
  rest : refused l.fn.mem.memory (l.address + l.at) (l.count - l.at) l.kind ≡ refused l.fn.mem.memory l.address l.count l.kind;
  unchanged : l.mem ≡ l.fn.mem;
}

abbrev pub decreases-loop-at : goal.decreases-loop-at
decreases-loop-at l = l.count - l.at
