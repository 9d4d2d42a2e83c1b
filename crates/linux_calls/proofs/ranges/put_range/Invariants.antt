use Rattle.std.proofs.Common.{◌≡◌, ◌≤◌, ◌+◌, ◌-◌, ◌++◌, None, Some, IfSome}
use Rattle.emu_model.specs.declared.access.Kind.TheVariants.{Read}
use Rattle.emu_model.specs.Access.{refused}
use Rattle.emu_model.specs.Pages.{bytes_at}
use Rattle.linux_calls.proofs.ranges.put_range.Given as goal

abbrev pub invariant-loop-at : goal.invariant-loop-at
invariant-loop-at g l = record {
  within : l.at ≤ l.count;
  rest : refused l.fn.mem.memory (l.address + l.at) (l.count - l.at) Read ≡ None;
  unchanged : l.mem ≡ l.fn.mem;
  gained : IfSome (g.S.Sink.held l.fn.sink) (λ had. g.S.Sink.held l.sink ≡ Some (had ++ bytes_at l.fn.mem.memory l.address l.at));
  kept : g.S.Sink.faults l.sink ≡ g.S.Sink.faults l.fn.sink;
}

abbrev pub decreases-loop-at : goal.decreases-loop-at
decreases-loop-at g l = l.count - l.at
