use Rattle.std.proofs.Common.{◌≡◌, ◌≤◌, ◌+◌, ◌-◌, None}
use Rattle.emu_model.specs.declared.access.Kind.TheVariants.{Write}
use Rattle.emu_model.specs.Access.{refused}
use Rattle.emu_model.specs.Pages.{with_bytes}
use Rattle.linux_calls.specs.Taken.{Takes}
use Rattle.linux_calls.proofs.ranges.take_range.Given as goal

abbrev pub invariant-loop-at : goal.invariant-loop-at
invariant-loop-at g l = record {
  within : l.at ≤ l.count;
  writable : refused l.mem.memory (l.address + l.at) (l.count - l.at) Write ≡ None;
  takes : Takes l.at (with_bytes l.fn.mem.memory l.address) l.mem.memory (g.S.Source.left l.fn.source) (g.S.Source.left l.source);
  marks : l.mem.marks ≡ l.fn.mem.marks;
  kept : g.S.Source.faults l.source ≡ g.S.Source.faults l.fn.source;
}

abbrev pub decreases-loop-at : goal.decreases-loop-at
decreases-loop-at g l = l.count - l.at
