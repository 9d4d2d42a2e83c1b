use Rattle.std.proofs.Common.{◌≡◌, take, false}
use Rattle.std.specs.List.{list_any}
use Rattle.emu_model.specs.declared.access.Kind.TheVariants.{Write}
use Rattle.emu_system.specs.SystemCall.{with_ranges, is_denied, total}
use Rattle.linux_calls.specs.Taken.{Takes}
use Rattle.linux_calls.proofs.moves.take_ranges.Given as goal

abbrev pub invariant-loop-range : goal.invariant-loop-range
invariant-loop-range g l = record {
  full : l.count ≡ total (take l.range-index l.ranges);
  writable : list_any (is_denied l.mem.memory Write) l.ranges ≡ false;
  takes : Takes l.count (with_ranges l.fn.mem.memory (take l.range-index l.ranges)) l.mem.memory (g.S.Source.left l.fn.source) (g.S.Source.left l.source);
  marks : l.mem.marks ≡ l.fn.mem.marks;
  kept : g.S.Source.faults l.source ≡ g.S.Source.faults l.fn.source;
}
