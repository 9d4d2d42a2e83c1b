use Rattle.std.proofs.Common.{◌≡◌, take}
use Rattle.std.specs.Prelude.{flat_map}
use Rattle.trace_lines.specs.Lines.{access_text, HasGained}
use Rattle.trace_lines.proofs.accesses.put_accesses.Given as goal

abbrev pub invariant-accesses : goal.invariant-accesses
invariant-accesses g l = record {
  put : HasGained (g.S.Sink.held l.fn.sink) (g.S.Sink.held l.sink) (flat_map (access_text l.old.memory l.new.memory) (take l.access-index l.accesses));
  kept : g.S.Sink.faults l.sink ≡ g.S.Sink.faults l.fn.sink;
}
