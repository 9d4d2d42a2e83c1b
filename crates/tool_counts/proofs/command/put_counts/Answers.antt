use Rattle.std.proofs.Common.{ℕ, subst}
use Rattle.io_gate.specs.Streams.{Rose}
use Rattle.tool_refusals.proofs.Endings.{done_leaves, write_leaves}
use Rattle.tool_counts.proofs.Told.{then_told}
use Rattle.tool_counts.specs.Counted.{stop_lines}
use Rattle.tool_counts.proofs.command.put_counts.Goals as goal

pub returns-in-Ok-put_stops-clause-done : goal.returns-in-Ok-put_stops-clause-done
returns-in-Ok-put_stops-clause-done g c = λ _.
    then_told (g.O.Sink.held c.args.output.now) (g.O.Sink.held c.put_all.new.sink) (g.O.Sink.held c.put_stops.new.output) c.as_bytes.result.now c.args.text.now (stop_lines c.args.headed c.args.stops.now)
    c.as_bytes.ensures.value c.in-Ok.ensures.bytes c.in-Ok-put_stops.ensures.bytes

pub returns-in-Ok-put_stops-clause-leaves : goal.returns-in-Ok-put_stops-clause-leaves
returns-in-Ok-put_stops-clause-leaves g c = done_leaves tt

pub returns-in-Err-clause-leaves : goal.returns-in-Err-clause-leaves
returns-in-Err-clause-leaves g c = write_leaves c.in-Err.ensures.cause.failed tt

pub returns-in-Err-put_stops-clause-leaves : goal.returns-in-Err-put_stops-clause-leaves
returns-in-Err-put_stops-clause-leaves g c =
    write_leaves (subst (λ (n : ℕ). Rose n (g.O.Sink.faults c.put_stops.new.output)) c.in-Ok.ensures.cause.kept c.in-Err-put_stops.ensures.cause.failed) tt
