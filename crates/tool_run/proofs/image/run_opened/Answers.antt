use Rattle.std.proofs.Common.{string_bytes}
use Rattle.tool_run.specs.Stops.{IsTold}
use Rattle.tool_run.proofs.Stopping.{stopped_alone}
use Rattle.tool_run.proofs.image.run_opened.Goals as goal

pub returns-in-None-clause-stopped : goal.returns-in-None-clause-stopped
returns-in-None-clause-stopped g c =
    let told = c.run_machine.result in
    stopped_alone (IsTold (string_bytes told.said) c.args.wanted told.report_failed (g.R.Sink.held c.args.registers.now)
    (g.R.Sink.held c.run_machine.new.registers)) c.args.second c.args.text.now c.args.bytes.now
    c.args.segments.now c.args.budget c.args.machine.parts (g.I.Source.left c.args.input.now) told.ending
    c.in-None.is c.run_machine.ensures.stopped
