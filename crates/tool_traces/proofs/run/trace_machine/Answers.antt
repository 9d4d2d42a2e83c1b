use Rattle.tool_traces.proofs.Told.{text_told}
use Rattle.tool_traces.proofs.run.trace_machine.Goals as goal

pub returns-clause-bytes : goal.returns-clause-bytes
returns-clause-bytes g c =
    text_told c.args.asked.now.shown c.args.asked.now.window c.args.machine.now.parts c.trace.new.machine.parts c.args.input.now c.args.budget c.in_ok-left.left
    (g.O.Sink.held c.args.output.now) (g.O.Sink.held c.trace.new.sink) (g.O.Sink.held c.put_closing.new.output)
    c.in_ok-left.ensures.bytes c.in_ok-left.ensures.left c.in_ok-left.ensures.parts c.in_ok-put_closing.ensures.bytes
